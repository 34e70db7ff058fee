-- `draw_in` meets its contract: where preparing is refused so is the call, and else the draw from what is prepared is the call's.
-- Assumes nothing.
use mathlib.Core.Path.{◌∙◌}
use native.Mathlib.Omega.{arith}
use Rattle.answers.proofs.Results.{handed_on}
use Rattle.charts.specs.Inner.Maps.{counts_map}
use Rattle.sampling.specs.Question.{plainly}
use Rattle.sampling.specs.Inner.Preparing.{Drawable}
use Rattle.sampling.proofs.Answering.{draw_refused, draw_skipping_lem, draw_sought, plainly_made, prepared_case}
use Rattle.answers.proofs.Numbers.{number_some}
use Rattle.sampling.proofs.draw.draw_in.Goals as goal

pub prepare-requires : goal.prepare-requires
prepare-requires g c = plainly_made c.requires

pub slice_bounds-draw_prepared-end : goal.slice_bounds-draw_prepared-end
slice_bounds-draw_prepared-end g c =
    let drawable : let s = c.args in
    Drawable s.g.now s.h.now (plainly s.question.length s.question.voice) c.prepare.new.rules c.prepare.new.totals counts_map c.prepare.new.numbers c.in_ok-k.k = prepared_case c.prepare.ensures c.in_ok-k.was in
    omega (arith, drawable.few, c.prepare.ensures.room drawable.diary)

pub draw_prepared-requires : goal.draw_prepared-requires
draw_prepared-requires g c =
    let drawable : let s = c.args in
    Drawable s.g.now s.h.now (plainly s.question.length s.question.voice) c.prepare.new.rules c.prepare.new.totals counts_map c.prepare.new.numbers c.in_ok-k.k = prepared_case c.prepare.ensures c.in_ok-k.was in
    draw_sought drawable c.prepare.ensures.room

pub returns-in_err-k : goal.returns-in_err-k
returns-in_err-k g c = rw (handed_on c.from_residual.ensures.1) (draw_refused _ _ _ _ _ _ (prepared_case c.prepare.ensures c.in_err-k.was) (number_some _))

pub returns : goal.returns
returns g c =
    let drawable : let s = c.args in
    Drawable s.g.now s.h.now (plainly s.question.length s.question.voice) c.prepare.new.rules c.prepare.new.totals counts_map c.prepare.new.numbers c.in_ok-k.k = prepared_case c.prepare.ensures c.in_ok-k.was in
    c.draw_prepared.ensures ∙ draw_skipping_lem _ _ _ _ _ drawable
