-- `draw_matching_in` meets its contract: where preparing is refused so is the call, and else the draw from what is prepared is the call's.
-- Assumes nothing.
use mathlib.Core.Path.{◌∙◌}
use native.Mathlib.Omega.{arith}
use Rattle.answers.proofs.Results.{handed_on}
use Rattle.answers.proofs.Numbers.{number_some}
use Rattle.charts.proofs.Mapping.{counts_map_lem}
use Rattle.sampling.specs.Question.{asked}
use Rattle.sampling.specs.Inner.Preparing.{Drawable}
use Rattle.sampling.proofs.Answering.{draw_refused, draw_skipping_lem, draw_sought, matching_made, prepared_case}
use Rattle.sampling.proofs.draw.draw_matching_in.Goals as goal

pub prepare_matching-requires : goal.prepare_matching-requires
prepare_matching-requires g c = matching_made c.requires

pub slice_bounds-heard-end : goal.slice_bounds-heard-end
slice_bounds-heard-end g c =
    let last = c.prepare_matching.new in
    let drawable : Drawable c.args.g.now c.args.h.now (asked c.args.question c.args.pattern.now) last.rules last.totals last.choice last.numbers c.in_ok-k.k
    = prepared_case c.prepare_matching.ensures c.in_ok-k.was in
    omega (arith, drawable.few, c.prepare_matching.ensures.room drawable.diary)

pub draw_from-requires : goal.draw_from-requires
draw_from-requires g c =
    let last = c.prepare_matching.new in
    let drawable : Drawable c.args.g.now c.args.h.now (asked c.args.question c.args.pattern.now) last.rules last.totals last.choice last.numbers c.in_ok-k.k
    = prepared_case c.prepare_matching.ensures c.in_ok-k.was in
    (draw_sought drawable c.prepare_matching.ensures.room, counts_map_lem)

pub returns-in_err-k : goal.returns-in_err-k
returns-in_err-k g c = rw (handed_on c.from_residual.ensures.1) (draw_refused _ _ _ _ _ _ (prepared_case c.prepare_matching.ensures c.in_err-k.was) (number_some _))

pub returns : goal.returns
returns g c =
    let last = c.prepare_matching.new in
    let drawable : Drawable c.args.g.now c.args.h.now (asked c.args.question c.args.pattern.now) last.rules last.totals last.choice last.numbers c.in_ok-k.k
    = prepared_case c.prepare_matching.ensures c.in_ok-k.was in
    c.draw_from.ensures ∙ draw_skipping_lem _ _ _ _ _ drawable
