-- `remaining_matching_in` meets its contract: where preparing is refused so is the call; else the figures are T, how many are heard, and the difference.
-- Assumes nothing.
use mathlib.Core.Path.{◌∙◌}
use Rattle.answers.proofs.Results.{handed_on}
use Rattle.answers.proofs.Numbers.{number_some}
use Rattle.sampling.specs.Question.{asked}
use Rattle.sampling.specs.Inner.Preparing.{Drawable}
use Rattle.sampling.proofs.Answering.{heard_few, left_counted, left_refused, matching_made, prepared_case}
use Rattle.sampling.proofs.remaining.remaining_matching_in.Goals as goal

pub prepare_matching-requires : goal.prepare_matching-requires
prepare_matching-requires g c = matching_made c.requires

pub total-total-requires : goal.total-total-requires
total-total-requires g c =
    let last = c.prepare_matching.new in
    let drawable : Drawable c.args.g.now c.args.h.now (asked c.args.question c.args.pattern.now) last.rules last.totals last.choice last.numbers c.in_ok-k.k
    = prepared_case c.prepare_matching.ensures c.in_ok-k.was in
    drawable.chooses

pub figures-requires : goal.figures-requires
figures-requires g c =
    let last = c.prepare_matching.new in
    let drawable : Drawable c.args.g.now c.args.h.now (asked c.args.question c.args.pattern.now) last.rules last.totals last.choice last.numbers c.in_ok-k.k
    = prepared_case c.prepare_matching.ensures c.in_ok-k.was in
    heard_few drawable c.prepare_matching.ensures.room _ c.total-total.ensures

pub returns-in_err-k : goal.returns-in_err-k
returns-in_err-k g c = rw (handed_on c.from_residual.ensures.1) (left_refused _ _ _ _ (prepared_case c.prepare_matching.ensures c.in_err-k.was) (number_some _))

pub returns : goal.returns
returns g c =
    let last = c.prepare_matching.new in
    let drawable : Drawable c.args.g.now c.args.h.now (asked c.args.question c.args.pattern.now) last.rules last.totals last.choice last.numbers c.in_ok-k.k
    = prepared_case c.prepare_matching.ensures c.in_ok-k.was in
    c.figures.ensures ∙ left_counted _ _ _ drawable c.prepare_matching.ensures.room _ c.total-total.ensures
