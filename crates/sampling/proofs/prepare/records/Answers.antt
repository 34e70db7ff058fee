-- `records` meets its contract: the history's refusals, then 15; a history without records has nothing heard.
-- Assumes nothing.
use mathlib.Core.Path.{sym, ◌∙◌}
use Rattle.answers.proofs.Results.{handed_on}
use Rattle.history.proofs.Outcome.{Counted, check_accepted, check_refused}
use Rattle.sampling.proofs.Answering.{unaccepted, plain_recorded, plain_none}
use Rattle.sampling.proofs.prepare.records.Goals as goal

pub returns-then-k-eq0 : goal.returns-then-k-eq0
returns-then-k-eq0 c =
    let diary : Counted c.args.h.now c.in_ok-k.k = check_accepted _ c.in_ok-k.ensures in
    plain_none c.requires _ diary.accepted (sym diary.count ∙ c.if-k-eq0.true)

pub heard_numbers-requires : goal.heard_numbers-requires
heard_numbers-requires c =
    let diary : Counted c.args.h.now c.in_ok-k.k = check_accepted _ c.in_ok-k.ensures in
    let p = c.requires in
    record { counted = p.counted; diary = diary.accepted; room = p.room diary.accepted }

pub returns-in_err-k : goal.returns-in_err-k
returns-in_err-k c = rw (handed_on c.from_residual.ensures.1) (unaccepted _ _ _ _ (check_refused _ _ c.in_err-k.ensures))

pub returns : goal.returns
returns c =
    let diary : Counted c.args.h.now c.in_ok-k.k = check_accepted _ c.in_ok-k.ensures in
    plain_recorded c.requires _ diary.accepted c.heard_numbers.ensures
