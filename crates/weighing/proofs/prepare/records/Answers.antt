-- `records` meets its contract: the history's refusals, then 15; a history without records has nothing heard.
-- Assumes nothing.
use mathlib.Core.Path.{sym, ◌∙◌}
use native.Mathlib.Omega.{arith}
use Rattle.answers.proofs.Results.{handed_on}
use Rattle.history.proofs.Outcome.{check_accepted, check_refused}
use Rattle.sampling.proofs.Answering.{refused_unready, unaccepted, fitted_recorded}
use Rattle.weighing.proofs.Firsts.{firsts_none, firsts_sought}
use Rattle.weighing.proofs.prepare.records.Goals as goal

pub returns-then-k-eq0 : goal.returns-then-k-eq0
returns-then-k-eq0 c g weights s =
    let diary = check_accepted _ c.in_ok-k.ensures in
    firsts_none s.weighed _ _ diary.accepted (sym diary.count ∙ c.if-k-eq0.true)

pub first_tickets-requires : goal.first_tickets-requires
first_tickets-requires c =
    let diary = check_accepted _ c.in_ok-k.ensures in
    (_, _, firsts_sought c.requires.2 diary.accepted (omega (arith, diary.count, c.if-k-eq0.false)))

pub returns-in_err-k : goal.returns-in_err-k
returns-in_err-k c g weights s =
    rw (handed_on c.from_residual.ensures.1)
    (record { recorded = unaccepted _ _ _ _ (check_refused _ _ c.in_err-k.ensures); ended = λ k e. absurd (refused_unready e) })

pub returns : goal.returns
returns c g weights s =
    let diary = check_accepted _ c.in_ok-k.ensures in
    let f = c.first_tickets.ensures g weights (firsts_sought s diary.accepted (omega (arith, diary.count, c.if-k-eq0.false))) in
    record { recorded = fitted_recorded _ _ _ diary.accepted f.heard; ended = f.ended }
