-- `prepare_matching` meets its contract: what the grammar and the question are refused for, then the history's refusals, then 15; past them the tables, the choice
-- and the heard places.
-- Assumes nothing.
use mathlib.Core.Path.{refl}
use native.Mathlib.Omega.{arith}
use Rattle.answers.proofs.Results.{handed_on}
use Rattle.sampling.proofs.Asking.{asked_none, asked_refused}
use Rattle.sampling.proofs.Answering.{asked_sought, unprepared, recorded_prepared}
use Rattle.sampling.proofs.prepare.prepare_matching.Goals as goal

pub records_matching-requires : goal.records_matching-requires
records_matching-requires c =
    let q = c.ask.ensures in
    asked_sought c.requires q.rules_kept q.totals_kept (q.ready c.in_ok-ask.was)

pub returns-in_err-ask : goal.returns-in_err-ask
returns-in_err-ask c = rw (handed_on c.from_residual.ensures.1) (unprepared _ _ _ _ _ _ (asked_refused c.ask.ensures _ c.in_err-ask.was) c.requires.called.room)

pub returns : goal.returns
returns c =
    let q = c.ask.ensures in
    let case = c.in_ok-ask.was in
    recorded_prepared _ _ _ _ _ refl (asked_none q case) (q.ready case).holds (λ d. omega (arith, c.records_matching.auto.numbers, c.requires.called.room d)) c.records_matching.ensures
