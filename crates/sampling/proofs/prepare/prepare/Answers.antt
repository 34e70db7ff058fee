-- `prepare` meets its contract: what the grammar and the question are refused for, then the history's refusals, then 15; past them the tables and the heard numbers.
-- Assumes nothing.
use mathlib.Core.Path.{refl}
use native.Mathlib.Omega.{arith}
use Rattle.answers.proofs.Results.{handed_on}
use Rattle.sampling.proofs.Asking.{asked_none, asked_refused}
use Rattle.sampling.proofs.Answering.{unprepared, recorded_prepared}
use Rattle.sampling.proofs.prepare.prepare.Goals as goal

pub ask-requires : goal.ask-requires
ask-requires c = c.requires.tables

pub records-requires : goal.records-requires
records-requires c = record { counted = (c.ask.ensures.ready c.in_ok-ask.was).counted; room = c.requires.room }

pub returns-in_err-ask : goal.returns-in_err-ask
returns-in_err-ask c = rw (handed_on c.from_residual.ensures.1) (unprepared _ _ _ _ _ _ (asked_refused c.ask.ensures _ c.in_err-ask.was) c.requires.room)

pub returns : goal.returns
returns c =
    let q = c.ask.ensures in
    let case = c.in_ok-ask.was in
    recorded_prepared _ _ _ _ _ refl (asked_none q case) (q.ready case).holds (λ d. omega (arith, c.records.auto.numbers, c.requires.room d)) c.records.ensures
