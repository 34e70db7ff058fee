-- `weigh` meets its contract: what the grammar and the voice are refused for, then 10, 24 or 25; past them the tables.
-- Assumes nothing.
use native.Mathlib.Omega.{arith}
use Rattle.answers.proofs.Results.{handed_on}
use Rattle.weighing.proofs.Asking.{bad_told, set_asks, set_opened, tally_sought, weigh_unopened, weigh_voice, weigh_bad, weigh_heavy, weigh_ready}
use Rattle.weighing.proofs.prepare.weigh.Goals as goal

pub returns-in_err-open : goal.returns-in_err-open
returns-in_err-open c = rw (handed_on c.from_residual.ensures.1) (weigh_unopened _ _ c.requires c.«open».ensures c.in_err-open.was)

pub returns-then-question-gt15 : goal.returns-then-question-gt15
returns-then-question-gt15 c = weigh_voice _ _ c.requires c.«open».ensures c.in_ok-open.was (omega (arith, c.if-question-gt15.true))

pub returns-then-bad : goal.returns-then-bad
returns-then-bad c =
    weigh_bad _ _ c.requires c.«open».ensures c.in_ok-open.was (omega (arith, c.if-question-gt15.false)) (bad_told _ c.bad.ensures c.words.ensures c.if-bad.true) c.refusal.ensures

pub set-requires : goal.set-requires
set-requires c =
    set_asks c.requires c.«open».ensures c.in_ok-open.was (bad_told _ c.bad.ensures c.words.ensures c.if-bad.false) (omega (arith, c.words.ensures))

pub fill-requires : goal.fill-requires
fill-requires c =
    tally_sought c.requires c.«open».ensures c.in_ok-open.was c.set.ensures (bad_told _ c.bad.ensures c.words.ensures c.if-bad.false)

pub returns : goal.returns
returns c =
    weigh_ready _ _ c.requires c.«open».ensures c.in_ok-open.was (omega (arith, c.if-question-gt15.false)) (bad_told _ c.bad.ensures c.words.ensures c.if-bad.false) c.set.ensures
    c.fill.ensures c.if-not-fill.false

pub refusal-requires-then-not-fill : goal.refusal-requires-then-not-fill
refusal-requires-then-not-fill c =
    let q = set_opened c.requires c.«open».ensures c.in_ok-open.was c.set.ensures in
    (q.holds.table, q.some, q.short)

pub returns-then-not-fill : goal.returns-then-not-fill
returns-then-not-fill c =
    weigh_heavy _ _ c.requires c.«open».ensures c.in_ok-open.was (omega (arith, c.if-question-gt15.false)) (bad_told _ c.bad.ensures c.words.ensures c.if-bad.false) c.set.ensures
    c.fill.ensures c.if-not-fill.true c.refusal-then-not-fill.ensures
