use mathlib.Core.Path.{◌≡◌, refl}
use borrow.Author.Rules.{rules}
use Rattle.sets.proofs.Loops.{turn_among}
use Rattle.counting.proofs.Besides.{rows_start, rows_asks, rows_over, rows_step, rows_end}
use Rattle.counting.proofs.tallies.row.Goals as goal

pub loop-a-init : goal.loop-a-init
loop-a-init c = let e : c.into_iter-a-iterator.result ≡ c.args.set = search rules in rw e (rows_start c.requires, λ A i. i)

pub place-requires : goal.place-requires
place-requires c = rows_asks c.requires c.loop-a.invariant.0 c.in-Some.ensures.steps c.loop-a.invariant.1

pub returns-then-not-place : goal.returns-then-not-place
returns-then-not-place c = rows_over c.requires c.loop-a.invariant.0 c.in-Some.ensures.steps c.loop-a.invariant.1 c.place.ensures c.if-not-place.true

pub loop-a-preserved : goal.loop-a-preserved
loop-a-preserved c = (
  rows_step c.requires c.loop-a.invariant.0 c.in-Some.ensures.steps c.loop-a.invariant.1 c.place.ensures c.if-not-place.false _ refl,
  λ A i. c.loop-a.invariant.1 A (i.0, turn_among _ _ _ c.in-Some.ensures.steps A i.0 i.1),
)

pub returns : goal.returns
returns c = rows_end c.requires c.loop-a.invariant.0 c.in-None.ensures.steps.0
