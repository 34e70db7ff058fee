-- `row` meets its contract. The loop's invariant: the row is filled for the members that are no longer left. Assumes nothing.
use mathlib.Core.Bool.{true}
use Prim.Native.Nat.{ℕ}
use Rattle.counting.specs.Inner.Needs.{MemberOf}
use Rattle.counting.specs.Inner.Filling.{BesideAs, RowTo}
use Rattle.counting.proofs.tallies.row.Given as goal

abbrev pub invariant-loop-a : goal.invariant-loop-a
invariant-loop-a l = BesideAs l.rules l.letter l.at (λ u b t fits. RowTo l.rules u b t l.m l.set l.a-iterator) l.initial.totals l.totals true × ((A : ℕ) → MemberOf l.a-iterator A → MemberOf l.set A)
