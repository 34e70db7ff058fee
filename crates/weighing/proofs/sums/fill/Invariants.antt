-- `fill` meets its contract. The loop's invariant: the sum is what the first i weigh, and each of the first i ends has become what it should be.
-- Assumes nothing.
use mathlib.Core.Path.{◌≡◌}
use mathlib.Core.List.{List}
use Prim.Native.Nat.{ℕ}
use lib.ListN.{length}
use Rattle.weighing.specs.Inner.Sums.{SumsSought}
use Rattle.weighing.proofs.Summing.{Summing}
use Rattle.weighing.proofs.sums.fill.Given as goal

abbrev pub invariant-loop-i : goal.invariant-loop-i
invariant-loop-i l = ((s : List (ℕ × ℕ)) → SumsSought s l.firsts l.initial.ends → Summing s l.initial.ends l.ends l.i l.sum) × (length l.ends ≡ length l.initial.ends)
