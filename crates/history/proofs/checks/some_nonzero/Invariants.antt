-- `some_nonzero` meets its contract. The loop's invariant: the bits so far are not all 0 exactly if a byte passed, from the place n on, is not 0.
-- Assumes nothing.
use mathlib.Core.Path.{◌≡◌}
use mathlib.Core.Bool.{not}
use Prim.Native.Nat.{◌+◌, ◌-◌}
use lib.Dec.{eqb}
use Rattle.history.specs.Refusals.{some_nonzero}
use Rattle.history.proofs.checks.some_nonzero.Given as goal

abbrev pub invariant-loop-i : goal.invariant-loop-i
invariant-loop-i l = not (eqb l.bits 0) ≡ some_nonzero l.h (l.at + l.n) (l.i - l.n)
