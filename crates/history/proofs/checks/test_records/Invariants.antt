-- `test_records` meets its contract. The loop's invariant: no record passed is bad, and `far` is the test of the head and of the records passed.
-- Assumes nothing.
use mathlib.Core.Path.{◌≡◌}
use mathlib.Core.Bool.{Bool, false, ◌||◌}
use mathlib.Core.List.{List}
use Prim.Native.Nat.{ℕ, ◌-◌}
use lib.Dec.{ltb}
use Rattle.lists.specs.Searched.{some_to}
use Rattle.history.specs.Layout.{records_of, head_of, record_at}
use Rattle.history.specs.Refusals.{misfit, next_above}
use Rattle.history.proofs.checks.test_records.Given as goal

-- the records before r are passed
pub record Past (h : List ℕ) (far : Bool) (r : ℕ) : Type 0 where
  pub fit : some_to (λ q. misfit h (record_at q)) (r - 1) ≡ false
  pub links : far ≡ (ltb (records_of h) (head_of h) || some_to (next_above h) (r - 1))

abbrev pub invariant-loop-r : goal.invariant-loop-r
invariant-loop-r l = Past l.h l.far l.r
