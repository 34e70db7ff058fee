-- `checks::check_rules` meets its contract. The loop's invariant: the rules below i fit, and the flag says whether a next of one of them is
-- above R.
-- Assumes nothing.
use mathlib.Core.Path.{◌≡◌}
use mathlib.Core.Bool.{Bool, false}
use mathlib.Core.List.{List}
use Prim.Native.Nat.{ℕ, ◌-◌, ◌≤◌}
use Rattle.lists.specs.Searched.{some_to}
use Rattle.grammar.specs.Refusals.{misfit, next_above}
use Rattle.grammar.proofs.checks.check_rules.Given as goal

-- the first n of the r rules
pub record Passed (g : List ℕ) (r : ℕ) (link : Bool) (n : ℕ) : Type 0 where
  pub reached : n ≤ r
  pub good : some_to (misfit g) n ≡ false
  pub far : link ≡ some_to (next_above g) n

abbrev pub invariant-loop-i : goal.invariant-loop-i
invariant-loop-i l = Passed l.g l.r l.link (l.i - 1)
