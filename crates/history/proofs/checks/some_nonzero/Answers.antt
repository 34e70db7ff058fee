use mathlib.Core.Path.{◌≡◌, sym, ap, ◌∙◌}
use mathlib.Core.Bool.{not, ◌||◌}
use mathlib.Core.List.{List}
use Prim.Native.Nat.{ℕ, ◌+◌, ◌-◌, ◌≤◌, ◌<◌}
use native.Mathlib.Omega.{arith}
use native.Mathlib.Decide.{ℕ_discrete}
use borrow.Author.Tests.{ne_eqb}
use lib.Bits.{bit_or, or_zero_r, or_add_and, and_le_l}
use lib.ListN.{get_or}
use lib.Dec.{eqb}
use Rattle.lists.proofs.Tests.{below_step, below_none}
use Rattle.history.specs.Refusals.{some_nonzero}
use Rattle.history.proofs.checks.some_nonzero.Goals as goal
use Rattle.history.proofs.checks.some_nonzero.Goals.{then-n-i, else-n-i}

-- two numbers have a bit exactly if one of them is not 0
or_some : (a b : ℕ) → not (eqb (bit_or a b) 0) ≡ (not (eqb b 0) || not (eqb a 0))
or_some a b =
    elim (ℕ_discrete b 0) [
      | yes e ↦ rw (e, or_zero_r a)
      | no n ↦ rw (ne_eqb b 0 n, ne_eqb (bit_or a b) 0 (λ z. n (omega (arith, or_add_and a b, and_le_l a b))))
    ]

module _ (h : List ℕ) (at n : ℕ) where
  -- one byte further
  passed : (i : ℕ) → n ≤ i → some_nonzero h (at + n) (i + 1 - n) ≡ (not (eqb (get_or h (at + i) 0) 0) || some_nonzero h (at + n) (i - n))
  passed i l =
      let e : i + 1 - n - 1 ≡ i - n = omega arith in
      let f : at + n + (i - n) ≡ at + i = omega arith in
      below_step (λ j. not (eqb (get_or h (at + n + j) 0) 0)) (i + 1 - n) (omega arith) ∙ rw (e, f)

  before : (i : ℕ) → i < n → some_nonzero h (at + n) (i + 1 - n) ≡ some_nonzero h (at + n) (i - n)
  before i l = let e : i + 1 - n ≡ i - n = omega arith in rw e

pub loop-i-init : goal.loop-i-init
loop-i-init c = sym (below_none _ _ (omega arith))

pub loop-i-preserved : goal.loop-i-preserved
loop-i-preserved c =
    let a = c.args in
    elim c.if-n-i.branch [
      | then-n-i w ↦
          ap (λ (b : ℕ). not (eqb b 0)) w.bits-is
          ∙ or_some c.loop-i.bits _
          ∙ rw c.loop-i.invariant (sym (passed a.h.now a.at a.n c.loop-i.i w.if-n-i.true))
      | else-n-i w ↦ ap (λ (b : ℕ). not (eqb b 0)) w.bits-is ∙ c.loop-i.invariant ∙ sym (before a.h.now a.at a.n c.loop-i.i w.if-n-i.false)
    ]
