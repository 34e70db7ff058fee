-- What the heard derivations weigh, told by sums: sums of a list's weights, with its first tickets, tell the list.
-- Assumes nothing.
use mathlib.Core.Path.{◌≡◌, refl, ap}
use mathlib.Core.List.{List, [], ◌∷◌, map}
use Prim.Native.Nat.{ℕ, zero, suc, ◌+◌, ◌-◌, ◌≤◌, ◌<◌}
use native.Mathlib.Omega.{arith}
use borrow.Author.Tests.{ne_eqb}
use lib.ListN.{length, get_or, length-map}
use Rattle.lists.specs.Inner.Tickets.{gone}
use Rattle.sampling.specs.Inner.Collect.{beginning}
use Rattle.sampling.specs.Inner.Skipping.{spans_from, heard_spans, passed_by, Told}

spans_summed : (b : ℕ) (l : List (ℕ × ℕ)) (sums : List ℕ) → length sums ≡ length l → ((i : ℕ) → i < length l → get_or sums i 0 ≡ b + gone (suc i) l)
    → spans_from b (map beginning l) sums ≡ l
spans_summed b [] sums e h = refl
spans_summed b (x ∷ l) [] e h = absurd (omega arith)
spans_summed b (x ∷ l) (s ∷ sums) e h =
    let first : s ≡ b + x.1 = omega (arith, h 0 (omega arith)) in
    let here : s - b ≡ x.1 = omega arith in
    rw here
    (ap (λ (r : List (ℕ × ℕ)). x ∷ r)
    (spans_summed s l sums (omega arith) (λ i q. omega (arith, h (suc i) (omega arith)))))

module _ (l : List (ℕ × ℕ)) (sums : List ℕ) (many : length sums ≡ length l) (each : (i : ℕ) → i < length l → get_or sums i 0 ≡ gone (suc i) l) where
  pub summed_spans : heard_spans (map beginning l) sums ≡ l
  summed_spans = spans_summed 0 l sums many (λ i q. omega (arith, each i q))

  pub summed_told : Told (map beginning l) sums
  summed_told = record { passed_are = are; enough = λ h. omega (arith, length-map l beginning) }
    where
      are : (i : ℕ) → i ≤ length (map beginning l) → passed_by sums i ≡ gone i (heard_spans (map beginning l) sums)
      are zero h = refl
      are (suc i) h =
          let e : suc i - 1 ≡ i = omega arith in
          let low : i < length l = omega (arith, length-map l beginning) in
          rw (ne_eqb (suc i) 0 (λ z. omega arith), ne_eqb (length sums) 0 (λ z. omega arith), e, summed_spans) (each i low)
