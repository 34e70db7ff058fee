-- Totals by the rules of a chain: of length 1 by its word rules, of a greater length by its pair rules. The depth of the definition is
-- met here and nowhere else.
-- Assumes nothing.
use mathlib.Core.Path.{◌≡◌, refl, sym, ◌∙◌}
use mathlib.Core.List.{List, [], ◌∷◌}
use Prim.Native.Nat.{ℕ, zero, suc, ◌+◌, ◌*◌, ◌-◌, ◌≤◌, ◌<◌}
use native.Mathlib.Omega.{arith}
use borrow.Author.Tests.{ne_eqb}
use Rattle.lists.specs.Joined.{sum_over, up_from}
use Rattle.lists.proofs.Sums.{sum_ext, sum_one}
use Rattle.lists.proofs.Runs.{run_ext, run_same, run_later}
use lib.ListN.{length}
use Rattle.grammar.specs.Chains.{Rule, word, pair, words_of, pairs_of}
use Rattle.counting.specs.Totals.{rule_total, total_to, total, total_by, T, added_after, Sums}

-- ---- a pair rule's products

-- the product of a pair rule's halves for the length m and the left length k, at the position p
abbrev pub product_at : (f : ℕ → ℕ → ℕ → ℕ) (B C p m k : ℕ) → ℕ
product_at f B C p m k = f p B k * f (p + k) C (m - k)

-- it is 0 where a half has no derivation
module _ (f : ℕ → ℕ → ℕ → ℕ) (B C p m k : ℕ) where
  pub left_none : f p B k ≡ 0 → product_at f B C p m k ≡ 0
  left_none e = rw e (omega arith)

  pub right_none : f (p + k) C (m - k) ≡ 0 → product_at f B C p m k ≡ 0
  right_none e = rw e (omega arith)

-- what a pair rule adds
abbrev pub pair_total : (f : ℕ → ℕ → ℕ → ℕ) (p m : ℕ) → ℕ × ℕ → ℕ
pair_total f p m x = sum_over (product_at f x.0 x.1 p m) (up_from 1 (m - 1))

-- halves that are equal, from p on and from q on, make equal products
pub pair_moved : (f g : ℕ → ℕ → ℕ → ℕ) (p q m : ℕ) (x : ℕ × ℕ) → ((i : ℕ) → 1 ≤ i → i < m → f p x.0 i ≡ g q x.0 i)
    → ((i : ℕ) → 1 ≤ i → i < m → f (p + i) x.1 (m - i) ≡ g (q + i) x.1 (m - i)) → pair_total f p m x ≡ pair_total g q m x
pair_moved f g p q m x l r =
    run_ext (product_at f x.0 x.1 p m) (product_at g x.0 x.1 q m) 1 (m - 1) (λ i a b. rw (l i a (omega arith), r i a (omega arith)))

pub pair_ext : (f g : ℕ → ℕ → ℕ → ℕ) (p m : ℕ) (x : ℕ × ℕ) → ((q A i : ℕ) → 1 ≤ i → i < m → f q A i ≡ g q A i) → pair_total f p m x ≡ pair_total g p m x
pair_ext f g p m x e = pair_moved f g p p m x (λ i l u. e p x.0 i l u) (λ i l u. e (p + i) x.1 (m - i) (omega arith) (omega arith))

-- ---- a chain's rules by kind

rule_ext : (v : ℕ → ℕ → ℕ) (f g : ℕ → ℕ → ℕ → ℕ) (p m : ℕ) (r : Rule) → ((q A i : ℕ) → 1 ≤ i → i < m → f q A i ≡ g q A i)
    → rule_total v f p m r ≡ rule_total v g p m r
rule_ext v f g p m (word w) e = refl
rule_ext v f g p m (pair B C) e = pair_ext f g p m (B, C) e

rules_one : (v : ℕ → ℕ → ℕ) (f : ℕ → ℕ → ℕ → ℕ) (p : ℕ) (rs : List Rule) → sum_over (rule_total v f p 1) rs ≡ sum_over (v p) (words_of rs)
rules_one v f p [] = refl
rules_one v f p (word w ∷ rs) = omega (arith, rules_one v f p rs)
rules_one v f p (pair B C ∷ rs) = omega (arith, rules_one v f p rs)

rules_more : (v : ℕ → ℕ → ℕ) (f : ℕ → ℕ → ℕ → ℕ) (p m : ℕ) → 2 ≤ m → (rs : List Rule)
    → sum_over (rule_total v f p m) rs ≡ sum_over (pair_total f p m) (pairs_of rs)
rules_more v f p m h [] = refl
rules_more v f p m h (word w ∷ rs) = rw (ne_eqb m 1 (λ e. omega arith)) (omega (arith, rules_more v f p m h rs))
rules_more v f p m h (pair B C ∷ rs) = omega (arith, rules_more v f p m h rs)

rules_none : (v : ℕ → ℕ → ℕ) (f : ℕ → ℕ → ℕ → ℕ) (p : ℕ) (rs : List Rule) → sum_over (rule_total v f p 0) rs ≡ 0
rules_none v f p [] = refl
rules_none v f p (word w ∷ rs) = omega (arith, rules_none v f p rs)
rules_none v f p (pair B C ∷ rs) = omega (arith, rules_none v f p rs)

module _ (chain : ℕ → List Rule) where
  total_to_deep : (v : ℕ → ℕ → ℕ) (f g p A m : ℕ) → m < f → m < g → total_to chain v f p A m ≡ total_to chain v g p A m
  unfolding total_to
  total_to_deep v zero g p A m h h' = absurd (omega arith)
  total_to_deep v (suc f) zero p A m h h' = absurd (omega arith)
  total_to_deep v (suc f) (suc g) p A m h h' =
      sum_ext (rule_total v (total_to chain v f) p m) (rule_total v (total_to chain v g) p m) (chain A)
      (λ r i. rule_ext v (total_to chain v f) (total_to chain v g) p m r (λ q B k l u. total_to_deep v f g q B k (omega arith) (omega arith)))

  -- a total is the sum over the rules
  pub total_eq : (v : ℕ → ℕ → ℕ) (p A m : ℕ) → total chain v p A m ≡ sum_over (rule_total v (total chain v) p m) (chain A)
  unfolding total total_to
  total_eq v p A m =
      sum_ext (rule_total v (total_to chain v m) p m) (rule_total v (total chain v) p m) (chain A)
      (λ r i. rule_ext v (total_to chain v m) (total chain v) p m r (λ q B k l u. total_to_deep v m (suc k) q B k (omega arith) (omega arith)))

  pub total_one : (v : ℕ → ℕ → ℕ) (p A : ℕ) → total chain v p A 1 ≡ sum_over (v p) (words_of (chain A))
  total_one v p A = total_eq v p A 1 ∙ rules_one v (total chain v) p (chain A)

  pub total_more : (v : ℕ → ℕ → ℕ) (p A m : ℕ) → 2 ≤ m → total chain v p A m ≡ sum_over (pair_total (total chain v) p m) (pairs_of (chain A))
  total_more v p A m h = total_eq v p A m ∙ rules_more v (total chain v) p m h (chain A)

  -- no derivation of length 0
  pub total_none : (v : ℕ → ℕ → ℕ) (p A : ℕ) → total chain v p A 0 ≡ 0
  total_none v p A = total_eq v p A 0 ∙ rules_none v (total chain v) p (chain A)

  -- ---- a total depends on its weight only at the positions of the span

  moved_below : (v u : ℕ → ℕ → ℕ) (n p q A m : ℕ) → m < n → ((i w : ℕ) → i < m → v (p + i) w ≡ u (q + i) w) → total chain v p A m ≡ total chain u q A m
  moved_below v u zero p q A m h e = absurd (omega arith)
  moved_below v u (suc n) p q A zero h e = total_none v p A ∙ sym (total_none u q A)
  moved_below v u (suc n) p q A (suc zero) h e =
      let a : p + 0 ≡ p = omega arith in
      let b : q + 0 ≡ q = omega arith in
      total_one v p A ∙ sum_ext (v p) (u q) (words_of (chain A)) (λ w i. rw (a, b) at (e 0 w (omega arith))) ∙ sym (total_one u q A)
  moved_below v u (suc n) p q A (suc (suc m)) h e =
      total_more v p A (suc (suc m)) (omega arith)
      ∙ sum_ext (pair_total (total chain v) p (suc (suc m))) (pair_total (total chain u) q (suc (suc m))) (pairs_of (chain A))
      (λ x i.
      pair_moved (total chain v) (total chain u) p q (suc (suc m)) x
      (λ k a b. moved_below v u n p q x.0 k (omega arith) (λ j w l. e j w (omega arith)))
      (λ k a b.
      moved_below v u n (p + k) (q + k) x.1 (suc (suc m) - k) (omega arith)
      (λ j w l.
      let y : p + k + j ≡ p + (k + j) = omega arith in
      let z : q + k + j ≡ q + (k + j) = omega arith in
      rw (y, z) (e (k + j) w (omega arith)))))
      ∙ sym (total_more u q A (suc (suc m)) (omega arith))

  pub total_within : (v u : ℕ → ℕ → ℕ) (p A m : ℕ) → ((q w : ℕ) → p ≤ q → q < p + m → v q w ≡ u q w) → total chain v p A m ≡ total chain u p A m
  total_within v u p A m e = moved_below v u (suc m) p p A m (omega arith) (λ i w h. e (p + i) w (omega arith) (omega arith))

  -- ---- a weight that is the same at every position: so is the total

  module _ (u : ℕ → ℕ) where
    pub by_anywhere : (p A m : ℕ) → total chain (λ q w. u w) p A m ≡ total_by chain u A m
    by_anywhere p A m = moved_below (λ q w. u w) (λ q w. u w) (suc m) p 0 A m (omega arith) (λ i w h. refl)

    -- by its rules
    pub by_one : (A : ℕ) → total_by chain u A 1 ≡ sum_over u (words_of (chain A))
    by_one A = total_one (λ q w. u w) 0 A

    pub by_more : (A m : ℕ) → 2 ≤ m → total_by chain u A m ≡ sum_over (pair_total (λ q. total_by chain u) 0 m) (pairs_of (chain A))
    by_more A m h =
        total_more (λ q w. u w) 0 A m h
        ∙ sum_ext (pair_total (total chain (λ q w. u w)) 0 m) (pair_total (λ q. total_by chain u) 0 m) (pairs_of (chain A))
        (λ x i. pair_ext (total chain (λ q w. u w)) (λ q. total_by chain u) 0 m x (λ q B k l r. by_anywhere q B k))

  pub T_one : (A : ℕ) → T chain A 1 ≡ length (words_of (chain A))
  T_one A = by_one (λ w. 1) A ∙ sum_one (words_of (chain A))

  pub T_more : (A m : ℕ) → 2 ≤ m → T chain A m ≡ sum_over (pair_total (λ q. T chain) 0 m) (pairs_of (chain A))
  T_more = by_more (λ w. 1)

  -- formula 4a's first and last product are 0
  all_lengths : (B C m : ℕ) → added_after chain B C m (m - 1) ≡ sum_over (λ k. T chain B k * T chain C (m - k)) (up_from 0 (m + 1))
  all_lengths B C m =
      let product = product_at (λ q. T chain) B C 0 m in
      let e : m + 1 - 1 ≡ m = omega arith in
      let first = run_later product 0 1 (m + 1) (omega arith)
      (λ i l u. left_none (λ q. T chain) B C 0 m i (let z : i ≡ 0 = omega arith in rw z (total_none (λ q w. 1) 0 B))) in
      let last = run_same product 1 (m - 1) m (omega arith)
      (λ i l u. right_none (λ q. T chain) B C 0 m i (let z : m - i ≡ 0 = omega arith in rw z (total_none (λ q w. 1) 0 C))) in
      omega (arith, rw e at first, last)

  pub sums : Sums chain
  sums = record { words = T_one; pairs = T_more; formula_4a = all_lengths }
