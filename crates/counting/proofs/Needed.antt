-- Needed pairs. They lie within the grammar and the length; with a pair both halves of its pair rules are needed at every shorter length, and a
-- pair that isn't the whole is such a half. The list of them has just these: what a list holds from a pair on is needed if that pair is, and is closed under
-- halving, as its depth is above the length. So what is said of the list may be said of the pairs.
-- Assumes nothing.
use mathlib.Core.Path.{◌≡◌, refl, ap}
use mathlib.Core.Logic.{◌↔◌, ◌⊎◌, inl, inr}
use mathlib.Core.Bool.{true, false}
use mathlib.Core.List.Memᴰ
use mathlib.Core.List.{List, ◌++◌}
use Prim.Native.Nat.{ℕ, zero, suc, ◌-◌, ◌≤◌, ◌<◌}
use native.Mathlib.Omega.{arith}
use lib.Dec.{ltb}
use borrow.Author.Tests.{ltb-true, ltb-false, lt-ltb, le-ltb}
use Rattle.lists.specs.Joined.{◌∈◌, concat_map, up_from}
use Rattle.lists.proofs.Members.{∈_concat, concat_∈, up_from_∈, ∈_up_from}
use Rattle.lists.proofs.Tests.{some_∈, ∈_some, none_∈, some_clear}
use Rattle.grammar.specs.Chains.{Rule, pairs_of}
use Rattle.counting.specs.Totals.{total}
use Rattle.counting.specs.Needed.{Needed, whole, left, right, needed_to, needed_pairs}
use Rattle.counting.specs.Refusals.{most, AllFit, overflows}

-- ---- where they lie

module _ {chain : ℕ → List Rule} {S n : ℕ} where
  pub needed_some : {A m : ℕ} → 1 ≤ n → Needed chain S n A m → 1 ≤ m
  needed_some h whole = h
  needed_some h (left a i l u) = l
  needed_some h (right a i l u) = omega arith

  pub needed_short : {A m : ℕ} → Needed chain S n A m → m ≤ n
  needed_short whole = omega arith
  needed_short (left a i l u) = omega (arith, needed_short a)
  needed_short (right a i l u) = omega (arith, needed_short a)

  pub needed_inside : {A m : ℕ} (N : ℕ) → S < N → ((A : ℕ) (x : ℕ × ℕ) → A < N → x ∈ pairs_of (chain A) → (x.0 < N) × (x.1 < N)) → Needed chain S n A m → A < N
  needed_inside N h f whole = h
  needed_inside N h f (left {A = A} {B} {C} a i l u) = (f A (B, C) (needed_inside N h f a) i).0
  needed_inside N h f (right {A = A} {B} {C} a i l u) = (f A (B, C) (needed_inside N h f a) i).1

  -- both halves, at every shorter length
  pub needed_halves : {A m : ℕ} → Needed chain S n A m → (x : ℕ × ℕ) → x ∈ pairs_of (chain A) → (k : ℕ) → 1 ≤ k → k < m
      → Needed chain S n x.0 k × Needed chain S n x.1 k
  needed_halves {m = m} a x i k l u =
      let e : m - (m - k) ≡ k = omega arith in
      (left a i l u, rw e at (right {k = m - k} a i (omega arith) (omega arith)))

  -- of the whole length only the start symbol
  pub needed_whole : {A m : ℕ} → m ≡ n → Needed chain S n A m → A ≡ S
  needed_whole e whole = refl
  needed_whole e (left a i l u) = absurd (omega (arith, needed_short a))
  needed_whole e (right a i l u) = absurd (omega (arith, needed_short a))

  -- what is shorter than the whole is half of a longer one
  pub needed_owner : {B k : ℕ} → k < n → Needed chain S n B k
      → (A : ℕ) × (m : ℕ) × (k < m) × Needed chain S n A m × ((x : ℕ × ℕ) × (x ∈ pairs_of (chain A)) × ((B ≡ x.0) ⊎ (B ≡ x.1)))
  needed_owner h whole = absurd (omega arith)
  needed_owner h (left {A = A} {B} {C} {m} a i l u) = (A, m, u, a, ((B, C), i, inl refl))
  needed_owner h (right {A = A} {B} {C} {m} a i l u) = (A, m, omega arith, a, ((B, C), i, inr refl))

-- ---- the list

module _ (chain : ℕ → List Rule) where
  -- the parts of the list from (A, m) on
  abbrev of_split : (n m : ℕ) → ℕ × ℕ → ℕ → List (ℕ × ℕ)
  of_split n m x k = needed_to chain n x.0 k ++ needed_to chain n x.1 (m - k)

  abbrev of_rule : (n m : ℕ) → ℕ × ℕ → List (ℕ × ℕ)
  of_rule n m x = concat_map (of_split n m x) (up_from 1 (m - 1))

  list_first : (n A m : ℕ) → 1 ≤ n → (A, m) ∈ needed_to chain n A m
  unfolding needed_to
  list_first zero A m h = absurd (omega arith)
  list_first (suc n) A m h = Memᴰ.head refl

  list_half : {z : ℕ × ℕ} (n A m : ℕ) (x : ℕ × ℕ) (k : ℕ) → x ∈ pairs_of (chain A) → 1 ≤ k → k < m → z ∈ of_split n m x k → z ∈ needed_to chain (suc n) A m
  unfolding needed_to
  list_half n A m x k i l u h =
      Memᴰ.tail (∈_concat (of_rule n m) x (pairs_of (chain A)) i (∈_concat (of_split n m x) k (up_from 1 (m - 1)) (∈_up_from k 1 (m - 1) l (omega arith)) h))

  -- how a pair stands in the list: as the first, or among those of a half
  abbrev InHalf : (n A m : ℕ) → ℕ × ℕ → Type 0
  InHalf n A m z = (x : ℕ × ℕ) × (k : ℕ) × (x ∈ pairs_of (chain A)) × (1 ≤ k) × (k < m) × (z ∈ needed_to chain n x.0 k ⊎ z ∈ needed_to chain n x.1 (m - k))

  list_cases : {z : ℕ × ℕ} (n A m : ℕ) → z ∈ needed_to chain (suc n) A m → (z ≡ (A, m)) ⊎ InHalf n A m z
  unfolding needed_to
  list_cases n A m (Memᴰ.head e) = inl e
  list_cases n A m (Memᴰ.tail h) =
      let q = concat_∈ (of_rule n m) (pairs_of (chain A)) h in
      let r = concat_∈ (of_split n m q.0) (up_from 1 (m - 1)) q.2 in
      let b = up_from_∈ 1 (m - 1) r.1 in
      inr (q.0, r.0, q.1, b.0, omega arith, Memᴰ.append_cases (needed_to chain n q.0.0 r.0) r.2)

  no_depth : {z : ℕ × ℕ} (A m : ℕ) → z ∈ needed_to chain 0 A m → ⊥
  unfolding needed_to
  no_depth A m h = Memᴰ.not-nil h

  -- what it holds is needed
  list_needed : {S n : ℕ} {z : ℕ × ℕ} (d A m : ℕ) → Needed chain S n A m → z ∈ needed_to chain d A m → Needed chain S n z.0 z.1
  list_needed zero A m a h = absurd (no_depth A m h)
  list_needed (suc d) A m a h =
      elim (list_cases d A m h) [
        | inl e ↦ rw e a
        | inr (x, k, i, l, u, inl q) ↦ list_needed d x.0 k (left a i l u) q
        | inr (x, k, i, l, u, inr q) ↦ list_needed d x.1 (m - k) (right a i l u) q
      ]

  -- with a pair it holds the halves
  list_closed : (d X y A m : ℕ) (x : ℕ × ℕ) (k : ℕ) → y < d → (A, m) ∈ needed_to chain d X y → x ∈ pairs_of (chain A) → 1 ≤ k → k < m
      → ((x.0, k) ∈ needed_to chain d X y) × ((x.1, m - k) ∈ needed_to chain d X y)
  list_closed zero X y A m x k b h i l u = absurd (omega arith)
  list_closed (suc d) X y A m x k b h i l u =
      elim (list_cases d X y h) [
        | inl e ↦
            let e_a : A ≡ X = ap (λ (z : ℕ × ℕ). z.0) e in
            let em : m ≡ y = ap (λ (z : ℕ × ℕ). z.1) e in
            let j = rw e_a at i in (
              list_half d X y x k j l (omega arith) (Memᴰ.append_left (needed_to chain d x.1 (y - k)) (list_first d x.0 k (omega arith))),
              rw em (list_half d X y x k j l (omega arith) (Memᴰ.append_right (needed_to chain d x.0 k) (list_first d x.1 (y - k) (omega arith)))),
            )
        | inr (z, j, i', l', u', inl q) ↦
            let r = list_closed d z.0 j A m x k (omega arith) q i l u in (
              list_half d X y z j i' l' u' (Memᴰ.append_left (needed_to chain d z.1 (y - j)) r.0),
              list_half d X y z j i' l' u' (Memᴰ.append_left (needed_to chain d z.1 (y - j)) r.1),
            )
        | inr (z, j, i', l', u', inr q) ↦
            let r = list_closed d z.1 (y - j) A m x k (omega arith) q i l u in (
              list_half d X y z j i' l' u' (Memᴰ.append_right (needed_to chain d z.0 j) r.0),
              list_half d X y z j i' l' u' (Memᴰ.append_right (needed_to chain d z.0 j) r.1),
            )
      ]

  module _ {S n : ℕ} where
    needed_list : {A m : ℕ} → Needed chain S n A m → (A, m) ∈ needed_to chain (suc n) S n
    needed_list whole = list_first (suc n) S n (omega arith)
    needed_list (left {A = A} {B} {C} {m} {k} a i l u) = (list_closed (suc n) S n A m (B, C) k (omega arith) (needed_list a) i l u).0
    needed_list (right {A = A} {B} {C} {m} {k} a i l u) = (list_closed (suc n) S n A m (B, C) k (omega arith) (needed_list a) i l u).1

    pub needed_listed : (x : ℕ × ℕ) → (x ∈ needed_pairs chain S n) ↔ Needed chain S n x.0 x.1
    unfolding needed_pairs
    needed_listed x = (list_needed (suc n) S n whole, needed_list)

    -- ---- totals above the bound

    module _ (v : ℕ → ℕ → ℕ) where
      pub overflows_needed : (overflows chain v S n ≡ true) ↔ ((A : ℕ) × (m : ℕ) × Needed chain S n A m × (most < total chain v 0 A m))
      unfolding overflows
      overflows_needed = (
        λ e. let q = ∈_some (λ (x : ℕ × ℕ). ltb most (total chain v 0 x.0 x.1)) (needed_pairs chain S n) e in
            (q.0.0, q.0.1, (needed_listed q.0).0 q.1, ltb-true most (total chain v 0 q.0.0 q.0.1) q.2),
        λ q. some_∈ (λ (x : ℕ × ℕ). ltb most (total chain v 0 x.0 x.1)) (q.0, q.1) (needed_pairs chain S n) ((needed_listed (q.0, q.1)).1 q.2)
            (lt-ltb most (total chain v 0 q.0 q.1) q.3),
      )

      pub overflows_fit : (overflows chain v S n ≡ false) ↔ AllFit chain v S n
      unfolding overflows
      overflows_fit = (
        λ e A m a. ltb-false most (total chain v 0 A m)
            (none_∈ (λ (x : ℕ × ℕ). ltb most (total chain v 0 x.0 x.1)) (needed_pairs chain S n) e (A, m) ((needed_listed (A, m)).1 a)),
        λ f. some_clear (λ (x : ℕ × ℕ). ltb most (total chain v 0 x.0 x.1)) (needed_pairs chain S n)
            (λ x i. le-ltb most (total chain v 0 x.0 x.1) (f x.0 x.1 ((needed_listed x).0 i))),
      )
