-- The full list stands in the order of derivations, so its entry d has exactly d derivations before it: d is its derivation number.
-- Assumes nothing.
use mathlib.Core.Path.{◌≡◌, refl, sym, ap}
use mathlib.Core.List.Memᴰ
use mathlib.Core.List.{List}
use Prim.Native.Nat.{ℕ, zero, suc, ◌<◌}
use native.Mathlib.Omega.{arith}
use lib.ListN.{length, get_or}
use Rattle.lists.specs.Joined.{◌∈◌}
use Rattle.lists.specs.Ordered.{Pairwise, Distinct, Exactly}
use Rattle.lists.proofs.Members.{combine_∈}
use Rattle.lists.proofs.Orders.{pairwise_one, pairwise_concat, pairwise_combine, pairwise_distinct, exactly_before}
use Rattle.grammar.specs.Chains.{Rule}
use Rattle.grammar.specs.Trees.{Tree, node, size, place, Derives, Before, by_rule, by_length, by_left, by_right}
use Rattle.grammar.specs.FullList.{Choice, one, two, expand, choices, trees}
use Rattle.grammar.proofs.Choices.{Begins, choice_begins, Sooner, sooner_rule, sooner_split, spot, choices_sorted}
use Rattle.grammar.proofs.Enumeration.{trees_eq, sound, complete, derives_size}

-- ---- the order is one: no derivation stands before itself, no two before each other

pub before_irrefl : {t u : Tree} → Before t u → t ≡ u → ⊥
before_irrefl (by_rule h) e = let z = ap place e in omega arith
before_irrefl (by_length {l = l} {l' = l'} e₁ h) e = let z : l ≡ l' = cc in let q = ap size z in omega arith
before_irrefl (by_left e₁ s h) e = before_irrefl h (cc)
before_irrefl (by_right e₁ s h) e = before_irrefl h (cc)

pub before_asym : {t u : Tree} → Before t u → Before u t → ⊥
before_asym (by_rule h) (by_rule h') = omega arith
before_asym (by_rule h) (by_length e s) = omega arith
before_asym (by_rule h) (by_left e s b) = omega arith
before_asym (by_rule h) (by_right e s b) = omega arith
before_asym (by_length e h) (by_rule h') = omega arith
before_asym (by_length e h) (by_length e' s) = omega arith
before_asym (by_length e h) (by_left e' s b) = omega arith
before_asym (by_length e h) (by_right e' s b) = let q = ap size s in omega arith
before_asym (by_left e s a) (by_rule h') = omega arith
before_asym (by_left e s a) (by_length e' s') = omega arith
before_asym (by_left e s a) (by_left e' s' b) = before_asym a b
before_asym (by_left e s a) (by_right e' s' b) = before_irrefl a (sym s')
before_asym (by_right e s a) (by_rule h') = omega arith
before_asym (by_right e s a) (by_length e' s') = let q = ap size s in omega arith
before_asym (by_right e s a) (by_left e' s' b) = before_irrefl b (sym s)
before_asym (by_right e s a) (by_right e' s' b) = before_asym a b

-- ---- the full list

module _ (chain : ℕ → List Rule) where
  expand_place : (c : Choice) (t : Tree) → t ∈ expand (trees chain) c → place t ≡ spot c
  expand_place (one i w) t m = rw (Memᴰ.eq_of_singleton m)
  expand_place (two i B k C j) t m = let q = combine_∈ (node i) (trees chain B k) (trees chain C j) m in rw (← q.4)

  size_of_lem : (B k : ℕ) (t : Tree) → t ∈ trees chain B k → size t ≡ k
  size_of_lem B k t m = derives_size chain (sound chain B k t m)

  sooner_before : (c d : Choice) → Sooner c d → (t : Tree) → t ∈ expand (trees chain) c
      → (u : Tree) → u ∈ expand (trees chain) d → Before t u
  sooner_before c d (sooner_rule h) t mt u mu =
      let q : place t < place u = omega (arith, expand_place c t mt, expand_place d u mu) in by_rule q
  sooner_before c d (sooner_split {i = i} {B = B} {k = k} {C = C} {j = j} {i' = i'} {B' = B'} {k' = k'} {C' = C'} {j' = j'} e e' h) t mt u mu =
      let p = combine_∈ (node i) (trees chain B k) (trees chain C j) mt in
      let q = combine_∈ (node i') (trees chain B' k') (trees chain C' j') mu in
      let z : size p.0 < size q.0 = omega (arith, size_of_lem B k p.0 p.2, size_of_lem B' k' q.0 q.2) in
      rw (← p.4, ← q.4) (by_length e z)

  choice_sorted : (A m : ℕ) (c : Choice) → Begins (chain A) 0 m c → ((B k : ℕ) → k < m → Pairwise Before (trees chain B k))
      → Pairwise Before (expand (trees chain) c)
  choice_sorted A m (one i w) h ih = pairwise_one Before _
  choice_sorted A m (two i B k C j) h ih =
      pairwise_combine Before Before Before (node i) (trees chain B k) (trees chain C j) (ih B k (omega arith)) (ih C j (omega arith))
      (λ x y y' b. by_right refl refl b)
      (λ x x' m₁ m₂ b y y'. let z : size x ≡ size x' = omega (arith, size_of_lem B k x m₁, size_of_lem B k x' m₂) in by_left refl z b)

  sorted_below : (n A m : ℕ) → m < n → Pairwise Before (trees chain A m)
  sorted_below zero A m h = absurd (omega arith)
  sorted_below (suc n) A m h =
      rw (trees_eq chain A m)
      (pairwise_concat Sooner Before (expand (trees chain)) (choices chain A m) (choices_sorted 0 (chain A) m)
      (λ c mc. choice_sorted A m c (choice_begins (chain A) 0 m c mc) (λ B k l. sorted_below n B k (omega arith)))
      sooner_before)

  -- each entry stands before each later one
  pub sorted : (A m : ℕ) → Pairwise Before (trees chain A m)
  sorted A m = sorted_below (suc m) A m (omega arith)

  -- no derivation is listed twice, so there are exactly as many derivations as the list is long
  pub distinct : (A m : ℕ) → Distinct (trees chain A m)
  distinct A m = pairwise_distinct Before (λ x y. before_irrefl) (trees chain A m) (sorted A m)

  pub how_many_lem : (A m : ℕ) → Exactly (length (trees chain A m)) (Derives chain A m)
  how_many_lem A m = record { listed = trees chain A m; many = refl; once = distinct A m; all = λ t. (complete chain, sound chain A m t) }

  -- "The derivation number is how many stand before it": entry d has the number d
  pub entry_number : (A m d : ℕ) (z : Tree) → d < length (trees chain A m)
      → Exactly d (λ u. Derives chain A m u × Before u (get_or (trees chain A m) d z))
  entry_number A m d z h =
      let e = exactly_before Before (λ x y. before_asym) (λ x y. before_irrefl) (trees chain A m) d z (sorted A m) h in
      record {
        listed = e.listed;
        many = e.many;
        once = e.once;
        all = λ u. (λ p. (e.all u).0 (complete chain p.0, p.1), λ n. let q = (e.all u).1 n in (sound chain A m u q.0, q.1));
      }
