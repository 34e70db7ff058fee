-- Walking along links. A walk from the last rule with a key to the one before, and so on, meets each of them once: what is picked up to a
-- place is what the last rule there adds, and what is picked before it. And the rules of one nonterminal lie together, so over all places
-- what is picked for it is a sum over its own rules.
-- Assumes nothing.
use mathlib.Core.Path.{◌≡◌, refl, sym, ap, ◌∙◌}
use mathlib.Core.Bool.{Bool, true, false, cond, ◌&&◌}
use mathlib.Core.List.{List}
use Prim.Native.Nat.{ℕ, zero, suc, ◌+◌, ◌-◌, ◌≤◌, ◌<◌}
use native.Mathlib.Omega.{arith}
use native.Mathlib.Numerals.{add-one}
use native.Mathlib.Decide.{ℕ_discrete}
use borrow.Author.Tests.{eqb-true, eq-eqb, ne_eqb}
use lib.Dec.{eqb}
use Rattle.lists.specs.Joined.{sum_over, up_from}
use Rattle.lists.specs.Searched.{bit, times}
use Rattle.lists.proofs.Members.{up_from_∈}
use Rattle.lists.proofs.Sums.{sum_ext, sum_map}
use Rattle.lists.proofs.Tests.{and_false, both_ways}
use Rattle.grammar.specs.Inner.Rules.{word_at, left_at, right_at, word_from, pair_from, count_in, words_in, pairs_in, Ruled}
use Rattle.grammar.specs.Inner.Links.{last, pick_sum, both, both_at, word_owner, pair_owner, Keyed, Linked}
use Rattle.grammar.proofs.Ruling.{both_same, holder, rising, pair_below}

-- ---- the last place with a key

pub last_le : (key : ℕ → ℕ) (x n : ℕ) → last key x n ≤ n
last_le key x zero = omega arith
last_le key x (suc n) =
    elim (ℕ_discrete (key n) x) [
      | yes e ↦ rw (eq-eqb (key n) x e) (omega arith)
      | no e ↦ rw (ne_eqb (key n) x e) (omega (arith, last_le key x n))
    ]

pub last_key : (key : ℕ → ℕ) (x n : ℕ) {l : ℕ} → l ≡ last key x n → 0 < l → key (l - 1) ≡ x
last_key key x zero e h = absurd (omega arith)
last_key key x (suc n) {l} e h =
    elim (ℕ_discrete (key n) x) [
      | yes p ↦
          let q : l - 1 ≡ n = omega (arith, rw (eq-eqb (key n) x p) at e) in
          rw q p
      | no p ↦ last_key key x n (rw (ne_eqb (key n) x p) at e) h
    ]

-- every place below n with the key comes before it
pub last_after : (key : ℕ → ℕ) (x n j : ℕ) → j < n → key j ≡ x → j < last key x n
last_after key x zero j h e = absurd (omega arith)
last_after key x (suc n) j h e =
    elim (ℕ_discrete (key n) x) [
      | yes q ↦ rw (eq-eqb (key n) x q) h
      | no q ↦
          rw (ne_eqb (key n) x q)
          (elim (ℕ_discrete n j) [
            | yes z ↦ absurd (q (ap key z ∙ e))
            | no z ↦ last_after key x n j (omega arith) e
          ])
    ]

-- ---- what is picked

module _ (key owner f : ℕ → ℕ) (x A : ℕ) where
  -- one place more, with the key or without
  pick_with : (n : ℕ) → key n ≡ x → pick_sum key owner f x A (suc n) ≡ cond (eqb (owner (suc n)) A) (f n) 0 + pick_sum key owner f x A n
  pick_with n e = rw (eq-eqb (key n) x e)

  pick_without : (n : ℕ) → (key n ≡ x → ⊥) → pick_sum key owner f x A (suc n) ≡ pick_sum key owner f x A n
  pick_without n e = rw (ne_eqb (key n) x e) (omega arith)

  -- where there is no last rule, nothing is picked
  pub pick_none : (n : ℕ) → last key x n ≡ 0 → pick_sum key owner f x A n ≡ 0
  pick_none zero e = refl
  pick_none (suc n) e =
      elim (ℕ_discrete (key n) x) [
        | yes p ↦ absurd (omega (arith, rw (eq-eqb (key n) x p) at e))
        | no p ↦ pick_without n p ∙ pick_none n (rw (ne_eqb (key n) x p) at e)
      ]

  -- what is picked is what the last rule adds, and what is picked before it
  pub pick_more : (n : ℕ) {l : ℕ} → l ≡ last key x n → 0 < l
      → pick_sum key owner f x A n ≡ cond (eqb (owner l) A) (f (l - 1)) 0 + pick_sum key owner f x A (l - 1)
  pick_more zero e h = absurd (omega arith)
  pick_more (suc n) {l} e h =
      elim (ℕ_discrete (key n) x) [
        | yes p ↦
            let q : l ≡ suc n = rw (eq-eqb (key n) x p) at e in
            let z : suc n - 1 ≡ n = omega arith in
            rw (q, z) (pick_with n p)
        | no p ↦ pick_without n p ∙ pick_more n (rw (ne_eqb (key n) x p) at e) h
      ]

  -- the rules of others add nothing
  pick_others : (lo m : ℕ) → ((i : ℕ) → lo ≤ i → i < lo + m → owner (i + 1) ≡ A → ⊥) → pick_sum key owner f x A (lo + m) ≡ pick_sum key owner f x A lo
  pick_others lo zero h = let e : lo + 0 ≡ lo = omega arith in rw e
  pick_others lo (suc m) h =
      let e : lo + suc m ≡ suc (lo + m) = omega arith in
      let other : owner (suc (lo + m)) ≡ A → ⊥ = rw (add-one (lo + m)) at (h (lo + m) (omega arith) (omega arith)) in
      let none : eqb (owner (suc (lo + m))) A ≡ false = ne_eqb (owner (suc (lo + m))) A other in
      rw (e, and_false (eqb (key (lo + m)) x) (eqb (owner (suc (lo + m))) A) none)
      (omega (arith, pick_others lo m (λ i l u. h i l (omega arith))))

  -- its own rules add each its own
  pick_own : (lo m : ℕ) → ((i : ℕ) → lo ≤ i → i < lo + m → owner (i + 1) ≡ A)
      → pick_sum key owner f x A (lo + m) ≡ pick_sum key owner f x A lo + sum_over (λ i. cond (eqb (key i) x) (f i) 0) (up_from lo m)
  pick_own lo zero h = let e : lo + 0 ≡ lo = omega arith in rw e (omega arith)
  pick_own lo (suc m) h =
      let s : lo + suc m ≡ suc lo + m = omega arith in
      let mine : owner (suc lo) ≡ A = rw (add-one lo) at (h lo (omega arith) (omega arith)) in
      rw s (omega (arith, pick_own (suc lo) m (λ i l u. h i (omega arith) (omega arith)), first mine))
    where
      go : (t : Bool) → cond (t && true) (f lo) 0 + pick_sum key owner f x A lo ≡ pick_sum key owner f x A lo + cond t (f lo) 0
      go true = omega arith
      go false = omega arith

      first : owner (suc lo) ≡ A → pick_sum key owner f x A (suc lo) ≡ pick_sum key owner f x A lo + cond (eqb (key lo) x) (f lo) 0
      first q = rw (q, eq-eqb A A refl) (go (eqb (key lo) x))

-- ---- a link on the walk along the rules with the key x, from the last one below j on

pub record Link (key from : ℕ → ℕ) (count : ℕ) (next owner : ℕ → ℕ) (x j l : ℕ) : Type 0 where
  pub below : l ≤ j
  pub key_is : key (l - 1) ≡ x
  pub next_is : next l ≡ last key x (l - 1)
  pub owner_inside : owner l < count
  pub owner_from : from (owner l) ≤ l - 1
  pub owner_to : l - 1 < from (owner l + 1)

-- beginnings that start at 0, rise, and end at the last place
pub record Rising (from : ℕ → ℕ) (count n : ℕ) : Type 0 where
  pub first : from 0 ≡ 0
  pub rises : (a : ℕ) → a < count → from a ≤ from (a + 1)
  pub ends : from count ≡ n

module _ {key from : ℕ → ℕ} {count n keys : ℕ} {head next owner : ℕ → ℕ} (k : Keyed key from count n keys head next owner) (r : Rising from count n) where
  -- a place from M's first on, before M''s first, has an owner from M on, below M'
  owned : (M M' i : ℕ) → from M ≤ i → i < from M' → M ≤ M' → M' ≤ count → (M ≤ owner (i + 1)) × (owner (i + 1) < M')
  owned M M' i h u l l' =
      let w = holder from M M' i h u l in
      let up = rising from M' count (λ a z. r.rises a (omega arith)) l' in
      rw (k.owners w.0 i (omega (arith, w.2)) w.3 w.4 (omega (arith, r.ends))) (w.1, w.2)

  pub link_at : (x j : ℕ) {l : ℕ} → l ≡ last key x j → j ≤ n → 0 < l → Link key from count next owner x j l
  link_at x j {l} e h some =
      let below : l ≤ j = omega (arith, last_le key x j) in
      let is = last_key key x j e some in
      let back : l ≡ l - 1 + 1 = omega arith in
      let w = holder from 0 count (l - 1) (omega (arith, r.first)) (omega (arith, r.ends)) (omega arith) in
      let mine : owner l ≡ w.0 = ap owner back ∙ k.owners w.0 (l - 1) w.2 w.3 w.4 (omega arith) in
      record {
        below = below;
        key_is = is;
        next_is = ap next back ∙ k.nexts (l - 1) (omega arith) ∙ rw is;
        owner_inside = rw mine w.2;
        owner_from = rw mine w.3;
        owner_to = rw mine w.4;
      }

  -- what is picked over all places for a is the sum over a's rules
  pub pick_all : (f : ℕ → ℕ) (x a : ℕ) → a < count
      → pick_sum key owner f x a n ≡ sum_over (λ i. cond (eqb (key i) x) (f i) 0) (up_from (from a) (from (a + 1) - from a))
  pick_all f x a inside =
      let up = r.rises a inside in
      let past = rising from (a + 1) count (λ b z. r.rises b z) (omega arith) in
      let e₀ : 0 + from a ≡ from a = omega arith in
      let e₁ : from a + (from (a + 1) - from a) ≡ from (a + 1) = omega arith in
      let e₂ : from (a + 1) + (n - from (a + 1)) ≡ n = omega (arith, r.ends) in
      let before = rw e₀
      at (pick_others key owner f x a 0 (from a)
      (λ i l u z. omega (arith, owned 0 a i (omega (arith, r.first)) (omega arith) (omega arith) (omega arith)))) in
      let here = rw e₁
      at (pick_own key owner f x a (from a) (from (a + 1) - from a)
      (λ i l u. omega (arith, owned a (a + 1) i l (omega arith) (omega arith) (omega arith)))) in
      let after = rw e₂
      at (pick_others key owner f x a (from (a + 1)) (n - from (a + 1))
      (λ i l u z. omega (arith, r.ends, owned (a + 1) count i l (omega (arith, r.ends)) (omega arith) (omega arith)))) in
      omega (arith, before, here, after)

-- ---- the links of a table

eqb_turn : (a b : ℕ) → eqb a b ≡ eqb b a
eqb_turn a b =
    both_ways (eqb a b) (eqb b a) (λ e. eq-eqb b a (sym (eqb-true a b e))) (λ e. eq-eqb a b (sym (eqb-true b a e)))

module _ {rules : List (List ℕ)} (t : Ruled rules) where
  pub words_rise : Rising (word_from rules) (count_in rules) (word_from rules (count_in rules))
  words_rise = record { first = t.word_first; rises = t.word_rises; ends = refl }

  pub pairs_rise : Rising (pair_from rules) (count_in rules) (pair_from rules (count_in rules))
  pairs_rise = record { first = t.pair_first; rises = t.pair_rises; ends = refl }

  module _ (links : Linked rules) where
    module _ (A : ℕ) (inside : A < count_in rules) where
      -- how many word rules of A have the word x
      pub words_picked : (x : ℕ) → pick_sum (word_at rules) (word_owner rules) (λ i. 1) x A (word_from rules (count_in rules)) ≡ times x (words_in rules A)
      unfolding words_in
      words_picked x =
          let places = up_from (word_from rules A) (word_from rules (A + 1) - word_from rules A) in
          pick_all links.by_word words_rise (λ i. 1) x A inside
          ∙ sum_ext (λ i. cond (eqb (word_at rules i) x) 1 0) (λ i. bit (eqb x (word_at rules i))) places
          (λ i m. ap bit (eqb_turn (word_at rules i) x))
          ∙ sym (sum_map (word_at rules) (λ y. bit (eqb x y)) places)

      -- v for each of its pair rules (b, c)
      pub pairs_picked : (v b c : ℕ) → c < 32
          → pick_sum (both_at rules) (pair_owner rules) (λ i. v) (both b c) A (pair_from rules (count_in rules))
          ≡ sum_over (λ (e : ℕ × ℕ). cond (eqb e.0 b && eqb e.1 c) v 0) (pairs_in rules A)
      unfolding pairs_in
      pairs_picked v b c hc =
          let places = up_from (pair_from rules A) (pair_from rules (A + 1) - pair_from rules A) in
          pick_all links.by_pair pairs_rise (λ i. v) (both b c) A inside
          ∙ sum_ext (λ i. cond (eqb (both_at rules i) (both b c)) v 0) (λ i. cond (eqb (left_at rules i) b && eqb (right_at rules i) c) v 0) places
          (λ i m.
          let u = up_from_∈ (pair_from rules A) (pair_from rules (A + 1) - pair_from rules A) m in
          let k = pair_below t A i inside (omega (arith, t.pair_rises A inside)) in
          rw (both_same (left_at rules i) (right_at rules i) b c (omega (arith, t.rights i k, t.few)) hc))
          ∙ sym (sum_map (λ i. (left_at rules i, right_at rules i)) (λ (e : ℕ × ℕ). cond (eqb e.0 b && eqb e.1 c) v 0) places)
