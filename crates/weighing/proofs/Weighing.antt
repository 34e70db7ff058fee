-- What sentences weigh. A total by the words' weights is what the derivations' sentences weigh together, and 25 applies exactly where that of a needed
-- pair doesn't fit. The words of an accepted grammar's derivations are below W: so where no weight is 0 each derivation weighs something, and where
-- every weight is 1 each weighs 1, a total by weights is T, and 25 says what 10 says.
-- Assumes nothing.
use mathlib.Core.Path.{◌≡◌, refl, sym, ◌∙◌}
use mathlib.Core.Logic.{inl, inr}
use mathlib.Core.Bool.{false, not}
use mathlib.Core.List.Memᴰ
use mathlib.Core.List.{List, [], ◌∷◌}
use Prim.Native.Nat.{ℕ, suc, ◌≤◌, ◌<◌}
use native.Mathlib.Omega.{arith}
use native.Mathlib.Nat.{mul-le-mul}
use lib.ListN.{length, get_or, replicate, length-replicate, get_or-replicate}
use lib.Dec.{eqb}
use borrow.Author.Tests.{eqb-true, eqb-false, eq-eqb, ne_eqb, not-false}
use Rattle.lists.specs.Joined.{◌∈◌, sum_over}
use Rattle.lists.specs.Searched.{some_of}
use Rattle.lists.proofs.Sums.{sum_ext, sum_one, sum_map}
use Rattle.lists.proofs.Members.{get_or_∈, ∈_place, At_∈, At_get_or}
use Rattle.lists.proofs.Tests.{or_left, or_right, none_∈, some_clear}
use Rattle.grammar.specs.Layout.{words, head_of}
use Rattle.grammar.specs.Chains.{chain}
use Rattle.grammar.specs.Refusals.{Accepted}
use Rattle.grammar.specs.Trees.{Tree, sentence, Derives, by_word, by_pair}
use Rattle.grammar.specs.FullList.{trees}
use Rattle.grammar.proofs.Enumeration.{sound}
use Rattle.grammar.proofs.Walks.{rest_inside}
use Rattle.counting.specs.Totals.{total_by, T}
use Rattle.counting.specs.Refusals.{too_large}
use Rattle.counting.specs.Inner.Sentences.{sentences, weight}
use Rattle.counting.proofs.Counts.{total_sum, T_length}
use Rattle.counting.proofs.Needed.{overflows_needed, overflows_fit}
use Rattle.counting.proofs.Ten.{counts_small}
use Rattle.weighing.specs.Weights.{weight_of, weighs, bad_weights, too_heavy, TwentyFive}
use Rattle.weighing.specs.Weighted.{Weighty}

-- ---- totals

module _ (weights : List ℕ) where
  weight_weighs : (p : ℕ) (s : List ℕ) → weight (λ q w. weight_of weights w) p s ≡ weighs weights s
  weight_weighs p [] = refl
  weight_weighs p (w ∷ s) = rw (weight_weighs (suc p) s)

  total_weighs : (g : List ℕ) (A m : ℕ) → total_by (chain g) (weight_of weights) A m ≡ sum_over (λ t. weighs weights (sentence t)) (trees (chain g) A m)
  unfolding sentences
  total_weighs g A m =
      total_sum (chain g) (λ q w. weight_of weights w) 0 A m
      ∙ sum_map sentence (weight (λ q w. weight_of weights w) 0) (trees (chain g) A m)
      ∙ sum_ext (λ t. weight (λ q w. weight_of weights w) 0 (sentence t)) (λ t. weighs weights (sentence t)) (trees (chain g) A m) (λ t i. weight_weighs 0 (sentence t))

pub twenty_five : (g : List ℕ) (n : ℕ) (weights : List ℕ) → TwentyFive g n weights
unfolding too_heavy
twenty_five g n weights = record { totals = total_weighs weights g; applies = overflows_needed (chain g) (λ p w. weight_of weights w) }

-- ---- what 24 and 25 leave of the weights

pub left_good : (W : ℕ) (weights : List ℕ) → bad_weights W weights ≡ false → (length weights ≡ W) × ((w : ℕ) → w < length weights → 1 ≤ weight_of weights w)
unfolding bad_weights
left_good W weights good =
    let size = not (eqb (length weights) W) in
    let zeros = some_of (λ x. eqb x 0) weights in (
      eqb-true (length weights) W (not-false (eqb (length weights) W) (or_left size zeros good)),
      λ w h.
          let z = eqb-false (get_or weights w 0) 0 (none_∈ (λ x. eqb x 0) weights (or_right size zeros good) (get_or weights w 0) (get_or_∈ weights w 0 h)) in
          omega (arith, z),
    )

module _ (g : List ℕ) (n : ℕ) (weights : List ℕ) where
  pub weighty_good : Weighty g n weights → bad_weights (words g) weights ≡ false
  unfolding bad_weights
  weighty_good w =
      rw (
        eq-eqb (length weights) (words g) w.many,
        some_clear (λ x. eqb x 0) weights
            (λ x m.
            let q = ∈_place weights m in
            let e = At_get_or weights q.0 x 0 q.2 in
            ne_eqb x 0 (λ z. omega (arith, w.some q.0 q.1))),
      )

  pub weighty_light : Weighty g n weights → too_heavy g n weights ≡ false
  unfolding too_heavy
  weighty_light w = (overflows_fit (chain g) (λ p x. weight_of weights x)).1 w.fit

  pub left_weighty : bad_weights (words g) weights ≡ false → too_heavy g n weights ≡ false → Weighty g n weights
  unfolding too_heavy
  left_weighty good light =
      let left = left_good (words g) weights good in
      record { many = left.0; some = left.1; fit = (overflows_fit (chain g) (λ p x. weight_of weights x)).0 light }

-- ---- sentences by their words

module _ (weights : List ℕ) where
  weighs_some : (s : List ℕ) → ((w : ℕ) → w ∈ s → 1 ≤ weight_of weights w) → 1 ≤ weighs weights s
  weighs_some [] h = omega arith
  weighs_some (w ∷ s) h = omega (arith, mul-le-mul (h w (Memᴰ.head refl)) (weighs_some s (λ x m. h x (Memᴰ.tail m))))

  weighs_one : (s : List ℕ) → ((w : ℕ) → w ∈ s → weight_of weights w ≡ 1) → weighs weights s ≡ 1
  weighs_one [] h = refl
  weighs_one (w ∷ s) h = rw (h w (Memᴰ.head refl), weighs_one s (λ x m. h x (Memᴰ.tail m)))

-- ---- derivations of an accepted grammar

-- all weights 1
abbrev pub ones : (g : List ℕ) → List ℕ
ones g = replicate (words g) 1

ones_at : (g : List ℕ) (w : ℕ) → w < words g → weight_of (ones g) w ≡ 1
ones_at g w h = get_or-replicate (words g) w 1 0 h

module _ (g : List ℕ) (ok : Accepted g) where
  -- their words are below W
  words_inside : {A m : ℕ} {t : Tree} → Derives (chain g) A m t → (w : ℕ) → w ∈ sentence t → w < words g
  words_inside (by_word {A = A} {i = i} h e) w m = rw (Memᴰ.eq_of_singleton m) (rest_inside g ok (head_of g A) (At_∈ (chain g A) i h))
  words_inside (by_pair {l = l} h e a b) w m =
      elim (Memᴰ.append_cases (sentence l) m) [ inl p ↦ words_inside a w p | inr p ↦ words_inside b w p ]

  -- each weighs something
  pub derived_some : (weights : List ℕ) {A m n : ℕ} {t : Tree} → Weighty g n weights → Derives (chain g) A m t → 1 ≤ weighs weights (sentence t)
  derived_some weights {t = t} w d = weighs_some weights (sentence t) (λ x m. w.some x (omega (arith, w.many, words_inside d x m)))

  -- and 1 where every weight is 1
  pub derived_one : {A m : ℕ} {t : Tree} → Derives (chain g) A m t → weighs (ones g) (sentence t) ≡ 1
  derived_one {t = t} d = weighs_one (ones g) (sentence t) (λ x m. ones_at g x (words_inside d x m))

  -- so a total by them is T
  ones_total : (A m : ℕ) → total_by (chain g) (weight_of (ones g)) A m ≡ T (chain g) A m
  ones_total A m =
      total_weighs (ones g) g A m
      ∙ sum_ext (λ t. weighs (ones g) (sentence t)) (λ t. 1) (trees (chain g) A m) (λ t i. derived_one (sound (chain g) A m t i))
      ∙ sum_one (trees (chain g) A m)
      ∙ sym (T_length (chain g) A m)

  -- 24 doesn't apply to them, and 25 doesn't where 10 doesn't
  pub ones_weighty : (n : ℕ) → too_large g n ≡ false → Weighty g n (ones g)
  ones_weighty n e =
      record {
        many = length-replicate (words g) 1;
        some = λ w h. omega (arith, ones_at g w (omega (arith, length-replicate {A = ℕ} (words g) 1)));
        fit = λ A m a. rw (ones_total A m) ((counts_small g n).0 e A m a);
      }
