-- The sentences of the full list, by the rules of a chain: of length 1 the words of its word rules, of a greater length, pair rule
-- after pair rule and left length after left length, each left sentence followed by each right one.
-- Assumes nothing.
use mathlib.Core.Path.{◌≡◌, refl, ap, ◌∙◌}
use mathlib.Core.List.Memᴰ
use mathlib.Core.List.{List, [], ◌∷◌, ◌++◌, map}
use Prim.Native.Nat.{ℕ, zero, suc, ◌-◌, ◌≤◌}
use native.Mathlib.Omega.{arith}
use lib.ListN.{length}
use Rattle.lists.specs.Joined.{◌∈◌, concat_map, combine}
use Rattle.lists.proofs.Sums.{map_concat, map_combine, concat_append}
use Rattle.grammar.specs.Chains.{Rule, word, pair, words_of, pairs_of}
use Rattle.grammar.specs.Trees.{node, sentence}
use Rattle.grammar.specs.FullList.{Choice, one, two, splits, choices_from, expand, choices, trees}
use Rattle.grammar.proofs.Enumeration.{trees_eq, sound, sentence_size, derives_size}
use Rattle.counting.specs.Inner.Sentences.{sentences, split_list}

-- what the derivations that begin with a choice say
choice_sentences : (list : ℕ → ℕ → List (List ℕ)) → Choice → List (List ℕ)
choice_sentences list (one i w) = (w ∷ []) ∷ []
choice_sentences list (two i B k C j) = combine ◌++◌ (list B k) (list C j)

module _ (list : ℕ → ℕ → List (List ℕ)) where
  choice_splits : (i B C k j : ℕ) → concat_map (choice_sentences list) (splits i B C k j) ≡ split_list list B C k j
  unfolding choice_sentences
  choice_splits i B C k zero = refl
  choice_splits i B C k (suc j) = rw (choice_splits i B C (suc k) j)

  choice_none : (i : ℕ) (rs : List Rule) → concat_map (choice_sentences list) (choices_from i rs 0) ≡ []
  choice_none i [] = refl
  choice_none i (word w ∷ rs) = choice_none (suc i) rs
  choice_none i (pair B C ∷ rs) = choice_none (suc i) rs

  choice_one : (i : ℕ) (rs : List Rule) → concat_map (choice_sentences list) (choices_from i rs 1) ≡ map (λ w. w ∷ []) (words_of rs)
  unfolding choice_sentences
  choice_one i [] = refl
  choice_one i (word w ∷ rs) = rw (choice_one (suc i) rs)
  choice_one i (pair B C ∷ rs) = choice_one (suc i) rs

  choice_more : (i m : ℕ) (rs : List Rule)
      → concat_map (choice_sentences list) (choices_from i rs (suc (suc m))) ≡ concat_map (λ x. split_list list x.0 x.1 1 (suc m)) (pairs_of rs)
  choice_more i m [] = refl
  choice_more i m (word w ∷ rs) = choice_more (suc i) m rs
  choice_more i m (pair B C ∷ rs) =
      concat_append (choice_sentences list) (splits i B C 1 (suc m)) (choices_from (suc i) rs (suc (suc m)))
      ∙ rw (choice_splits i B C 1 (suc m), choice_more (suc i) m rs)

module _ (chain : ℕ → List Rule) where
  choice_expand : (c : Choice) → map sentence (expand (trees chain) c) ≡ choice_sentences (sentences chain) c
  unfolding choice_sentences sentences
  choice_expand (one i w) = refl
  choice_expand (two i B k C j) = map_combine (node i) ◌++◌ sentence sentence sentence (λ l r. refl) (trees chain B k) (trees chain C j)

  sentences_eq : (A m : ℕ) → sentences chain A m ≡ concat_map (choice_sentences (sentences chain)) (choices chain A m)
  unfolding sentences
  sentences_eq A m =
      ap (map sentence) (trees_eq chain A m) ∙ map_concat sentence (expand (trees chain)) (choice_sentences (sentences chain)) choice_expand (choices chain A m)

  pub sentences_none : (A : ℕ) → sentences chain A 0 ≡ []
  sentences_none A = sentences_eq A 0 ∙ choice_none (sentences chain) 0 (chain A)

  pub sentences_one : (A : ℕ) → sentences chain A 1 ≡ map (λ w. w ∷ []) (words_of (chain A))
  sentences_one A = sentences_eq A 1 ∙ choice_one (sentences chain) 0 (chain A)

  pub sentences_more : (A m : ℕ) → 2 ≤ m → sentences chain A m ≡ concat_map (λ x. split_list (sentences chain) x.0 x.1 1 (m - 1)) (pairs_of (chain A))
  sentences_more A zero h = absurd (omega arith)
  sentences_more A (suc zero) h = absurd (omega arith)
  sentences_more A (suc (suc m)) h =
      let e : suc (suc m) - 1 ≡ suc m = omega arith in
      rw e (sentences_eq A (suc (suc m)) ∙ choice_more (sentences chain) 0 m (chain A))

  -- a sentence of the list has the list's length
  pub sentence_length : (A m : ℕ) (s : List ℕ) → s ∈ sentences chain A m → length s ≡ m
  unfolding sentences
  sentence_length A m s i =
      let q = Memᴰ.of_map sentence (trees chain A m) i in
      rw (← q.2) (sentence_size q.0 ∙ derives_size chain (sound chain A m q.0 q.1))
