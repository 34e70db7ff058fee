-- Totals count: a total is the sum of the weights of the full list's sentences, so T is the length of the full list, which is how many
-- derivations there are. By induction on the length; each step is one of concatenation and combination.
-- Assumes nothing.
use mathlib.Core.Path.{◌≡◌, refl, sym, ap, ◌∙◌}
use mathlib.Core.List.{List, [], ◌∷◌, ◌++◌}
use Prim.Native.Nat.{ℕ, zero, suc, ◌+◌, ◌*◌, ◌-◌, ◌≤◌, ◌<◌}
use native.Mathlib.Omega.{arith}
use native.Mathlib.Nat.{mul-le-mul}
use lib.ListN.{length, length-map}
use Rattle.lists.specs.Joined.{sum_over, combine, up_from}
use Rattle.lists.specs.Ordered.{Exactly}
use Rattle.lists.proofs.Sums.{sum_ext, sum_le, sum_one, sum_map, sum_append, sum_concat, sum_combine}
use Rattle.grammar.specs.Chains.{Rule, words_of, pairs_of}
use Rattle.grammar.specs.Trees.{sentence, Derives}
use Rattle.grammar.specs.FullList.{trees}
use Rattle.grammar.proofs.Order.{how_many_lem}
use Rattle.counting.specs.Totals.{total, T}
use Rattle.counting.specs.Inner.Sentences.{sentences, weight, split_list}
use Rattle.counting.proofs.Totals.{product_at, pair_total, pair_ext, total_none, total_one, total_more}
use Rattle.counting.proofs.Sentences.{sentences_none, sentences_one, sentences_more, sentence_length}

pub weight_append : (v : ℕ → ℕ → ℕ) (p : ℕ) (a b : List ℕ) → weight v p (a ++ b) ≡ weight v p a * weight v (p + length a) b
weight_append v p [] b = let e : p + 0 ≡ p = omega arith in rw e (omega arith)
weight_append v p (w ∷ a) b =
    let e : p + suc (length a) ≡ suc p + length a = omega arith in
    rw (weight_append v (suc p) a b, e) (omega arith)

module _ (chain : ℕ → List Rule) (v : ℕ → ℕ → ℕ) where
  -- what the sentences of A and m weigh together
  abbrev sum : ℕ → ℕ → ℕ → ℕ
  sum p A m = sum_over (weight v p) (sentences chain A m)

  split_sum : (B C p m k j : ℕ) → k + j ≡ m → sum_over (weight v p) (split_list (sentences chain) B C k j) ≡ sum_over (product_at sum B C p m) (up_from k j)
  split_sum B C p m k zero e = refl
  split_sum B C p m k (suc j) e =
      let z : m - k ≡ suc j = omega arith in
      sum_append (weight v p) (combine ◌++◌ (sentences chain B k) (sentences chain C (suc j))) (split_list (sentences chain) B C (suc k) j)
      ∙ rw (
        sum_combine ◌++◌ (weight v p) (weight v p) (weight v (p + k)) (sentences chain B k) (sentences chain C (suc j))
            (λ x i y i'. rw (← sentence_length chain B k x i) (weight_append v p x y)),
        split_sum B C p m (suc k) j (omega arith),
        z,
      )

  sum_below : (n p A m : ℕ) → m < n → total chain v p A m ≡ sum p A m
  sum_below zero p A m h = absurd (omega arith)
  sum_below (suc n) p A zero h = total_none chain v p A ∙ sym (ap (sum_over (weight v p)) (sentences_none chain A))
  sum_below (suc n) p A (suc zero) h =
      total_one chain v p A
      ∙ sym (ap (sum_over (weight v p)) (sentences_one chain A)
      ∙ sum_map (λ w. w ∷ []) (weight v p) (words_of (chain A))
      ∙ sum_ext (λ w. v p w * 1) (v p) (words_of (chain A)) (λ w i. omega arith))
  sum_below (suc n) p A (suc (suc m)) h =
      total_more chain v p A (suc (suc m)) (omega arith)
      ∙ sum_ext (pair_total (total chain v) p (suc (suc m))) (λ x. sum_over (weight v p) (split_list (sentences chain) x.0 x.1 1 (suc (suc m) - 1))) (pairs_of (chain A))
      (λ x i.
      pair_ext (total chain v) sum p (suc (suc m)) x (λ q B k l u. sum_below n q B k (omega arith))
      ∙ sym (split_sum x.0 x.1 p (suc (suc m)) 1 (suc (suc m) - 1) (omega arith)))
      ∙ sym (ap (sum_over (weight v p)) (sentences_more chain A (suc (suc m)) (omega arith))
      ∙ sum_concat (λ x. split_list (sentences chain) x.0 x.1 1 (suc (suc m) - 1)) (weight v p) (pairs_of (chain A)))

  -- a total is what the sentences weigh together
  pub total_sum : (p A m : ℕ) → total chain v p A m ≡ sum_over (weight v p) (sentences chain A m)
  total_sum p A m = sum_below (suc m) p A m (omega arith)

weight_one : (p : ℕ) (s : List ℕ) → weight (λ q w. 1) p s ≡ 1
weight_one p [] = refl
weight_one p (w ∷ s) = omega (arith, weight_one (suc p) s)

weight_le : (v : ℕ → ℕ → ℕ) (p : ℕ) (s : List ℕ) → ((q w : ℕ) → p ≤ q → q < p + length s → v q w ≤ 1) → weight v p s ≤ 1
weight_le v p [] h = omega arith
weight_le v p (w ∷ s) h =
    omega (arith, mul-le-mul (h p w (omega arith) (omega arith)) (weight_le v (suc p) s (λ q x l u. h q x (omega arith) (omega arith))))

module _ (chain : ℕ → List Rule) where
  pub T_sentences : (A m : ℕ) → T chain A m ≡ length (sentences chain A m)
  T_sentences A m =
      total_sum chain (λ q w. 1) 0 A m
      ∙ sum_ext (weight (λ q w. 1) 0) (λ s. 1) (sentences chain A m) (λ s i. weight_one 0 s)
      ∙ sum_one (sentences chain A m)

  -- weights of at most 1 within the span make a total of at most T
  pub total_le : (v : ℕ → ℕ → ℕ) (p A m : ℕ) → ((q w : ℕ) → p ≤ q → q < p + m → v q w ≤ 1) → total chain v p A m ≤ T chain A m
  total_le v p A m h =
      omega (
        arith,
        total_sum chain v p A m,
        sum_le (weight v p) (λ s. 1) (sentences chain A m)
            (λ s i. let e = sentence_length chain A m s i in weight_le v p s (λ q w l u. h q w l (omega arith))),
        sum_one (sentences chain A m),
        T_sentences A m,
      )

  -- T is the length of the full list
  pub T_length : (A m : ℕ) → T chain A m ≡ length (trees chain A m)
  unfolding sentences
  T_length A m = T_sentences A m ∙ length-map (trees chain A m) sentence

  -- "T(A, m) is how many derivations there are"
  pub T_counts : (A m : ℕ) → Exactly (T chain A m) (Derives chain A m)
  T_counts A m = rw (T_length A m) (how_many_lem chain A m)
