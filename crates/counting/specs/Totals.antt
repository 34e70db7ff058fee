-- Totals (document 01, section 'Derivations and their order'): "T(A, m) is how many derivations there are (000, T_A; 001, formula 3:
-- the sum over rules and k of products)." That it counts them is a theorem and no part of this definition; a reader who takes T as what it counts, or
-- by its two equations (`Sums` below), may pass over the text of `total`.
-- A total is T with weights: a word counts for its weight at its position, a derivation for the product of its words' weights.
-- Assumes nothing: these are definitions.
use Rattle.std.specs.Prelude.{◌≡◌, cond, List, ℕ, zero, suc, ◌+◌, ◌*◌, ◌-◌, ◌≤◌, eqb, length}
use Rattle.lists.specs.Joined.{sum_over, up_from}
use Rattle.grammar.specs.Chains.{Rule, word, pair, words_of, pairs_of}

-- What a rule adds for the length m at the position p: a word rule its word's weight for length 1, a pair rule the products of its halves, the
-- left length k upward (001, formula 4a). `total p B k` is the half's own total.
abbrev pub rule_total : (v : ℕ → ℕ → ℕ) (total : ℕ → ℕ → ℕ → ℕ) (p m : ℕ) → Rule → ℕ
rule_total v total p m (word w) = cond (eqb m 1) (v p w) 0
rule_total v total p m (pair B C) = sum_over (λ k. total p B k * total (p + k) C (m - k)) (up_from 1 (m - 1))

module _ (chain : ℕ → List Rule) where
  -- halves are shorter than the whole, so a depth above the length adds all
  unfoldable pub total_to : (v : ℕ → ℕ → ℕ) (depth p A m : ℕ) → ℕ
  total_to v zero p A m = 0
  total_to v (suc n) p A m = sum_over (rule_total v (total_to v n) p m) (chain A)

  -- the total of A and m, its first word at the position p
  unfoldable pub total : (v : ℕ → ℕ → ℕ) (p A m : ℕ) → ℕ
  total v p A m = total_to v (suc m) p A m

  -- every word counts for u, wherever it stands
  abbrev pub total_by : (u : ℕ → ℕ) → ℕ → ℕ → ℕ
  total_by u A m = total (λ p w. u w) 0 A m

  -- every word counts for 1
  abbrev pub T : ℕ → ℕ → ℕ
  T A m = total (λ p w. 1) 0 A m

  -- what the pair rule (B, C) has added for the length m after the left length k: "the sum of its products for left lengths 1 to k" (document 02, U3)
  abbrev pub added_after : (B C m k : ℕ) → ℕ
  added_after B C m k = sum_over (λ i. T B i * T C (m - i)) (up_from 1 k)

  -- T by its two equations (000, T_A; 001, formula 3): how many words, and "the sum over rules and k of products". The sum over k is that of 001's
  -- formula 4a, whose products for k = 0 and k = m are 0, as no derivation is empty.
  pub record Sums : Type 0 where
    pub words : (A : ℕ) → T A 1 ≡ length (words_of (chain A))
    pub pairs : (A m : ℕ) → 2 ≤ m → T A m ≡ sum_over (λ (x : ℕ × ℕ). added_after x.0 x.1 m (m - 1)) (pairs_of (chain A))
    pub formula_4a : (B C m : ℕ) → added_after B C m (m - 1) ≡ sum_over (λ k. T B k * T C (m - k)) (up_from 0 (m + 1))
