-- Sums in the paper's order (document 02, U3): "Show that, where the count fits, what a pair rule has added after left length k is the sum
-- of its products for left lengths 1 to k." The function that adds them is `add_pair` (src/tallies.rt).
-- Assumes nothing: these are definitions.
use Rattle.std.specs.Prelude.{◌≡◌, List, ◌∷◌, ◌++◌, ℕ, ◌+◌, ◌-◌, ◌<◌, Option, Some, None}
use Rattle.lists.specs.Joined.{sum_over}
use Rattle.grammar.specs.Chains.{Rule, chain, pairs_of}
use Rattle.counting.specs.Totals.{added_after}
use Rattle.counting.specs.Inner.Counted.{count_at}
use Rattle.counting.specs.Inner.Filling.{BothAs, part_sum, no_counts, Halves, HalvesBeside}

-- what pair rules have added together for the length m, each after its last left length
abbrev pub added_by : (chain : ℕ → List Rule) (m : ℕ) → List (ℕ × ℕ) → ℕ
added_by chain m l = sum_over (λ (x : ℕ × ℕ). added_after chain x.0 x.1 m (m - 1)) l

-- the total of an answer that has a count beside it
abbrev pub total_in : Option (ℕ × ℕ) → Option ℕ
total_in (Some x) = Some x.0
total_in None = None

-- A nonterminal A of the grammar g has the pair rules `earlier`, then (B, C), then `later`; k is a left length, or 0.
pub record InOrder (g : List ℕ) (totals : List (List ℕ)) (A m : ℕ) : Type 0 where
  -- what `add_pair` requires holds with k as its bound, where nothing is counted beside it
  pub asked : (earlier later : List (ℕ × ℕ)) (B C k : ℕ) → pairs_of (chain g A) ≡ earlier ++ (B, C) ∷ later → k < m
      → Halves totals B C m k × HalvesBeside totals no_counts B C m (added_by (chain g) m earlier) 0
  -- and, called with what the earlier rules have added, it answers that number and the sum of the products for the left lengths 1 to k: each
  -- answer that it may give by its promise, which speaks of the table's counts, is this one, which speaks of T; whatever is counted beside it
  pub added : (earlier later : List (ℕ × ℕ)) (B C k : ℕ) → pairs_of (chain g A) ≡ earlier ++ (B, C) ∷ later → k < m → (answer : Option (ℕ × ℕ)) (beside : ℕ)
      → BothAs (added_by (chain g) m earlier + part_sum (count_at totals) B C m k) beside answer
      → total_in answer ≡ Some (added_by (chain g) m earlier + added_after (chain g) B C m k)
