-- Which pairs of a nonterminal and a length a call needs (document 02, U2): "The pair (S, length) is needed. If (A, m) is needed, so are (B, k)
-- and (C, m - k) for each pair rule of A and each k." Nothing here counts: a pair is needed even where its partner has no derivation.
-- Assumes nothing: these are definitions.
use Rattle.std.specs.Prelude.{List, [], ◌∷◌, ◌++◌, ℕ, zero, suc, ◌-◌, ◌≤◌, ◌<◌}
use Rattle.lists.specs.Joined.{◌∈◌, concat_map, up_from}
use Rattle.grammar.specs.Chains.{Rule, pairs_of}

-- `Needed chain S n A m`: of the start symbol S and the length n, the pair (A, m) is needed
pub data Needed (chain : ℕ → List Rule) (S n : ℕ) : ℕ → ℕ → Type 0 where
  whole : Needed chain S n S n
  left : {A B C m k : ℕ} → Needed chain S n A m → (B, C) ∈ pairs_of (chain A) → 1 ≤ k → k < m → Needed chain S n B k
  right : {A B C m k : ℕ} → Needed chain S n A m → (B, C) ∈ pairs_of (chain A) → 1 ≤ k → k < m → Needed chain S n C (m - k)

-- The needed pairs as a list, by which 10 is tested. That they are just these is a theorem (`Ten` in Refusals.antt), so this text need not be read.
module _ (chain : ℕ → List Rule) where
  -- halves are shorter than the whole, so a depth above the length lists all
  unfoldable pub needed_to : (depth A m : ℕ) → List (ℕ × ℕ)
  needed_to zero A m = []
  needed_to (suc n) A m =
      (A, m) ∷ concat_map (λ (x : ℕ × ℕ). concat_map (λ k. needed_to n x.0 k ++ needed_to n x.1 (m - k)) (up_from 1 (m - 1))) (pairs_of (chain A))

  unfoldable pub needed_pairs : (S n : ℕ) → List (ℕ × ℕ)
  needed_pairs S n = needed_to (suc n) S n
