-- The sentences of the full list, entry by entry, and what they weigh.
-- Assumes nothing: these are definitions.
use Rattle.std.specs.Prelude.{List, [], ◌∷◌, ◌++◌, map, ℕ, zero, suc, ◌*◌}
use Rattle.lists.specs.Joined.{combine}
use Rattle.grammar.specs.Chains.{Rule}
use Rattle.grammar.specs.Trees.{sentence}
use Rattle.grammar.specs.FullList.{trees}

-- the sentence of each derivation of A with length m, in order
unfoldable pub sentences : (chain : ℕ → List Rule) → ℕ → ℕ → List (List ℕ)
sentences chain A m = map sentence (trees chain A m)

-- the product of the words' weights, the first word at the position p
abbrev pub weight : (v : ℕ → ℕ → ℕ) (p : ℕ) → List ℕ → ℕ
weight v p [] = 1
weight v p (w ∷ u) = v p w * weight v (suc p) u

-- the sentences of a pair rule, for the left lengths k, k + 1, .. and the right lengths j, j - 1, .. 1; `list` gives those of the halves
abbrev pub split_list : (list : ℕ → ℕ → List (List ℕ)) → (B C k j : ℕ) → List (List ℕ)
split_list list B C k zero = []
split_list list B C k (suc j) = combine ◌++◌ (list B k) (list C (suc j)) ++ split_list list B C (suc k) j
