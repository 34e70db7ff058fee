-- Weights of words, and the tickets that derivations own by them (document 02, U7): "A run of W bytes gives each word a weight from 1 to 255. A
-- derivation weighs the product of its words' weights. Derivations take that many consecutive tickets each, in the old order, heard ones none."
-- Assumes nothing: these are definitions.
use Rattle.std.specs.Prelude.{◌≡◌, ◌↔◌, Bool, true, not, ◌||◌, List, [], ◌∷◌, ℕ, ◌*◌, ◌<◌, eqb, length, get_or, replicate}
use Rattle.lists.specs.Joined.{sum_over, concat_map}
use Rattle.lists.specs.Searched.{some_of}
use Rattle.grammar.specs.Layout.{start}
use Rattle.grammar.specs.Chains.{chain}
use Rattle.grammar.specs.Trees.{sentence}
use Rattle.grammar.specs.FullList.{trees}
use Rattle.counting.specs.Totals.{total_by}
use Rattle.counting.specs.Needed.{Needed}
use Rattle.counting.specs.Refusals.{most, overflows}
use Rattle.sampling.specs.Question.{plainly}
use Rattle.sampling.specs.Unheard.{Entry, unheard}

-- the weight of the word w: the byte at w
abbrev pub weight_of : (weights : List ℕ) (w : ℕ) → ℕ
weight_of weights w = get_or weights w 0

-- "the product of its words' weights"
abbrev pub weighs : (weights sentence : List ℕ) → ℕ
weighs weights [] = 1
weighs weights (w ∷ s) = weight_of weights w * weighs weights s

-- "24, the weights are not W bytes or one is 0"
unfoldable pub bad_weights : (W : ℕ) (weights : List ℕ) → Bool
bad_weights W weights = not (eqb (length weights) W) || some_of (λ x. eqb x 0) weights

-- "25, a needed pair's total weight is above 2^64 - 1": needed as for 10, so heard derivations count, and pairs whose partner has no derivation
unfoldable pub too_heavy : (g : List ℕ) (n : ℕ) (weights : List ℕ) → Bool
too_heavy g n weights = overflows (chain g) (λ p w. weight_of weights w) (start g) n

-- what 25 comes to, and that a pair's total weight is what its derivations weigh together: the texts of both need not be read
pub record TwentyFive (g : List ℕ) (n : ℕ) (weights : List ℕ) : Type 0 where
  pub totals : (A m : ℕ) → total_by (chain g) (weight_of weights) A m ≡ sum_over (λ t. weighs weights (sentence t)) (trees (chain g) A m)
  pub applies : (too_heavy g n weights ≡ true) ↔ ((A : ℕ) × (m : ℕ) × Needed (chain g) (start g) n A m × (most < total_by (chain g) (weight_of weights) A m))

-- the tickets, in order: each unheard derivation, with its derivation number, stands as often as it weighs
unfoldable pub tickets_of : (g h : List ℕ) (n v : ℕ) (weights : List ℕ) → List Entry
tickets_of g h n v weights = concat_map (λ e. replicate (weighs weights (sentence e.tree)) e) (unheard g h (plainly n v))
