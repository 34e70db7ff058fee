-- The full list (document 01, section 'The draws as one list'): every derivation of A with length m, each once, in order.
-- What justifies this text are the laws of proofs/Enumeration.antt and proofs/Order.antt: a tree is in the list exactly if it is a
-- derivation, and entry d has exactly d derivations before it.
-- Assumes nothing: these are definitions.
use Rattle.std.specs.Prelude.{List, [], ◌∷◌, ◌++◌, ℕ, zero, suc}
use Rattle.lists.specs.Joined.{concat_map, combine}
use Rattle.grammar.specs.Chains.{Rule, word, pair}
use Rattle.grammar.specs.Trees.{Tree, leaf, node}

-- How a derivation begins: its rule's place on the chain, and the word, or the nonterminals and lengths of the two halves.
pub data Choice : Type 0 where
  one : (i w : ℕ) → Choice
  two : (i B k C j : ℕ) → Choice

-- the halves' lengths: k and j, k + 1 and j - 1, .. down to 1 on the right
abbrev pub splits : (i B C k j : ℕ) → List Choice
splits i B C k zero = []
splits i B C k (suc j) = two i B k C (suc j) ∷ splits i B C (suc k) j

-- the choices that a rule at the place i gives for the length m
abbrev pub rule_choices : (i : ℕ) → Rule → (m : ℕ) → List Choice
rule_choices i (word w) zero = []
rule_choices i (word w) (suc zero) = one i w ∷ []
rule_choices i (word w) (suc (suc m)) = []
rule_choices i (pair B C) zero = []
rule_choices i (pair B C) (suc m) = splits i B C 1 m

-- the choices of the rules listed, the first of them at the place i: rule after rule, and under each by rising left length
abbrev pub choices_from : (i : ℕ) → List Rule → (m : ℕ) → List Choice
choices_from i [] m = []
choices_from i (r ∷ rs) m = rule_choices i r m ++ choices_from (suc i) rs m

-- the derivations that begin so, where `list` gives those of the halves: left after left, and under each right after right
abbrev pub expand : (list : ℕ → ℕ → List Tree) → Choice → List Tree
expand list (one i w) = leaf i w ∷ []
expand list (two i B k C j) = combine (node i) (list B k) (list C j)

module _ (chain : ℕ → List Rule) where
  abbrev pub choices : ℕ → ℕ → List Choice
  choices A m = choices_from 0 (chain A) m

  -- halves are shorter than the whole, so a depth above the length lists all
  unfoldable pub trees_to : (depth A m : ℕ) → List Tree
  trees_to zero A m = []
  trees_to (suc n) A m = concat_map (expand (trees_to n)) (choices A m)

  -- the full list of A and m
  unfoldable pub trees : ℕ → ℕ → List Tree
  trees A m = trees_to (suc m) A m
