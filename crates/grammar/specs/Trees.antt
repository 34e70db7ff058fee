-- Derivations and their order (document 01, section 'Derivations and their order'), over the chain of each nonterminal.
-- Nothing here counts, lists or bounds them.
-- Assumes nothing: these are definitions.
use Rattle.std.specs.Prelude.{◌≡◌, List, [], ◌∷◌, ◌++◌, ℕ, ◌+◌, ◌<◌}
use Rattle.lists.specs.Joined.{At}
use Rattle.grammar.specs.Chains.{Rule, word, pair}

-- A derivation, as a tree: at each node the place of its rule on the chain of the node's nonterminal, counted from 0.
pub data Tree : Type 0 where
  leaf : (i w : ℕ) → Tree
  node : (i : ℕ) (left right : Tree) → Tree

-- how many words it derives: its length
abbrev pub size : Tree → ℕ
size (leaf i w) = 1
size (node i l r) = size l + size r

-- "Its sentence is the left sentence followed by the right."
abbrev pub sentence : Tree → List ℕ
sentence (leaf i w) = w ∷ []
sentence (node i l r) = sentence l ++ sentence r

-- the place of the rule that it begins with
abbrev pub place : Tree → ℕ
place (leaf i w) = i
place (node i l r) = i

-- `Derives chain A m t`: t is a derivation of A with length m.
-- "A derivation of A with length 1 is a word rule of A. One with length m of 2 or more is a pair rule (B, C) of A, a left length k
-- from 1 to m - 1, a derivation of B with length k and one of C with length m - k."
pub data Derives (chain : ℕ → List Rule) : ℕ → ℕ → Tree → Type 0 where
  by_word : {A m i w : ℕ} → At (chain A) i (word w) → m ≡ 1 → Derives chain A m (leaf i w)
  by_pair : {A B C m k j i : ℕ} {l r : Tree} → At (chain A) i (pair B C) → k + j ≡ m
      → Derives chain B k l → Derives chain C j r → Derives chain A m (node i l r)

-- `Before t u`: t stands before u, for derivations of one nonterminal and length.
-- "earlier rule in the chain first; then smaller k; then the earlier left derivation; then the earlier right one."
pub data Before : Tree → Tree → Type 0 where
  by_rule : {t u : Tree} → place t < place u → Before t u
  by_length : {i j : ℕ} {l r l' r' : Tree} → i ≡ j → size l < size l' → Before (node i l r) (node j l' r')
  by_left : {i j : ℕ} {l r l' r' : Tree} → i ≡ j → size l ≡ size l' → Before l l' → Before (node i l r) (node j l' r')
  by_right : {i j : ℕ} {l r l' r' : Tree} → i ≡ j → l ≡ l' → Before r r' → Before (node i l r) (node j l' r')
