-- The rules of each nonterminal in chain order, read off the bytes (document 01, section 'Bank bytes').
-- Assumes nothing: these are definitions.
use Rattle.std.specs.Prelude.{cond, List, [], ◌∷◌, map, ℕ, ◌+◌, ◌≤◌, ◌<◌, eqb}
use Rattle.lists.specs.Joined.{◌∈◌, concat_map, up_from}
use Rattle.lists.specs.Ordered.{Distinct}
use Rattle.lists.specs.Linked.{met_from, Walk}
use Rattle.grammar.specs.Layout.{nonterminals, rules, head_of, kind_of, a_of, b_of, next_of}

-- a word rule derives the word w; a pair rule derives the nonterminals B and C, one after the other
pub data Rule : Type 0 where
  word : (w : ℕ) → Rule
  pair : (B C : ℕ) → Rule

-- "The kind is 0 for a word rule, 1 for a pair rule, 2 to 255 for none" (a rule of no kind is refused below)
abbrev pub rule_of : List ℕ → ℕ → Rule
rule_of g r = cond (eqb (kind_of g r) 0) (word (a_of g r)) (pair (a_of g r) (b_of g r))

-- The numbers of the rules that a walk from the number r meets, the first n of them. "A head or next is a rule number; 0 ends the
-- chain." Rules are numbered from 1 to R, and the walk ends at a number that no rule has.
abbrev pub numbers_from : (g : List ℕ) (n r : ℕ) → List ℕ
numbers_from g n r = met_from (next_of g) (rules g) n r

-- The numbers met along the chain of A, the first R + 1 of them. A walk that meets more has met one of the R rules twice within
-- these, which is refused below; of an accepted grammar these are all: that its walks end is a theorem.
abbrev pub chain_numbers : List ℕ → ℕ → List ℕ
chain_numbers g A = numbers_from g (rules g + 1) (head_of g A)

-- the numbers met "walking the chains from nonterminal 0 up"
abbrev pub met : List ℕ → List ℕ
met g = concat_map (chain_numbers g) (up_from 0 (nonterminals g))

-- the rules that a walk from the number r yields
unfoldable pub rest : List ℕ → ℕ → List Rule
rest g r = map (rule_of g) (numbers_from g (rules g + 1) r)

-- the rules of the nonterminal A in chain order
abbrev pub chain : List ℕ → ℕ → List Rule
chain g A = rest g (head_of g A)

-- the words of the word rules and the nonterminals of the pair rules, in chain order
abbrev pub words_of : List Rule → List ℕ
words_of [] = []
words_of (word w ∷ rs) = w ∷ words_of rs
words_of (pair B C ∷ rs) = words_of rs

abbrev pub pairs_of : List Rule → List (ℕ × ℕ)
pairs_of [] = []
pairs_of (word w ∷ rs) = pairs_of rs
pairs_of (pair B C ∷ rs) = (B, C) ∷ pairs_of rs

-- What holds of the chains of an accepted grammar: every walk along one ends (`Walk` sets no bound on its length), and each rule is met, once.
-- "Every rule stands on just one chain."
pub record Chained (g : List ℕ) : Type 0 where
  pub over : (A : ℕ) → A < nonterminals g → Walk (next_of g) (rules g) (head_of g A) (chain_numbers g A)
  pub once : Distinct (met g)
  pub all : (r : ℕ) → 1 ≤ r → r ≤ rules g → r ∈ met g
