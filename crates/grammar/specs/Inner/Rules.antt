-- The table of rules: everything that is read of a grammar, in rows by name (src/rules.rt). The words, and the left and the right
-- nonterminals of the pair rules, each nonterminal's one after another in chain order; where those of each nonterminal begin, and the
-- grammar's own numbers. The next one's beginning is their end. Later rows hold links from rule to rule (Links.antt), the weights of the words,
-- and what the words before each weigh.
-- Assumes nothing: these are definitions.
use Rattle.std.specs.Prelude.{◌≡◌, List, ◌++◌, map, ℕ, ◌+◌, ◌-◌, ◌≤◌, ◌<◌, length}
use Rattle.lists.specs.Joined.{up_from}
use Rattle.lists.specs.Searched.{times}
use Rattle.lists.specs.Inner.Tables.{entry, Wide}
use Rattle.grammar.specs.Layout.{nonterminals, words, start}
use Rattle.grammar.specs.Chains.{Rule, word, pair, chain, words_of, pairs_of}

-- the rows
abbrev pub word_at : List (List ℕ) → ℕ → ℕ
word_at rules i = entry rules 0 i

abbrev pub left_at : List (List ℕ) → ℕ → ℕ
left_at rules i = entry rules 1 i

abbrev pub right_at : List (List ℕ) → ℕ → ℕ
right_at rules i = entry rules 2 i

-- where the words of a begin, and its pair rules
abbrev pub word_from : List (List ℕ) → ℕ → ℕ
word_from rules a = entry rules 3 a

abbrev pub pair_from : List (List ℕ) → ℕ → ℕ
pair_from rules a = entry rules 3 (64 + a)

-- the start symbol, how many nonterminals there are, and how many words
abbrev pub start_in : List (List ℕ) → ℕ
start_in rules = entry rules 3 128

abbrev pub count_in : List (List ℕ) → ℕ
count_in rules = entry rules 3 129

abbrev pub width_in : List (List ℕ) → ℕ
width_in rules = entry rules 3 130

-- the words of a and its pair rules
unfoldable pub words_in : List (List ℕ) → ℕ → List ℕ
words_in rules a = map (word_at rules) (up_from (word_from rules a) (word_from rules (a + 1) - word_from rules a))

unfoldable pub pairs_in : List (List ℕ) → ℕ → List (ℕ × ℕ)
pairs_in rules a = map (λ i. (left_at rules i, right_at rules i)) (up_from (pair_from rules a) (pair_from rules (a + 1) - pair_from rules a))

-- the rules of a, its words first: what totals and sentences of a grammar are asked of
unfoldable pub ruled : List (List ℕ) → ℕ → List Rule
ruled rules a = map word (words_in rules a) ++ map (λ (x : ℕ × ℕ). pair x.0 x.1) (pairs_in rules a)

-- a table with room for the rules, whatever stands in it
pub record Roomy (rules : List (List ℕ)) : Type 0 where
  pub long : 4 ≤ length rules
  pub wide : Wide rules 256

-- a table such as the reader makes of an accepted grammar
pub record Ruled (rules : List (List ℕ)) : Type 0 where
  pub long : 4 ≤ length rules
  pub wide : Wide rules 256
  pub few : count_in rules ≤ 32
  pub starts : start_in rules < count_in rules
  pub width : width_in rules ≤ 255
  pub word_low : (a : ℕ) → a ≤ count_in rules → word_from rules a ≤ 255
  pub word_rises : (a : ℕ) → a < count_in rules → word_from rules a ≤ word_from rules (a + 1)
  pub pair_low : (a : ℕ) → a ≤ count_in rules → pair_from rules a ≤ 255
  pub pair_rises : (a : ℕ) → a < count_in rules → pair_from rules a ≤ pair_from rules (a + 1)
  pub word_first : word_from rules 0 ≡ 0
  pub pair_first : pair_from rules 0 ≡ 0
  pub words_low : (i : ℕ) → i < word_from rules (count_in rules) → word_at rules i < width_in rules
  pub lefts : (i : ℕ) → i < pair_from rules (count_in rules) → left_at rules i < count_in rules
  pub rights : (i : ℕ) → i < pair_from rules (count_in rules) → right_at rules i < count_in rules
  -- no nonterminal has a word twice (8)
  pub once : (a x : ℕ) → a < count_in rules → times x (words_in rules a) ≤ 1

-- the table is that of the grammar g
pub record Holds (g : List ℕ) (rules : List (List ℕ)) : Type 0 where
  pub table : Ruled rules
  pub count_is : count_in rules ≡ nonterminals g
  pub start_is : start_in rules ≡ start g
  pub width_is : width_in rules ≡ words g
  pub words_are : (a : ℕ) → a < nonterminals g → words_in rules a ≡ words_of (chain g a)
  pub pairs_are : (a : ℕ) → a < nonterminals g → pairs_in rules a ≡ pairs_of (chain g a)
