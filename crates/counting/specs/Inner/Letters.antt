-- Letters: what a word counts for at a position. By a letter below 256 that word alone counts, for 1; by 256 any word, for 1; by 257 any word, for
-- its weight. And what the words before one weigh together.
-- Assumes nothing: these are definitions.
use Rattle.std.specs.Prelude.{◌≡◌, cond, ◌||◌, List, ℕ, ◌+◌, ◌*◌, ◌≤◌, ◌<◌, eqb, length, take}
use Rattle.lists.specs.Joined.{sum_over}
use Rattle.lists.specs.Searched.{bit}
use Rattle.lists.specs.Inner.Tables.{entry}
use Rattle.grammar.specs.Inner.Rules.{word_from, count_in, words_in}

abbrev pub any : ℕ
any = 256

abbrev pub weighed : ℕ
weighed = 257

-- what a letter lets the word w count for; `weights` gives the words' weights
abbrev pub letter_weight : (weights : ℕ → ℕ) (letter w : ℕ) → ℕ
letter_weight weights x w = cond (eqb x weighed) (weights w) (bit (eqb x any || eqb x w))

-- the words' weights stand in the table of rules
abbrev pub by_letter : (rules : List (List ℕ)) (letter w : ℕ) → ℕ
by_letter rules x w = letter_weight (entry rules 13) x w

-- what stands in the table at the place of a word for those before it: a low byte and a high one
abbrev pub before_at : (rules : List (List ℕ)) (i : ℕ) → ℕ
before_at rules i = entry rules 14 i + 256 * entry rules 15 i

-- it is there, at every place: the weights of the nonterminal's words before that one, summed up
pub record Summed (rules : List (List ℕ)) : Type 0 where
  pub long : 16 ≤ length rules
  pub before : (a i : ℕ) → a < count_in rules → i < length (words_in rules a)
      → before_at rules (word_from rules a + i) ≡ sum_over (entry rules 13) (take i (words_in rules a))
