-- Links: the rules with a word, and the pair rules with the same two nonterminals, from the last to the one before, and so on. A link is
-- one more than a rule's place in the table, 0 the end.
-- Assumes nothing: these are definitions.
use Rattle.std.specs.Prelude.{◌≡◌, cond, ◌&&◌, List, [], ℕ, zero, suc, ◌+◌, ◌*◌, ◌/◌, ◌%◌, ◌≤◌, ◌<◌, length, get_or, eqb}
use Rattle.lists.specs.Inner.Tables.{entry}
use Rattle.grammar.specs.Inner.Rules.{word_at, left_at, right_at, word_from, pair_from, count_in, Ruled}

-- one more than the last place below n with the key x; 0 for none
abbrev pub last : (key : ℕ → ℕ) (x n : ℕ) → ℕ
last key x zero = 0
last key x (suc n) = cond (eqb (key n) x) (suc n) (last key x n)

-- the sum of the f i over the places i below n with the key x whose link l = i + 1 has the owner A
abbrev pub pick_sum : (key owner f : ℕ → ℕ) (x A n : ℕ) → ℕ
pick_sum key owner f x A zero = 0
pick_sum key owner f x A (suc n) = cond (eqb (key n) x && eqb (owner (suc n)) A) (f n) 0 + pick_sum key owner f x A n

-- two nonterminals as one number, and those of the pair rule at i
abbrev pub both : (b c : ℕ) → ℕ
both b c = 32 * b + c

abbrev pub both_at : List (List ℕ) → ℕ → ℕ
both_at rules i = both (left_at rules i) (right_at rules i)

-- the rows of links
abbrev pub with_word : List (List ℕ) → ℕ → ℕ
with_word rules x = entry rules 4 x

abbrev pub next_word : List (List ℕ) → ℕ → ℕ
next_word rules l = entry rules 5 l

abbrev pub word_owner : List (List ℕ) → ℕ → ℕ
word_owner rules l = entry rules 6 l

abbrev pub next_pair : List (List ℕ) → ℕ → ℕ
next_pair rules l = entry rules 7 l

abbrev pub pair_owner : List (List ℕ) → ℕ → ℕ
pair_owner rules l = entry rules 8 l

-- 256 pairs to a row
abbrev pub with_pair : List (List ℕ) → ℕ → ℕ
with_pair rules x = entry rules (9 + x / 256) (x % 256)

-- The rules at the places below n by their keys, where those of the nonterminal a begin at `from a`: the last with each key below `keys`, the
-- one before it with the same key, and whose it is.
pub record Keyed (key from : ℕ → ℕ) (count n keys : ℕ) (head next owner : ℕ → ℕ) : Type 0 where
  pub heads : (x : ℕ) → x < keys → head x ≡ last key x n
  pub nexts : (i : ℕ) → i < n → next (i + 1) ≡ last key (key i) i
  pub owners : (a i : ℕ) → a < count → from a ≤ i → i < from (a + 1) → i < n → owner (i + 1) ≡ a

-- the links of a table of rules are there
pub record Linked (rules : List (List ℕ)) : Type 0 where
  pub long : 13 ≤ length rules
  pub by_word : Keyed (word_at rules) (word_from rules) (count_in rules) (word_from rules (count_in rules)) 256 (with_word rules) (next_word rules) (word_owner rules)
  pub by_pair : Keyed (both_at rules) (pair_from rules) (count_in rules) (pair_from rules (count_in rules)) 1024 (with_pair rules) (next_pair rules) (pair_owner rules)

-- what linking asks: a table that holds rules, with room for the links, and no heads yet
pub record Unlinked (rules : List (List ℕ)) : Type 0 where
  pub table : Ruled rules
  pub long : 13 ≤ length rules
  pub no_words : (x : ℕ) → x < 256 → with_word rules x ≡ 0
  pub no_pairs : (x : ℕ) → x < 1024 → with_pair rules x ≡ 0

-- and what it leaves: the links, with all that was there besides
pub record LinkedAs (before after : List (List ℕ)) : Type 0 where
  pub long : length after ≡ length before
  pub table : Ruled after
  pub linked : Linked after
  pub rules_kept : (r : ℕ) → r < 4 → get_or after r [] ≡ get_or before r []
  pub rest_kept : (r : ℕ) → 13 ≤ r → get_or after r [] ≡ get_or before r []
