-- What linking the rules, one nonterminal after another, asks and keeps, by name. Nothing of this is needed to read what the links hold.
-- Assumes nothing: these are definitions.
use Rattle.std.specs.Prelude.{◌≡◌, Bool, true, false, List, [], ℕ, ◌+◌, ◌/◌, ◌%◌, ◌≤◌, ◌<◌, length, get_or}
use Rattle.grammar.specs.Inner.Rules.{word_at, word_from, pair_from, count_in, Ruled}
use Rattle.grammar.specs.Inner.Links.{both_at, with_word, next_word, word_owner, next_pair, pair_owner, with_pair, Keyed}

-- the word rules at the places below i are linked, and the pair rules at those below j
pub record LinkedTo (rules : List (List ℕ)) (i j : ℕ) : Type 0 where
  pub table : Ruled rules
  pub long : 13 ≤ length rules
  pub by_word : Keyed (word_at rules) (word_from rules) (count_in rules) i 256 (with_word rules) (next_word rules) (word_owner rules)
  pub by_pair : Keyed (both_at rules) (pair_from rules) (count_in rules) j 1024 (with_pair rules) (next_pair rules) (pair_owner rules)

-- the rules and the weights are as they were
pub record Beside (old new : List (List ℕ)) : Type 0 where
  pub long : length new ≡ length old
  pub low : (q : ℕ) → q < 4 → get_or new q [] ≡ get_or old q []
  pub high : (q : ℕ) → 13 ≤ q → get_or new q [] ≡ get_or old q []

-- before the word rules of a are linked, and its pair rules
pub record LinksWords (rules : List (List ℕ)) (a : ℕ) : Type 0 where
  pub inside : a < count_in rules
  pub linked : LinkedTo rules (word_from rules a) (pair_from rules a)

pub record LinksPairs (rules : List (List ℕ)) (a : ℕ) : Type 0 where
  pub inside : a < count_in rules
  pub linked : LinkedTo rules (word_from rules (a + 1)) (pair_from rules a)

-- after it: the rules below the places i and j are linked
pub record LinkedMoreAs (old new : List (List ℕ)) (i j : ℕ) : Type 0 where
  pub linked : LinkedTo new i j
  pub beside : Beside old new

-- ---- by kind

-- how many numbers the rules of a kind have
abbrev pub numbers : (pairs : Bool) → ℕ
numbers false = 256
numbers true = 1024

-- the row and the place of the link to the last rule that is the number x
abbrev pub head_row : (pairs : Bool) (x : ℕ) → ℕ
head_row false x = 4
head_row true x = 9 + x / 256

abbrev pub head_place : (pairs : Bool) (x : ℕ) → ℕ
head_place false x = x
head_place true x = x % 256

-- the rows of links and of their owners
abbrev pub next_row : (pairs : Bool) → ℕ
next_row false = 5
next_row true = 7

abbrev pub owner_row : (pairs : Bool) → ℕ
owner_row false = 6
owner_row true = 8

-- before the rules of a of one kind are linked, and after it
abbrev pub Links : (pairs : Bool) (rules : List (List ℕ)) (a : ℕ) → Type 0
Links false rules a = LinksWords rules a
Links true rules a = LinksPairs rules a

abbrev pub LinkedOf : (pairs : Bool) (old new : List (List ℕ)) (a : ℕ) → Type 0
LinkedOf false old new a = LinkedMoreAs old new (word_from old (a + 1)) (pair_from old a)
LinkedOf true old new a = LinkedMoreAs old new (word_from old (a + 1)) (pair_from old (a + 1))
