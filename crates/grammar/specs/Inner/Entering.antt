-- What the walk of the chains that fills the table of rules asks and keeps, by name. Nothing of this is needed to read what the table
-- holds.
-- Assumes nothing: these are definitions.
use Rattle.std.specs.Prelude.{◌≡◌, Bool, true, false, List, [], ◌∷◌, map, ℕ, ◌+◌, ◌≤◌, ◌<◌, length, get_or}
use Rattle.lists.specs.Joined.{concat_map, up_from}
use Rattle.lists.specs.Searched.{times}
use Rattle.lists.specs.Inner.Tables.{entry}
use Rattle.lists.specs.Inner.Tables as tables
use Rattle.grammar.specs.Layout.{nonterminals, words, start}
use Rattle.grammar.specs.Chains.{Rule, rule_of, chain_numbers, met, chain, words_of, pairs_of}
use Rattle.grammar.specs.Refusals.{met_twice}
use Rattle.grammar.specs.Inner.Checks.{Readable}
use Rattle.grammar.specs.Inner.Rules.{word_from, pair_from, count_in, start_in, width_in, words_in, pairs_in, Roomy}

-- the numbers met on the chains of the nonterminals below n, and the rules with these numbers
abbrev pub met_below : List ℕ → ℕ → List ℕ
met_below g n = concat_map (chain_numbers g) (up_from 0 n)

abbrev pub before : List ℕ → ℕ → List Rule
before g n = map (rule_of g) (met_below g n)

-- no number is met twice, and the marks say which are met
pub record Marked (seen done : List ℕ) : Type 0 where
  pub long : length seen ≡ 256
  pub exact : (q : ℕ) → get_or seen q 0 ≡ times q done
  pub once : (q : ℕ) → times q done ≤ 1

-- from `from` on the row has f 0, f 1, .., n of them
pub record Run (rules : List (List ℕ)) (row from n : ℕ) (f : ℕ → ℕ) : Type 0 where
  pub at : (i : ℕ) → i < n → entry rules row (from + i) ≡ f i

-- the grammar's own numbers, as they stand in the table
abbrev pub own : List ℕ → ℕ → ℕ
own g i = get_or (start g ∷ nonterminals g ∷ words g ∷ []) i 0

-- the table has the rules `done`, and where the nonterminals up to a begin
pub record Entered (g : List ℕ) (rules : List (List ℕ)) (done : List Rule) (a : ℕ) : Type 0 where
  pub roomy : Roomy rules
  pub words : Run rules 0 0 (length (words_of done)) (λ i. get_or (words_of done) i 0)
  pub lefts : Run rules 1 0 (length (pairs_of done)) (λ i. (get_or (pairs_of done) i (0, 0)).0)
  pub rights : Run rules 2 0 (length (pairs_of done)) (λ i. (get_or (pairs_of done) i (0, 0)).1)
  pub word_begins : Run rules 3 0 (a + 1) (λ b. length (words_of (before g b)))
  pub pair_begins : Run rules 3 64 (a + 1) (λ b. length (pairs_of (before g b)))
  pub numbers : Run rules 3 128 3 (own g)

-- the rows of links and weights are as they were
abbrev pub Kept : (old new : List (List ℕ)) → Type 0
Kept old new = tables.Kept 4 256 old new

-- before any chain is walked
pub record PreparedAs (g : List ℕ) (old new : List (List ℕ)) : Type 0 where
  pub entered : Entered g new [] 0
  pub kept : Kept old new

-- the chains of the nonterminals below a are walked
pub record Walked (g seen : List ℕ) (rules : List (List ℕ)) (a : ℕ) : Type 0 where
  pub marked : Marked seen (met_below g a)
  pub entered : Entered g rules (before g a) a

-- what walking the chain of a needs
pub record Entering (g seen : List ℕ) (rules : List (List ℕ)) (a : ℕ) : Type 0 where
  pub readable : Readable g
  pub inside : a < nonterminals g
  pub walked : Walked g seen rules a

-- what it answers: whether a rule is met a second time; if none is, the chain of a is walked too
pub record EnteredAs (g seen : List ℕ) (old new : List (List ℕ)) (a : ℕ) (again : Bool) : Type 0 where
  pub kept : Kept old new
  pub twice : again ≡ true → met_twice g ≡ true
  pub walked : again ≡ false → Walked g seen new (a + 1)

-- the table has the rules on all chains
pub record Sorted (g : List ℕ) (rules : List (List ℕ)) : Type 0 where
  pub roomy : Roomy rules
  pub count_is : count_in rules ≡ nonterminals g
  pub start_is : start_in rules ≡ start g
  pub width_is : width_in rules ≡ words g
  pub word_first : word_from rules 0 ≡ 0
  pub pair_first : pair_from rules 0 ≡ 0
  pub word_low : (a : ℕ) → a ≤ nonterminals g → word_from rules a ≤ 255
  pub pair_low : (a : ℕ) → a ≤ nonterminals g → pair_from rules a ≤ 255
  pub word_rises : (a : ℕ) → a < nonterminals g → word_from rules a ≤ word_from rules (a + 1)
  pub pair_rises : (a : ℕ) → a < nonterminals g → pair_from rules a ≤ pair_from rules (a + 1)
  pub words_are : (a : ℕ) → a < nonterminals g → words_in rules a ≡ words_of (chain g a)
  pub pairs_are : (a : ℕ) → a < nonterminals g → pairs_in rules a ≡ pairs_of (chain g a)

-- what walking all chains answers: whether a rule is met a second time; if none is, the table has as many rules as are met
pub record BuiltAs (g : List ℕ) (old new : List (List ℕ)) (again : Bool) : Type 0 where
  pub kept : Kept old new
  pub says : again ≡ met_twice g
  pub sorted : again ≡ false → Sorted g new
  pub many : again ≡ false → word_from new (nonterminals g) + pair_from new (nonterminals g) ≡ length (met g)
