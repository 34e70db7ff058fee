-- The table of totals, by its rows: in the row LONGEST the longest length at which a nonterminal has a derivation, in the row m from 1 to
-- 16 the counts T of the length m; a row has a number for each nonterminal. Rows above are other crates'. What is said of the counts is said of totals
-- by any weight of the words.
-- Assumes nothing: these are definitions.
use Rattle.std.specs.Prelude.{◌≡◌, List, ℕ, ◌≤◌, ◌<◌, length}
use Rattle.lists.specs.Inner.Tables.{entry, Wide}
use Rattle.grammar.specs.Inner.Rules.{start_in, count_in, ruled, Ruled}
use Rattle.counting.specs.Totals.{total_by}
use Rattle.counting.specs.Needed.{Needed}
use Rattle.counting.specs.Refusals.{most}

-- a's count at the length m, and its longest length
abbrev pub count_at : List (List ℕ) → (a m : ℕ) → ℕ
count_at totals a m = entry totals m a

abbrev pub longest_at : List (List ℕ) → ℕ → ℕ
longest_at totals a = entry totals 0 a

-- A call with the length n asks for the total of the nonterminal A and the length m: the pair is needed, and so lies within the grammar and the
-- length (`asked_of` in proofs/). Whatever the tables hold is promised for these alone, and only their totals must fit in 64 bits.
pub record Asked (rules : List (List ℕ)) (n A m : ℕ) : Type 0 where
  pub needed : Needed (ruled rules) (start_in rules) n A m
  pub inside : A < count_in rules
  pub some : 1 ≤ m
  pub short : m ≤ n

-- the totals by u up to the length n are there, and fit; what isn't asked for has 0
pub record Tallied (rules : List (List ℕ)) (u : ℕ → ℕ) (totals : List (List ℕ)) (n : ℕ) : Type 0 where
  pub table : Ruled rules
  pub some : 1 ≤ n
  pub short : n ≤ 16
  pub long : 17 ≤ length totals
  pub wide : Wide totals 32
  pub right : (A m : ℕ) → Asked rules n A m → count_at totals A m ≡ total_by (ruled rules) u A m
  pub fits : (A m : ℕ) → Asked rules n A m → total_by (ruled rules) u A m ≤ most
  pub longest : (A m : ℕ) → Asked rules n A m → longest_at totals A < m → total_by (ruled rules) u A m ≡ 0
  pub only : (A m : ℕ) → A < 32 → 1 ≤ m → m ≤ n → 1 ≤ count_at totals A m → Asked rules n A m

-- the counts are
abbrev pub Counted : (rules totals : List (List ℕ)) (n : ℕ) → Type 0
Counted rules totals n = Tallied rules (λ w. 1) totals n
