-- The plan of a grammar and a length n: what the charts of all sentences and patterns of that length share, as sets of numbers below 32.
-- Which nonterminals have a derivation of each length; at which left lengths a span of each length can be cut; from which positions on
-- spans of each length are needed for the whole; which right nonterminals each left one has. And the row of each span.
-- Assumes nothing: these are definitions.
use Rattle.std.specs.Prelude.{◌≡◌, Bool, true, false, List, ℕ, zero, suc, ◌+◌, ◌-◌, ◌≤◌, ◌<◌}
use Rattle.lists.specs.Joined.{◌∈◌}
use Rattle.lists.specs.Inner.Tables.{entry}
use Rattle.sets.specs.Inner.Sets.{member}
use Rattle.grammar.specs.Inner.Rules.{count_in, pairs_in, ruled}
use Rattle.counting.specs.Totals.{T}
use Rattle.counting.specs.Inner.Counted.{Asked}
use Rattle.charts.specs.Inner.Maps.{row_at, Span}

-- the rows of a plan
abbrev pub cuts : List (List ℕ) → ℕ → ℕ
cuts plan m = entry plan 0 m

-- the length that the plan is for
abbrev pub length_in : List (List ℕ) → ℕ
length_in plan = entry plan 0 0

abbrev pub spots : List (List ℕ) → ℕ → ℕ
spots plan m = entry plan 1 m

abbrev pub wanted : List (List ℕ) → ℕ → ℕ
wanted plan m = entry plan 2 m

abbrev pub partners : List (List ℕ) → ℕ → ℕ
partners plan b = entry plan 3 b

-- the span of m positions from p on is needed
abbrev pub needed : List (List ℕ) → (p m : ℕ) → Bool
needed plan p m = member (spots plan m) p

-- the row of a table of totals that is all 0, for spans that aren't needed, and the first row of a chart
abbrev pub none_row : ℕ
none_row = 17

abbrev pub chart_row : ℕ
chart_row = 18

-- how many spans n positions have, and where their rows end, which begin at `first`; with a chart right behind the row of zeros
abbrev pub spans_of : ℕ → ℕ
spans_of zero = 0
spans_of (suc n) = suc n + spans_of n

abbrev pub end_of : (first n : ℕ) → ℕ
end_of first n = first + spans_of n

abbrev pub room : ℕ → ℕ
room n = end_of chart_row n

-- the sets of a plan
pub record Cut (rules plan : List (List ℕ)) (n : ℕ) : Type 0 where
  -- nonterminals with a derivation of the length m, and none that isn't asked for
  pub wants : (A m : ℕ) → Asked rules n A m → 1 ≤ T (ruled rules) A m → member (wanted plan m) A ≡ true
  pub asks : (A m : ℕ) → A < 32 → 1 ≤ m → m ≤ n → member (wanted plan m) A ≡ true → Asked rules n A m
  -- the right nonterminals of B
  pub pairs : (A B C : ℕ) → A < count_in rules → (B, C) ∈ pairs_in rules A → member (partners plan B) C ≡ true
  -- left lengths at which some pair rule has derivations of both halves' lengths, and none outside the span
  pub cut : (A B C m k : ℕ) → Asked rules n A m → (B, C) ∈ pairs_in rules A → 1 ≤ k → k < m → 1 ≤ T (ruled rules) B k
      → 1 ≤ T (ruled rules) C (m - k) → member (cuts plan m) k ≡ true
  pub within : (m k : ℕ) → k < 32 → 1 ≤ m → m ≤ n → member (cuts plan m) k ≡ true → (1 ≤ k) × (k < m)
  -- the whole is needed, and with a span its halves
  pub whole : needed plan 0 n ≡ true
  pub halves : (p m k : ℕ) → p < 32 → k < 32 → 1 ≤ m → m ≤ n → needed plan p m ≡ true → member (cuts plan m) k ≡ true → (needed plan p k ≡ true) × (needed plan (p + k) (m - k) ≡ true)
  pub inside : (p m : ℕ) → p < 32 → 1 ≤ m → m ≤ n → needed plan p m ≡ true → p + m ≤ n

-- the rows of spans: a needed span has one of its own from the row `first` on, any other the row of zeros
pub record Rowed (plan map : List (List ℕ)) (first n : ℕ) : Type 0 where
  pub none : (p m : ℕ) → Span n p m → needed plan p m ≡ false → row_at map p m ≡ none_row
  pub some : (p m : ℕ) → Span n p m → needed plan p m ≡ true → (first ≤ row_at map p m) × (row_at map p m < end_of first n)
  pub own : (p m q k : ℕ) → Span n p m → Span n q k → needed plan p m ≡ true → needed plan q k ≡ true → row_at map p m ≡ row_at map q k → (p ≡ q) × (m ≡ k)

pub record Planned (rules plan map : List (List ℕ)) (first n : ℕ) : Type 0 where
  pub behind : chart_row ≤ first
  pub length : length_in plan ≡ n
  pub cut : Cut rules plan n
  pub rows : Rowed plan map first n
