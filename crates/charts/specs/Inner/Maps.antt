-- Maps: which row of the table of totals a span has, a span being the m positions from p on. A map has a row for each length, with an
-- entry for each position; its row 0 has the letters. So one table serves every weight: plain counts, where the row of a span is its
-- length, and the chart of a sentence or a pattern.
-- Assumes nothing: these are definitions.
use Rattle.std.specs.Prelude.{◌≡◌, Bool, true, List, [], ◌∷◌, ℕ, zero, suc, ◌+◌, ◌-◌, ◌≤◌, ◌<◌, length, get_or, replicate}
use Rattle.lists.specs.Joined.{◌∈◌}
use Rattle.lists.specs.Inner.Tables.{entry, Wide}
use Rattle.grammar.specs.Inner.Rules.{pairs_in, ruled}
use Rattle.counting.specs.Totals.{total, T}
use Rattle.counting.specs.Refusals.{most}
use Rattle.counting.specs.Inner.Counted.{Asked}
use Rattle.counting.specs.Inner.Letters.{any, weighed}
use Rattle.charts.specs.Inner.Letters.{letter_at, weight_by, letter_of, stands}

-- the row of a span
abbrev pub row_at : List (List ℕ) → (p m : ℕ) → ℕ
row_at map p m = entry map m p

-- what the table has of the nonterminal A over a span, by a map
abbrev pub total_at : (totals map : List (List ℕ)) → (p A m : ℕ) → ℕ
total_at totals map p A m = entry totals (row_at map p m) A

-- the span lies within n positions
pub record Span (n p m : ℕ) : Type 0 where
  pub some : 1 ≤ m
  pub inside : p + m ≤ n

-- The spans of n positions that are known, the whole among them. With a span its halves are, wherever a pair rule has derivations of
-- their lengths.
pub record Closed (rules : List (List ℕ)) (n : ℕ) (known : ℕ → ℕ → Bool) : Type 0 where
  pub whole : known 0 n ≡ true
  pub halves : (A B C p m k : ℕ) → Asked rules n A m → (B, C) ∈ pairs_in rules A → Span n p m → 1 ≤ k → k < m → known p m ≡ true
      → 1 ≤ T (ruled rules) B k → 1 ≤ T (ruled rules) C (m - k) → (known p k ≡ true) × (known (p + k) (m - k) ≡ true)

-- The table has the totals of a map's weight: exactly for the known spans, and nowhere more than them. They fit.
pub record Mapped (rules totals map : List (List ℕ)) (n : ℕ) (known : ℕ → ℕ → Bool) : Type 0 where
  pub low : (p m : ℕ) → Span n p m → row_at map p m < length totals
  pub right : (p A m : ℕ) → Asked rules n A m → Span n p m → known p m ≡ true → total_at totals map p A m ≡ total (ruled rules) (weight_by rules map) p A m
  pub below : (p A m : ℕ) → Asked rules n A m → Span n p m → total_at totals map p A m ≤ total (ruled rules) (weight_by rules map) p A m
  pub fits : (p A m : ℕ) → Asked rules n A m → Span n p m → total (ruled rules) (weight_by rules map) p A m ≤ most

-- a map of totals by length alone: the row of a span is its length behind the row `base`, and every position has the letter x
pub record ByLength (x base : ℕ) (map : List (List ℕ)) : Type 0 where
  pub row : (p m : ℕ) → p < 16 → 1 ≤ m → m ≤ 16 → row_at map p m ≡ base + m
  pub letter : (p : ℕ) → p < 16 → letter_at map p ≡ x

-- that of plain counts: the row of a span is its length, and any word counts for 1
abbrev pub Everywhere : List (List ℕ) → Type 0
Everywhere map = ByLength any 0 map

-- such maps, of 16 positions: the letters, then row after row
abbrev pub sixteen : ℕ → List ℕ
sixteen x = replicate 16 x

abbrev pub rows_from : (k n : ℕ) → List (List ℕ)
rows_from k zero = []
rows_from k (suc n) = sixteen k ∷ rows_from (suc k) n

abbrev pub map_by : (x base : ℕ) → List (List ℕ)
map_by x base = sixteen x ∷ rows_from (suc base) 16

abbrev pub counts_map : List (List ℕ)
counts_map = map_by any 0

-- that of the totals by the words' weights, which have rows of their own
abbrev pub weights_row : ℕ
weights_row = 18

abbrev pub weights_map : List (List ℕ)
weights_map = map_by weighed weights_row

-- the map with the letters of bytes, one of which may be a blank; the rows of spans are as they were
pub record LetteredAs (blank : ℕ) (words : List ℕ) (before after : List (List ℕ)) : Type 0 where
  pub long : length after ≡ 17
  pub wide : Wide after 16
  pub letters : (p : ℕ) → p < length words → letter_at after p ≡ letter_of blank (get_or words p 0)
  pub bytes : (p : ℕ) → p < length words → get_or words p 0 < 256
  pub kept : (r : ℕ) → 1 ≤ r → get_or after r [] ≡ get_or before r []

-- a sentence that may be held against a map's letters: where the map is that of the counts, it stands
pub record Fitted (map : List (List ℕ)) (sentence : List ℕ) : Type 0 where
  pub short : length sentence ≤ 16
  pub plain : row_at map 0 1 < 17 → stands map 0 sentence ≡ true
