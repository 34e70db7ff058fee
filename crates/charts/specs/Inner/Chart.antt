-- The chart of a sentence or a pattern: what filling it asks and promises.
-- Assumes nothing: these are definitions.
use Rattle.std.specs.Prelude.{◌≡◌, false, List, [], ℕ, ◌≤◌, ◌<◌, length, get_or}
use Rattle.lists.specs.Inner.Tables.{entry, Wide}
use Rattle.sets.specs.Inner.Sets.{member}
use Rattle.grammar.specs.Inner.Links.{Linked}
use Rattle.counting.specs.Inner.Counted.{Counted}
use Rattle.counting.specs.Inner.Letters.{any}
use Rattle.charts.specs.Inner.Letters.{letter_at}
use Rattle.charts.specs.Inner.Maps.{Mapped}
use Rattle.charts.specs.Inner.Plan.{none_row, end_of, needed, Planned}

-- a table of totals that a chart can be filled into, from the row `first` on: the counts up to n, the row of zeros, and room
pub record Blank (rules totals : List (List ℕ)) (first n : ℕ) : Type 0 where
  pub counted : Counted rules totals n
  pub zeros : (A : ℕ) → entry totals none_row A ≡ 0
  pub room : end_of first n ≤ length totals

-- rows of a chart beside sets outside which they are 0, as the chart before left them
pub record Clean (first n : ℕ) (sets : List ℕ) (totals : List (List ℕ)) : Type 0 where
  pub beside : end_of first n ≤ length sets
  pub zero : (r A : ℕ) → first ≤ r → r < end_of first n → A < 32 → member (get_or sets r 0) A ≡ false → entry totals r A ≡ 0

-- a row outside the chart
abbrev pub Beside : (first n r : ℕ) → Type 0
Beside first n r = first ≤ r → r < end_of first n → ⊥

-- what filling asks: words or blanks as letters, their plan, the links of the rules, and the sets beside the rows
pub record Fills (rules plan map : List (List ℕ)) (first n : ℕ) (sets : List ℕ) (totals : List (List ℕ)) : Type 0 where
  pub blank : Blank rules totals first n
  pub planned : Planned rules plan map first n
  pub linked : Linked rules
  pub letters : (p : ℕ) → p < n → letter_at map p ≤ any
  pub clean : Clean first n sets totals

-- the chart, and the other rows as they were
pub record Filled (rules plan map : List (List ℕ)) (first n : ℕ) (before after : List (List ℕ)) : Type 0 where
  pub long : length after ≡ length before
  pub wide : Wide after 32
  pub kept : (r : ℕ) → Beside first n r → get_or after r [] ≡ get_or before r []
  pub mapped : Mapped rules after map n (needed plan)

-- what filling promises: the chart, and its sets beside the rows
pub record ChartedAs (rules plan map : List (List ℕ)) (first n : ℕ) (totals : List (List ℕ)) (sets' : List ℕ) (totals' : List (List ℕ)) : Type 0 where
  pub filled : Filled rules plan map first n totals totals'
  pub clean : Clean first n sets' totals'
