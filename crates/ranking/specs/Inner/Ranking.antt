-- What finding a sentence's derivations asks once the tables are there, and what it gives back.
-- Assumes nothing: these are definitions.
use Rattle.std.specs.Prelude.{◌≡◌, Bool, List, ℕ, ◌+◌, ◌≤◌, ◌<◌, length, get_or}
use Rattle.lists.specs.Inner.Tables.{entry, Wide}
use Rattle.grammar.specs.Inner.Links.{Unlinked, Linked}
use Rattle.counting.specs.Refusals.{most}
use Rattle.counting.specs.Inner.Counted.{Counted}
use Rattle.counting.specs.Inner.Letters.{any, weighed, Summed}
use Rattle.charts.specs.Inner.Letters.{letter_at}
use Rattle.charts.specs.Inner.Maps.{Closed, Mapped}
use Rattle.charts.specs.Inner.Plan.{chart_row, room}
use Rattle.charts.specs.Inner.Chart.{Blank, Clean, Filled}
use Rattle.charts.specs.Inner.Ready.{Ready}
use Rattle.ranking.specs.Inner.Inside.{readings_in, weighs, place_in}

-- what all sentences of the length share, and the sets beside the rows of their charts, which begin at `first`
pub record FindSought (rules plan map : List (List ℕ)) (first : ℕ) (s sets : List ℕ) (totals : List (List ℕ)) : Type 0 where
  pub ready : Ready rules plan map totals first (length s)
  pub clean : Clean first (length s) sets totals

-- how many derivations the sentence s has; its letters and its chart, and the tables for the next sentence
pub record FoundAs (rules plan map : List (List ℕ)) (first : ℕ) (s : List ℕ) (before : List (List ℕ)) (sets : List ℕ) (totals : List (List ℕ)) (k : ℕ) : Type 0 where
  pub derivations : k ≡ readings_in rules s
  pub letters : (p : ℕ) → p < length s → letter_at map p ≡ get_or s p 0
  pub small : (p : ℕ) → p < length s → letter_at map p < any
  pub filled : Filled rules plan map first (length s) before totals
  pub ready : Ready rules plan map totals first (length s)
  pub clean : Clean first (length s) sets totals

-- the letters of a sentence that has derivations, a measure, and the totals of both
pub record PlaceSought (rules totals map measure : List (List ℕ)) (n : ℕ) (s : List ℕ) : Type 0 where
  pub long : length s ≡ n
  pub some : 1 ≤ readings_in rules s
  pub counted : Counted rules totals n
  pub linked : Linked rules
  pub known : ℕ → ℕ → Bool
  pub closed : Closed rules n known
  pub mapped : Mapped rules totals map n known
  pub measured : Mapped rules totals measure n known
  pub letters : (p : ℕ) → p < n → letter_at map p ≡ get_or s p 0
  pub small : (p : ℕ) → p < n → letter_at map p < any
  pub measures : (p : ℕ) → p < n → letter_at measure p ≡ weighed → Summed rules

-- the first ticket by the measure of the sentence s, and what it weighs
pub record PlacedAs (rules measure : List (List ℕ)) (s : List ℕ) (first weight : ℕ) : Type 0 where
  pub first_is : first ≡ place_in rules measure s
  pub weight_is : weight ≡ weighs rules measure s
  pub fits : first + weight ≤ most

-- rows enough for the chart of n positions
pub record RoomFor (n rows : ℕ) : Type 0 where
  pub long : n ≤ 16 → room n ≤ rows
  pub counts : 18 ≤ rows
  pub few : rows ≤ 154

-- room for it, in a table of zeros
pub record Roomy (n : ℕ) (totals : List (List ℕ)) : Type 0 where
  pub wide : Wide totals 32
  pub zeros : (r A : ℕ) → entry totals r A ≡ 0
  pub long : n ≤ 16 → room n ≤ length totals
  pub counts : 18 ≤ length totals

-- the counts, with room for the sentence's chart, and rules whose links aren't made yet
pub record NumberSought (rules : List (List ℕ)) (s : List ℕ) (totals : List (List ℕ)) : Type 0 where
  pub blank : Blank rules totals chart_row (length s)
  pub unlinked : Unlinked rules
  pub zeros : (r A : ℕ) → chart_row ≤ r → entry totals r A ≡ 0
