-- What all sentences and patterns of a length share: the links of the rules, the plan, the map of the chart, and the counts with room for
-- a chart.
-- Assumes nothing: these are definitions.
use Rattle.std.specs.Prelude.{◌≡◌, List, [], ℕ, ◌≤◌, ◌<◌, length, get_or}
use Rattle.lists.specs.Inner.Tables.{Wide}
use Rattle.grammar.specs.Inner.Links.{Unlinked, Linked}
use Rattle.charts.specs.Inner.Plan.{chart_row, Planned}
use Rattle.charts.specs.Inner.Chart.{Blank}

pub record Ready (rules plan map totals : List (List ℕ)) (first n : ℕ) : Type 0 where
  pub blank : Blank rules totals first n
  pub linked : Linked rules
  pub planned : Planned rules plan map first n
  pub long : length map ≡ 17
  pub wide : Wide map 16

-- what making it asks: the counts, rules without links, and room
pub record Readies (rules totals : List (List ℕ)) (n : ℕ) (plan map : List (List ℕ)) : Type 0 where
  pub blank : Blank rules totals chart_row n
  pub unlinked : Unlinked rules
  pub plan_long : length plan ≡ 4
  pub map_long : length map ≡ 17
  pub map_wide : Wide map 16

-- what it leaves: that, the same rules, and what stands behind their links
pub record ReadiedAs (rules after plan map totals : List (List ℕ)) (n : ℕ) : Type 0 where
  pub ready : Ready after plan map totals chart_row n
  pub kept : (r : ℕ) → r < 4 → get_or after r [] ≡ get_or rules r []
  pub rest : (r : ℕ) → 13 ≤ r → get_or after r [] ≡ get_or rules r []
  pub size : length after ≡ length rules
