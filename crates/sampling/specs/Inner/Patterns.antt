-- What a pattern's chart asks and gives back, and what a call with a pattern is lent.
-- Assumes nothing: these are definitions.
use Rattle.std.specs.Prelude.{◌≡◌, cond, List, [], ℕ, ◌≤◌, ◌<◌, leb, length, get_or}
use Rattle.lists.specs.Inner.Tables.{entry}
use Rattle.charts.specs.Inner.Letters.{letter_at, letter_of}
use Rattle.charts.specs.Inner.Plan.{chart_row, end_of}
use Rattle.charts.specs.Inner.Chart.{Filled}
use Rattle.charts.specs.Inner.Ready.{Ready, Readies}
use Rattle.ranking.specs.Inner.Inside.{weighs, Chooses}
use Rattle.sampling.specs.Question.{Question}

-- the first row behind a pattern's chart, where those of heard sentences begin
abbrev pub behind_of : ℕ → ℕ
behind_of n = cond (leb n 5) 33 154

-- what a call with a pattern lends: rules with room for their links, totals with room for the pattern's chart and a sentence's, both cleared
pub record Patterned (a : Question) (rules totals : List (List ℕ)) : Type 0 where
  pub long : length a.pattern ≡ a.length
  pub links : 13 ≤ length rules
  pub unlinked : (r i : ℕ) → 4 ≤ r → entry rules r i ≡ 0
  pub zeros : (r A : ℕ) → 17 ≤ r → entry totals r A ≡ 0
  pub room : a.length ≤ 16 → end_of (behind_of a.length) a.length ≤ length totals

-- a number of rows enough for both charts
pub record RowsFor (a : Question) (rows : ℕ) : Type 0 where
  pub long : length a.pattern ≡ a.length
  pub counts : 17 ≤ rows
  pub room : a.length ≤ 16 → end_of (behind_of a.length) a.length ≤ rows
  pub few : rows ≤ 290

-- the tables that a pattern's chart is made of
pub record ChartSought (rules : List (List ℕ)) (pattern : List ℕ) (plan choice totals : List (List ℕ)) : Type 0 where
  pub readies : Readies rules totals (length pattern) plan choice
  pub zeros : (r A : ℕ) → chart_row ≤ r → entry totals r A ≡ 0

-- the chart and its map; the rules and the other rows of the table are as they were
pub record PatternChartedAs (rules₀ : List (List ℕ)) (pattern : List ℕ) (totals₀ rules plan choice totals : List (List ℕ)) : Type 0 where
  pub kept : (r : ℕ) → r < 4 → get_or rules r [] ≡ get_or rules₀ r []
  pub filled : Filled rules plan choice chart_row (length pattern) totals₀ totals
  pub ready : Ready rules plan choice totals chart_row (length pattern)
  pub letters : (p : ℕ) → p < length pattern → letter_at choice p ≡ letter_of 255 (get_or pattern p 0)
  pub bytes : (p : ℕ) → p < length pattern → get_or pattern p 0 < 256

-- the totals of a choice by which each sentence weighs u, of the rules that were there
pub record Choice (rules₀ : List (List ℕ)) (a : Question) (u : List ℕ → ℕ) (rules totals choice : List (List ℕ)) : Type 0 where
  pub kept : (r : ℕ) → r < 4 → get_or rules r [] ≡ get_or rules₀ r []
  pub chooses : Chooses rules totals choice a.length
  pub weigh : (s : List ℕ) → length s ≡ a.length → weighs rules choice s ≡ u s
