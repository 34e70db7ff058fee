-- What a draw by weights has at hand once the refusals up to 15 are passed.
-- Assumes nothing: these are definitions.
use Rattle.answers.specs.declared.refusal.Refusal.{Refusal}
use Rattle.std.specs.Prelude.{◌≡◌, List, ℕ, ◌≤◌, length, take, Result, Ok}
use Rattle.charts.specs.Inner.Maps.{weights_map}
use Rattle.charts.specs.Inner.Plan.{end_of}
use Rattle.history.specs.Layout.{records_of}
use Rattle.history.specs.Refusals.{Accepted}
use Rattle.sampling.specs.Question.{plainly}
use Rattle.sampling.specs.Inner.Skipping.{heard_spans, Told}
use Rattle.sampling.specs.Inner.Collect.{spans_by}
use Rattle.sampling.specs.Inner.Preparing.{Ended, HeardBy, RecordedBy, SampledBy}
use Rattle.weighing.specs.Weights.{weighs}
use Rattle.weighing.specs.Weighted.{weighed_rows}
use Rattle.weighing.specs.Inner.Tables.{Lent, Weighed}

-- where the charts of heard sentences begin
abbrev pub behind_weights : ℕ
behind_weights = 35

-- the tables, an accepted history with some records, room for their first tickets, for where these end, and for the charts of their sentences
pub record FirstsSought (g : List ℕ) (n : ℕ) (weights : List ℕ) (rules totals : List (List ℕ)) (h numbers ends : List ℕ) : Type 0 where
  pub weighed : Weighed g n weights rules totals
  pub diary : Accepted h
  pub room : records_of h ≤ length numbers
  pub ends_room : records_of h ≤ length ends
  pub charts : end_of behind_weights n ≤ length totals

pub record FirstsAs (rules₀ : List (List ℕ)) (h : List ℕ) (n v : ℕ) (weights : List ℕ) (rules totals : List (List ℕ)) (numbers ends : List ℕ) (s : Result ℕ Refusal) : Type 0 where
  pub heard : HeardBy rules₀ h (plainly n v) (weighs weights) rules totals weights_map numbers s
  pub ended : (k : ℕ) → s ≡ Ok k → Ended rules₀ (weighs weights) h n v ends

-- the same of a history that isn't looked at yet
pub record RecordsSought (g : List ℕ) (n : ℕ) (weights : List ℕ) (rules totals : List (List ℕ)) (h numbers ends : List ℕ) : Type 0 where
  pub weighed : Weighed g n weights rules totals
  pub room : Accepted h → records_of h ≤ length numbers
  pub ends_room : Accepted h → records_of h ≤ length ends
  pub charts : Accepted h → 1 ≤ records_of h → end_of behind_weights n ≤ length totals

pub record RecordsAs (rules₀ : List (List ℕ)) (h : List ℕ) (n v : ℕ) (weights : List ℕ) (rules totals : List (List ℕ)) (numbers ends : List ℕ) (s : Result ℕ Refusal) : Type 0 where
  pub recorded : RecordedBy rules₀ h (plainly n v) (weighs weights) rules totals weights_map numbers s
  pub ended : (k : ℕ) → s ≡ Ok k → Ended rules₀ (weighs weights) h n v ends

-- room for a history: for as many tickets and sums as it has records, and for charts if it has any
pub record Room (n : ℕ) (h : List ℕ) (totals : List (List ℕ)) (numbers sums : List ℕ) : Type 0 where
  pub numbers_room : Accepted h → records_of h ≤ length numbers
  pub sums_room : Accepted h → records_of h ≤ length sums
  pub charts : Accepted h → 1 ≤ records_of h → n ≤ 16 → end_of behind_weights n ≤ length totals

-- what a call lends
pub record Called (n : ℕ) (h : List ℕ) (rules totals : List (List ℕ)) (numbers sums : List ℕ) : Type 0 where
  pub lent : Lent rules totals
  pub room : Room n h totals numbers sums

-- rows enough for the totals, and places enough for the tickets and the sums
pub record RoomFor (n : ℕ) (h : List ℕ) (rows places : ℕ) : Type 0 where
  pub long : 35 ≤ rows
  pub charts : Accepted h → 1 ≤ records_of h → n ≤ 16 → end_of behind_weights n ≤ rows
  pub few : rows ≤ 171
  pub room : Accepted h → records_of h ≤ places
  pub small : places ≤ 1000

-- rows enough for any history
pub record RowsFor (n rows : ℕ) : Type 0 where
  pub long : 35 ≤ rows
  pub charts : n ≤ 16 → end_of behind_weights n ≤ rows
  pub few : rows ≤ 171

-- what preparing answers: the refusal, or the tables, the first tickets and the sums
pub record PreparedAs (g h : List ℕ) (n v : ℕ) (weights : List ℕ) (rules totals : List (List ℕ)) (numbers sums : List ℕ) (s : Result ℕ Refusal) : Type 0 where
  pub sampled : SampledBy g h (plainly n v) (weighs weights) (weighed_rows g n v weights) rules totals weights_map numbers s
  pub told : (k : ℕ) → s ≡ Ok k → (k ≤ length sums) × Told (take k numbers) (take k sums) × (heard_spans (take k numbers) (take k sums) ≡ spans_by g h n v (weighs weights))
