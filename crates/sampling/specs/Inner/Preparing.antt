-- What *Left* and every *Draw* have at hand once the refusals 1 to 15, 21 and 22 are passed: first the tables, by 1 to 9, 22, 10 and 21, then the
-- places of the heard derivations among those that fit, by 11 to 15, which know the grammar through its tables alone.
-- Assumes nothing: these are definitions.
use Rattle.answers.specs.declared.refusal.Refusal.{Refusal}
use Rattle.std.specs.Prelude.{◌≡◌, ◌↔◌, true, false, List, [], ◌∷◌, ◌++◌, map, ℕ, ◌≤◌, ◌<◌, length, take, Result, Ok, Err, ⊤}
use Rattle.lists.specs.Joined.{◌∈◌}
use Rattle.lists.specs.Ordered.{Pairwise}
use Rattle.lists.specs.Inner.Tables.{Wide, Kept}
use Rattle.answers.specs.Answer.{Row, first_that_applies}
use Rattle.answers.specs.Inner.Refusals.{refusal_number}
use Rattle.grammar.specs.Trees.{sentence}
use Rattle.counting.specs.Inner.Counted.{Counted}
use Rattle.counting.specs.Inner.Preparing as tables
use Rattle.answers.specs.Inner.Results.{result_number}
use Rattle.counting.specs.Inner.Preparing.{Tabled}
use Rattle.ranking.specs.Answers.{full_list}
use Rattle.ranking.specs.Inner.Inside.{full_in, weighs, Chooses}
use Rattle.history.specs.Layout.{records_of}
use Rattle.history.specs.Refusals.{history_rows, Accepted}
use Rattle.sampling.specs.Question.{Question}
use Rattle.sampling.specs.Inner.Collect.{spans_by, fitting, beginning, ending, ambiguous_in, all_numbers_in, Still}
use Rattle.sampling.specs.Inner.Patterns.{Patterned, Choice}
use Rattle.sampling.specs.Unheard.{ambiguous}
use Rattle.sampling.specs.Answers.{asked_rows}

-- ---- 1 to 9, 22, 10 and 21

-- what the grammar and the question are answered: the refusal, or the tables; the rows that are not theirs stay
pub record AskedAs (g : List ℕ) (a : Question) (rules₀ rules totals₀ totals : List (List ℕ)) (r : Result ⊤ Refusal) : Type 0 where
  pub refusal : result_number r ≡ first_that_applies (asked_rows g a)
  pub ready : r ≡ Ok tt → Tabled g a.length rules totals
  pub rules_kept : Kept 4 256 rules₀ rules
  pub totals_kept : Kept 17 32 totals₀ totals

-- ---- 11 to 15, by the tables

-- room for a place of each record
abbrev pub Room : (h numbers : List ℕ) → Type 0
Room h numbers = Accepted h → records_of h ≤ length numbers

-- a number of places enough for that
pub record PlacesFor (h : List ℕ) (places : ℕ) : Type 0 where
  pub room : Accepted h → records_of h ≤ places
  pub few : places ≤ 1000

-- what is told of a history's sentences that weigh something, rising, each once
pub record Heard (rules : List (List ℕ)) (u : List ℕ → ℕ) (tell : ℕ × ℕ → ℕ) (h : List ℕ) (n v : ℕ) (heard : List ℕ) : Type 0 where
  pub clear : ambiguous_in rules h n v ≡ false
  pub rising : Pairwise ◌<◌ heard
  pub just : (d : ℕ) → (d ∈ heard) ↔ (d ∈ all_numbers_in rules u tell h n v)

-- the first k numbers, if there are so many, in rising order, each once: they are then m
pub record OrderedAs (k : ℕ) (before after : List ℕ) (m : ℕ) : Type 0 where
  pub few : k ≤ length before → m ≤ k
  pub rising : k ≤ length before → Pairwise ◌<◌ (take m after)
  pub same : k ≤ length before → (d : ℕ) → (d ∈ take m after) ↔ (d ∈ take k before)

-- so many numbers with it
abbrev pub Held : (rules : List (List ℕ)) (u : List ℕ → ℕ) (tell : ℕ × ℕ → ℕ) (h : List ℕ) (n v : ℕ) (numbers : List ℕ) (k : ℕ) → Type 0
Held rules u tell h n v numbers k = (k ≤ records_of h) × Heard rules u tell h n v (take k numbers)

-- their first tickets; or that line 15 applies
abbrev pub Hold : (rules : List (List ℕ)) (u : List ℕ → ℕ) (h : List ℕ) (n v : ℕ) (numbers : List ℕ) → Result ℕ Refusal → Type 0
Hold rules u h n v numbers (Ok k) = Held rules u beginning h n v numbers k
Hold rules u h n v numbers (Err r) = (ambiguous_in rules h n v ≡ true) × (refusal_number r ≡ 15)

-- and where they end
abbrev pub Ended : (rules : List (List ℕ)) (u : List ℕ → ℕ) (h : List ℕ) (n v : ℕ) (ends : List ℕ) → Type 0
Ended rules u h n v ends = (j : ℕ) × Held rules u ending h n v ends j

-- by a measure; the counts and the measure's totals are as they were
pub record NumbersBy (rules plan measure : List (List ℕ)) (h : List ℕ) (n v : ℕ) (totals : List (List ℕ)) (numbers ends : List ℕ) (s : Result ℕ Refusal) : Type 0 where
  pub hold : Hold rules (weighs rules measure) h n v numbers s
  pub ended : records_of h ≤ length ends → (k : ℕ) → s ≡ Ok k → Ended rules (weighs rules measure) h n v ends
  pub still : Still rules plan measure totals n

-- the counts of the length, an accepted history, and room for its places
pub record NumbersSought (rules totals : List (List ℕ)) (h : List ℕ) (n : ℕ) (numbers : List ℕ) : Type 0 where
  pub counted : Counted rules totals n
  pub diary : Accepted h
  pub room : records_of h ≤ length numbers

-- by the question's pattern
pub record NumbersAs (rules : List (List ℕ)) (h : List ℕ) (a : Question) (numbers : List ℕ) (s : Result ℕ Refusal) : Type 0 where
  pub hold : Hold rules (fitting a) h a.length a.voice numbers s

-- with a pattern, and a history of so many records
pub record FittingSought (rules totals : List (List ℕ)) (h : List ℕ) (a : Question) (records : ℕ) (choice : List (List ℕ)) (numbers : List ℕ) : Type 0 where
  pub sought : NumbersSought rules totals h a.length numbers
  pub patterned : Patterned a rules totals
  pub records_are : records ≡ records_of h
  pub choice_long : length choice ≡ 17
  pub choice_wide : Wide choice 16

pub record HeardBy (rules₀ : List (List ℕ)) (h : List ℕ) (a : Question) (u : List ℕ → ℕ) (rules totals choice : List (List ℕ)) (numbers : List ℕ) (s : Result ℕ Refusal) : Type 0 where
  pub hold : Hold rules₀ u h a.length a.voice numbers s
  pub chosen : Choice rules₀ a u rules totals choice

abbrev pub FittedAs : (rules₀ : List (List ℕ)) (h : List ℕ) (a : Question) (rules totals choice : List (List ℕ)) (numbers : List ℕ) (s : Result ℕ Refusal) → Type 0
FittedAs rules₀ h a rules totals choice numbers s = HeardBy rules₀ h a (fitting a) rules totals choice numbers s

-- the counts of the length asked for
pub record RecordsSought (rules totals : List (List ℕ)) (h : List ℕ) (n : ℕ) (numbers : List ℕ) : Type 0 where
  pub counted : Counted rules totals n
  pub room : Room h numbers

-- and with a pattern room for its chart and its map
pub record MatchingSought (rules totals : List (List ℕ)) (h : List ℕ) (a : Question) (choice : List (List ℕ)) (numbers : List ℕ) : Type 0 where
  pub records : RecordsSought rules totals h a.length numbers
  pub patterned : Patterned a rules totals
  pub choice_long : length choice ≡ 17
  pub choice_wide : Wide choice 16

-- the first tickets, of an accepted history, and the totals of the choice; or the first of 11 to 15 that applies
abbrev pub Recorded : (rules₀ : List (List ℕ)) (h : List ℕ) (a : Question) (u : List ℕ → ℕ) (rules totals choice : List (List ℕ)) (numbers : List ℕ) → Result ℕ Refusal → Type 0
Recorded rules₀ h a u rules totals choice numbers (Ok k) =
    Accepted h × (k ≤ records_of h) × Heard rules₀ u beginning h a.length a.voice (take k numbers) × Choice rules₀ a u rules totals choice
Recorded rules₀ h a u rules totals choice numbers (Err r) =
    refusal_number r ≡ first_that_applies (history_rows h ++ ((ambiguous_in rules₀ h a.length a.voice, 15) ∷ []))

pub record RecordedBy (rules₀ : List (List ℕ)) (h : List ℕ) (a : Question) (u : List ℕ → ℕ) (rules totals choice : List (List ℕ)) (numbers : List ℕ) (s : Result ℕ Refusal) : Type 0 where
  pub recorded : Recorded rules₀ h a u rules totals choice numbers s

abbrev pub RecordedAs : (rules₀ : List (List ℕ)) (h : List ℕ) (a : Question) (rules totals choice : List (List ℕ)) (numbers : List ℕ) (s : Result ℕ Refusal) → Type 0
RecordedAs rules₀ h a rules totals choice numbers s = RecordedBy rules₀ h a (fitting a) rules totals choice numbers s

-- ---- all, for the grammar

-- what a call lends for the tables and the places
pub record Lent (h : List ℕ) (rules totals : List (List ℕ)) (numbers : List ℕ) : Type 0 where
  pub tables : tables.Lent rules totals
  pub room : Room h numbers

-- with a pattern for the tables
pub record Tables (a : Question) (rules totals : List (List ℕ)) : Type 0 where
  pub tables : tables.Lent rules totals
  pub patterned : Patterned a rules totals

-- and for the places
pub record Called (h : List ℕ) (a : Question) (rules totals : List (List ℕ)) (numbers : List ℕ) : Type 0 where
  pub lent : Tables a rules totals
  pub room : Room h numbers

-- and for the map
pub record LentMatching (h : List ℕ) (a : Question) (rules totals choice : List (List ℕ)) (numbers : List ℕ) : Type 0 where
  pub called : Called h a rules totals numbers
  pub choice_long : length choice ≡ 17
  pub choice_wide : Wide choice 16

-- The tables and the first tickets of the k heard derivations are there, by which each sentence weighs u. Nothing applies of the lines `asked`, which
-- come before 11, and of 11 to 15.
pub record DrawableBy (g h : List ℕ) (a : Question) (u : List ℕ → ℕ) (asked : List Row) (rules totals choice : List (List ℕ)) (numbers : List ℕ) (k : ℕ) : Type 0 where
  pub passed : first_that_applies (asked ++ (history_rows h ++ ((ambiguous g h a, 15) ∷ []))) ≡ 0
  pub diary : Accepted h
  pub clear : ambiguous g h a ≡ false
  pub few : k ≤ records_of h
  pub heard : take k numbers ≡ map (λ (e : ℕ × ℕ). e.0) (spans_by g h a.length a.voice u)
  pub full : full_in rules a.length ≡ map sentence (full_list g a.length)
  pub chooses : Chooses rules totals choice a.length
  pub weigh : (s : List ℕ) → length s ≡ a.length → weighs rules choice s ≡ u s

-- what preparing answers: the refusal, or these
abbrev pub SampledIs : (g h : List ℕ) (a : Question) (u : List ℕ → ℕ) (asked : List Row) (rules totals choice : List (List ℕ)) (numbers : List ℕ) → Result ℕ Refusal → Type 0
SampledIs g h a u asked rules totals choice numbers (Ok k) = DrawableBy g h a u asked rules totals choice numbers k
SampledIs g h a u asked rules totals choice numbers (Err r) = refusal_number r ≡ first_that_applies (asked ++ (history_rows h ++ ((ambiguous g h a, 15) ∷ [])))

pub record SampledBy (g h : List ℕ) (a : Question) (u : List ℕ → ℕ) (asked : List Row) (rules totals choice : List (List ℕ)) (numbers : List ℕ) (s : Result ℕ Refusal) : Type 0 where
  pub prepared : SampledIs g h a u asked rules totals choice numbers s
  pub room : Room h numbers

-- of a question
abbrev pub Drawable : (g h : List ℕ) (a : Question) (rules totals choice : List (List ℕ)) (numbers : List ℕ) (k : ℕ) → Type 0
Drawable g h a rules totals choice numbers k = DrawableBy g h a (fitting a) (asked_rows g a) rules totals choice numbers k

abbrev pub SampledAs : (g h : List ℕ) (a : Question) (rules totals choice : List (List ℕ)) (numbers : List ℕ) (s : Result ℕ Refusal) → Type 0
SampledAs g h a rules totals choice numbers s = SampledBy g h a (fitting a) (asked_rows g a) rules totals choice numbers s
