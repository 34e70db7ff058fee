-- What collecting the heard derivations asks and gives back, by the table of rules alone. They are told by their first tickets, and where room is lent
-- also by where these end, where each sentence weighs u: by a measure's letters; 1 where it fits a pattern, and else nothing; or what words' weights make it.
-- Assumes nothing: these are definitions.
use Rattle.answers.specs.Inner.Refusals.{refusal_number}
use Rattle.answers.specs.declared.refusal.Refusal.{Refusal}
use Rattle.std.specs.Prelude.{◌≡◌, Bool, true, false, cond, ◌&&◌, List, [], ◌∷◌, ℕ, ◌+◌, ◌≤◌, ◌<◌, length, take, ltb, leb, eqb, Option, None, Some, Result, Ok, Err}
use Rattle.lists.specs.Joined.{◌∈◌, concat_map}
use Rattle.lists.specs.Searched.{bit, some_of, same, keep}
use Rattle.lists.specs.Inner.Tickets.{first_ticket, spans}
use Rattle.lists.specs.Inner.Struck.{struck, numbered}
use Rattle.lists.specs.Inner.Tables.{entry}
use Rattle.grammar.specs.Trees.{Tree, sentence}
use Rattle.counting.specs.Refusals.{most}
use Rattle.counting.specs.Inner.Counted.{Counted}
use Rattle.counting.specs.Inner.Letters.{weighed, Summed}
use Rattle.charts.specs.Inner.Letters.{letter_at, stands}
use Rattle.charts.specs.Inner.Maps.{row_at, Span, Mapped}
use Rattle.charts.specs.Inner.Plan.{length_in, needed, end_of}
use Rattle.charts.specs.Inner.Chart.{Clean}
use Rattle.charts.specs.Inner.Ready.{Ready}
use Rattle.ranking.specs.Answers.{full_list}
use Rattle.ranking.specs.declared.rank.Span.{Span as Tickets}
use Rattle.ranking.specs.Inner.Inside.{full_in, readings_in, weighs}
use Rattle.history.specs.Layout.{records_of}
use Rattle.history.specs.Refusals.{Accepted}
use Rattle.history.specs.Heard.{sentences_in}
use Rattle.sampling.specs.Pattern.{matches}
use Rattle.sampling.specs.Question.{Question, plainly}
use Rattle.sampling.specs.Unheard.{outside, suits, of_length}

-- the derivations that fit, each with its number, and of these the places that are struck, rising
abbrev pub fitting_at : (g : List ℕ) (a : Question) → List (ℕ × Tree)
fitting_at g a = keep (λ e. suits a e.1) (numbered 0 (full_list g a.length))

abbrev pub barred : (g h : List ℕ) (a : Question) → List ℕ
barred g h a = struck (λ e. outside h a.voice e.1) (fitting_at g a)

-- the first tickets and the weights of the derivations that are heard in the voice and weigh something
abbrev pub spans_by : (g h : List ℕ) (n v : ℕ) (u : List ℕ → ℕ) → List (ℕ × ℕ)
spans_by g h n v u = spans (λ (e : ℕ × Tree). outside h v e.1) (λ e. u (sentence e.1)) (numbered 0 (full_list g n))

-- what fits a question's pattern weighs 1
abbrev pub fitting : (a : Question) (s : List ℕ) → ℕ
fitting a s = bit (matches a.pattern s)

-- what may be told of a first ticket and a weight: the first, or the first behind the last
abbrev pub beginning : ℕ × ℕ → ℕ
beginning e = e.0

abbrev pub ending : ℕ × ℕ → ℕ
ending e = e.0 + e.1

-- what is told of a sentence with n words and one derivation that weighs something; of any other nothing
abbrev pub numbers_in : (rules : List (List ℕ)) (u : List ℕ → ℕ) (tell : ℕ × ℕ → ℕ) (n : ℕ) (s : List ℕ) → List ℕ
numbers_in rules u tell n s =
    cond (eqb (length s) n && (eqb (readings_in rules s) 1 && ltb 0 (u s))) (tell (first_ticket u (λ t. same t s) (full_in rules n), u s) ∷ []) []

-- the sentence has n words and two or more derivations
abbrev pub many_in : (rules : List (List ℕ)) (n : ℕ) (s : List ℕ) → Bool
many_in rules n s = eqb (length s) n && leb 2 (readings_in rules s)

-- some sentence of a history, in the voice and of the length, has two or more derivations
abbrev pub ambiguous_in : (rules : List (List ℕ)) (h : List ℕ) (n v : ℕ) → Bool
ambiguous_in rules h n v = some_of (λ s. leb 2 (readings_in rules s)) (of_length h (plainly n v))

-- what is told of the sentences of a history, in the voice and of the length, along the chain
abbrev pub all_numbers_in : (rules : List (List ℕ)) (u : List ℕ → ℕ) (tell : ℕ × ℕ → ℕ) (h : List ℕ) (n v : ℕ) → List ℕ
all_numbers_in rules u tell h n v = concat_map (numbers_in rules u tell n) (sentences_in h v)

-- ---- one sentence

-- The totals of a measure over the spans of a plan, in rows that no sentence's chart has. A sentence stands if it weighs something; where the totals
-- are the counts every sentence does.
pub record Measures (rules plan measure totals : List (List ℕ)) (first n : ℕ) : Type 0 where
  pub mapped : Mapped rules totals measure n (needed plan)
  pub rows : (p m : ℕ) → Span n p m → row_at measure p m < first
  pub weights : (p : ℕ) → p < n → letter_at measure p ≡ weighed → Summed rules
  pub stand : (s : List ℕ) → s ∈ full_in rules n → stands measure 0 s ≡ ltb 0 (weighs rules measure s)
  pub plain : row_at measure 0 1 < 17 → (s : List ℕ) → length s ≡ n → stands measure 0 s ≡ true

-- the tables for sentences of the plan's length, their charts from the row `first` on
pub record Serves (rules plan map measure : List (List ℕ)) (sets : List ℕ) (totals : List (List ℕ)) : Type 0 where
  pub first : ℕ
  pub ready : Ready rules plan map totals first (length_in plan)
  pub clean : Clean first (length_in plan) sets totals
  pub measures : Measures rules plan measure totals first (length_in plan)

-- what the sentence s adds: by how many derivations it has, and whether it weighs something
abbrev pub Adds : (rules : List (List ℕ)) (u : List ℕ → ℕ) (n : ℕ) (s : List ℕ) → Result (Option Tickets) Refusal → Type 0
Adds rules u n s (Ok None) = (many_in rules n s ≡ false) × ((tell : ℕ × ℕ → ℕ) → numbers_in rules u tell n s ≡ [])
Adds rules u n s (Ok (Some d)) = (many_in rules n s ≡ false) × ((tell : ℕ × ℕ → ℕ) → numbers_in rules u tell n s ≡ tell (d.first, d.weight) ∷ []) × (d.first + d.weight ≤ most)
Adds rules u n s (Err r) = (many_in rules n s ≡ true) × (refusal_number r ≡ 15)

pub record HeardFoundAs (rules plan map measure : List (List ℕ)) (s sets : List ℕ) (totals : List (List ℕ)) (f : Result (Option Tickets) Refusal) : Type 0 where
  pub adds : Adds rules (weighs rules measure) (length_in plan) s f
  pub serves : Serves rules plan map measure sets totals

-- ---- all sentences

-- the tables for the length n, an accepted history, and room for its places
pub record Collects (rules plan map measure : List (List ℕ)) (h : List ℕ) (n : ℕ) (totals : List (List ℕ)) (numbers : List ℕ) : Type 0 where
  pub planned : length_in plan ≡ n
  pub first : ℕ
  pub low : end_of first n ≤ 290
  pub ready : Ready rules plan map totals first n
  pub zeros : (r A : ℕ) → first ≤ r → entry totals r A ≡ 0
  pub measures : Measures rules plan measure totals first n
  pub diary : Accepted h
  pub room : records_of h ≤ length numbers

-- what is told along the chain, or that a sentence has two or more derivations
abbrev pub CollectedIs : (rules : List (List ℕ)) (u : List ℕ → ℕ) (tell : ℕ × ℕ → ℕ) (h : List ℕ) (n v : ℕ) (numbers : List ℕ) → Result ℕ Refusal → Type 0
CollectedIs rules u tell h n v numbers (Ok k) = (ambiguous_in rules h n v ≡ false) × (k ≤ records_of h) × (take k numbers ≡ all_numbers_in rules u tell h n v)
CollectedIs rules u tell h n v numbers (Err r) = (ambiguous_in rules h n v ≡ true) × (refusal_number r ≡ 15)

-- the counts and the measure's totals are as they were
pub record Still (rules plan measure totals : List (List ℕ)) (n : ℕ) : Type 0 where
  pub counted : Counted rules totals n
  pub mapped : Mapped rules totals measure n (needed plan)

-- the places, and where there is room for it also where they end
pub record CollectedAs (rules plan measure : List (List ℕ)) (h : List ℕ) (n v : ℕ) (totals : List (List ℕ)) (numbers ends : List ℕ) (c : Result ℕ Refusal) : Type 0 where
  pub holds : CollectedIs rules (weighs rules measure) beginning h n v numbers c
  pub ended : records_of h ≤ length ends → CollectedIs rules (weighs rules measure) ending h n v ends c
  pub still : Still rules plan measure totals n
