-- *Give* and *Number* by the table of rules alone, once the refusals 1 to 10 are passed: what the walk and the chart answer. Of the table of an
-- accepted grammar these are document 01's answers (proofs/Inside.antt).
-- Assumes nothing: these are definitions.
use Rattle.std.specs.Prelude.{◌≡◌, Bool, List, [], ◌∷◌, ◌++◌, ℕ, ◌≤◌, ◌<◌, length, get_or, drop, ltb, leb, eqb}
use Rattle.lists.specs.Joined.{sum_over}
use Rattle.lists.specs.Searched.{how_many, first_place, same}
use Rattle.lists.specs.Inner.Tickets.{tickets, first_ticket}
use Rattle.lists.specs.Inner.Struck.{numbered}
use Rattle.answers.specs.Answer.{Answer, answer}
use Rattle.grammar.specs.Inner.Rules.{start_in, ruled}
use Rattle.grammar.specs.Inner.Links.{Linked}
use Rattle.counting.specs.Totals.{T}
use Rattle.counting.specs.Inner.Sentences.{sentences, weight}
use Rattle.counting.specs.Inner.Counted.{Counted}
use Rattle.counting.specs.Inner.Letters.{any, weighed}
use Rattle.charts.specs.Inner.Letters.{letter_at, weight_by}
use Rattle.charts.specs.Inner.Maps.{Closed, Mapped, Everywhere}

-- the sentences of the full list, and how many there are
abbrev pub full_in : List (List ℕ) → ℕ → List (List ℕ)
full_in rules n = sentences (ruled rules) (start_in rules) n

abbrev pub total_in : List (List ℕ) → ℕ → ℕ
total_in rules n = T (ruled rules) (start_in rules) n

-- the sentence with derivation number d
abbrev pub entry_in : List (List ℕ) → (n d : ℕ) → List ℕ
entry_in rules n d = get_or (full_in rules n) d []

-- how many derivations a sentence has, and how many stand before its first one
abbrev pub readings_in : (rules : List (List ℕ)) (s : List ℕ) → ℕ
readings_in rules s = how_many (λ u. same u s) (full_in rules (length s))

abbrev pub number_in : (rules : List (List ℕ)) (s : List ℕ) → ℕ
number_in rules s = first_place (λ u. same u s) (full_in rules (length s))

-- the two answers
unfoldable pub unrank_in : (rules : List (List ℕ)) (n d : ℕ) (out : List ℕ) → Answer
unrank_in rules n d out =
    answer ((leb (total_in rules n) d, 16) ∷ (ltb (length out) n, 20) ∷ []) (total_in rules n ∷ []) out (entry_in rules n d ++ drop n out)

unfoldable pub rank_in : (rules : List (List ℕ)) (s : List ℕ) → Answer
rank_in rules s =
    answer ((eqb (readings_in rules s) 0, 17) ∷ []) (number_in rules s ∷ total_in rules (length s) ∷ readings_in rules s ∷ []) [] []

-- ---- by a map

-- what a sentence weighs by a map's letters, and what all of the full list weigh
abbrev pub weighs : (rules map : List (List ℕ)) → List ℕ → ℕ
weighs rules map s = weight (weight_by rules map) 0 s

abbrev pub weigh_in : (rules map : List (List ℕ)) (n : ℕ) → ℕ
weigh_in rules map n = sum_over (weighs rules map) (full_in rules n)

-- the tickets: each of them, with its derivation number, as often as it weighs
abbrev pub tickets_at : (rules map : List (List ℕ)) (n : ℕ) → List (ℕ × List ℕ)
tickets_at rules map n = tickets (λ e. weighs rules map e.1) (numbered 0 (full_in rules n))

-- the first ticket of the sentence s
abbrev pub place_in : (rules map : List (List ℕ)) (s : List ℕ) → ℕ
place_in rules map s = first_ticket (weighs rules map) (λ u. same u s) (full_in rules (length s))

-- the counts, and the totals of a map
pub record Chooses (rules totals map : List (List ℕ)) (n : ℕ) : Type 0 where
  pub counted : Counted rules totals n
  pub known : ℕ → ℕ → Bool
  pub closed : Closed rules n known
  pub mapped : Mapped rules totals map n known
  pub linked : (p : ℕ) → p < n → letter_at map p < any → Linked rules
  pub weights : (p : ℕ) → p < n → letter_at map p ≡ weighed → 14 ≤ length rules

-- with one of the tickets, the map of the counts, and room for its owner's sentence
pub record WriteSought (rules totals choice counts : List (List ℕ)) (n t : ℕ) (out : List ℕ) : Type 0 where
  pub everywhere : Everywhere counts
  pub chooses : Chooses rules totals choice n
  pub inside : t < weigh_in rules choice n
  pub room : n ≤ length out

-- it is written, and what follows it is kept
pub record WrittenAs (rules choice : List (List ℕ)) (n t : ℕ) (before after : List ℕ) (number : ℕ) : Type 0 where
  pub words : after ≡ (get_or (tickets_at rules choice n) t (0, [])).1 ++ drop n before
  pub number_is : number ≡ (get_or (tickets_at rules choice n) t (0, [])).0
