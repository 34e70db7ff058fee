-- The draw by weights (document 02, U7): "The call takes what the plain draw takes, voice included, with the weights added and a ticket in place of q. It
-- gives the sentence, derivation number and total of tickets." What it answers, and what that comes to: one claim about the list of tickets.
-- Assumes nothing: these are definitions.
use Rattle.std.specs.Prelude.{◌≡◌, ◌↔◌, ◌⊎◌, false, List, [], ◌∷◌, ◌++◌, map, ℕ, ◌+◌, ◌≤◌, ◌<◌, length, get_or, drop, replicate, ltb, leb}
use Rattle.lists.specs.Joined.{At, up_from}
use Rattle.answers.specs.Answer.{Row, Answer, answer, given, refused}
use Rattle.grammar.specs.Layout.{words, start}
use Rattle.grammar.specs.Chains.{chain}
use Rattle.grammar.specs.Trees.{leaf, sentence, Before}
use Rattle.counting.specs.Refusals.{AllFit}
use Rattle.ranking.specs.Demand2.{HasNumber}
use Rattle.history.specs.Refusals.{history_rows}
use Rattle.history.specs.Heard.{heard}
use Rattle.sampling.specs.Question.{plainly}
use Rattle.sampling.specs.Unheard.{Entry, ambiguous}
use Rattle.sampling.specs.Answers.{asked_rows, draw_of}
use Rattle.sampling.specs.Demand3.{Premises, shown, as_shown}
use Rattle.sampling.specs.Examples.{F, heard01}
use Rattle.weighing.specs.Weights.{weight_of, weighs, bad_weights, too_heavy, tickets_of}

-- the lines before 11: "24 [..] after 10; 25 [..] after 24"
abbrev pub weighed_rows : (g : List ℕ) (n v : ℕ) (weights : List ℕ) → List Row
weighed_rows g n v weights = asked_rows g (plainly n v) ++ ((bad_weights (words g) weights, 24) ∷ (too_heavy g n weights, 25) ∷ [])

-- and those before 16
abbrev pub weighted_rows : (g h : List ℕ) (n v : ℕ) (weights : List ℕ) → List Row
weighted_rows g h n v weights = weighed_rows g n v weights ++ (history_rows h ++ ((ambiguous g h (plainly n v), 15) ∷ []))

-- the owner of the ticket t
abbrev pub owner_of : (g h : List ℕ) (n v : ℕ) (weights : List ℕ) (t : ℕ) → Entry
owner_of g h n v weights t = get_or (tickets_of g h n v weights) t (record { number = 0; tree = leaf 0 0 })

-- "A ticket at the total or above is 16; 15 and 20 hold as for the draw."
abbrev pub draw_weighted_rows : (g h : List ℕ) (n v : ℕ) (weights : List ℕ) (t : ℕ) (out : List ℕ) → List Row
draw_weighted_rows g h n v weights t out = weighted_rows g h n v weights ++ ((leb (length (tickets_of g h n v weights)) t, 16) ∷ (ltb (length out) n, 20) ∷ [])

-- "It gives the sentence, derivation number and total of tickets."
unfoldable pub draw_weighted : (g h : List ℕ) (n v : ℕ) (weights : List ℕ) (t : ℕ) (out : List ℕ) → Answer
draw_weighted g h n v weights t out =
    let owner = owner_of g h n v weights t in
    answer (draw_weighted_rows g h n v weights t out) (length (tickets_of g h n v weights) ∷ owner.number ∷ []) out (sentence owner.tree ++ drop n out)

-- ---- what is supposed: demand 3's premises, and that 24 and 25 don't apply

pub record Weighty (g : List ℕ) (n : ℕ) (weights : List ℕ) : Type 0 where
  -- W weights, none of them 0
  pub many : length weights ≡ words g
  pub some : (w : ℕ) → w < length weights → 1 ≤ weight_of weights w
  -- no total weight of a needed pair is 2^64 or more
  pub fit : AllFit (chain g) (λ p w. weight_of weights w) (start g) n

-- they hold exactly where the call isn't refused, but by 16 or 20
abbrev pub Holding : (g h : List ℕ) (n v : ℕ) (weights : List ℕ) → Type 0
Holding g h n v weights = Premises g h (plainly n v) × Weighty g n weights

abbrev pub NotRefused : (a : Answer) → Type 0
NotRefused a = (a.refusal ≡ 0) ⊎ ((a.refusal ≡ 16) ⊎ (a.refusal ≡ 20))

-- ---- what follows

pub record Weighted (g h : List ℕ) (n v : ℕ) (weights : List ℕ) : Type 0 where
  -- what owns a ticket is a derivation, with its derivation number, whose sentence is unheard
  pub owners : (t : ℕ) (e : Entry) → At (tickets_of g h n v weights) t e → HasNumber g n e.tree e.number × (heard h v (sentence e.tree) ≡ false)
  -- "Every unheard derivation must own exactly its weight in tickets", consecutive ones: those from its first on, and there are some
  pub owned : (e : Entry) → HasNumber g n e.tree e.number → heard h v (sentence e.tree) ≡ false
      → (first : ℕ) × (1 ≤ weighs weights (sentence e.tree))
      × ((t : ℕ) → At (tickets_of g h n v weights) t e ↔ ((first ≤ t) × (t < first + weighs weights (sentence e.tree))))
  -- "in the old order"
  pub ordered : (t u : ℕ) (e f : Entry) → At (tickets_of g h n v weights) t e → At (tickets_of g h n v weights) u f → t < u → (e ≡ f) ⊎ Before e.tree f.tree
  -- "total of tickets": so many there are, as every accepted call gives it
  pub figures : (t : ℕ) (out : List ℕ) → (draw_weighted g h n v weights t out).refusal ≡ 0
      → (d : ℕ) × ((draw_weighted g h n v weights t out).figures ≡ length (tickets_of g h n v weights) ∷ d ∷ [])
  -- no ticket below the total is refused, with a buffer of at least n bytes, whatever it held
  pub accepted : (t : ℕ) (out : List ℕ) → t < length (tickets_of g h n v weights) → n ≤ length out → (draw_weighted g h n v weights t out).refusal ≡ 0
  -- the calls with the tickets 0 to total - 1 answer the list, each entry put as its derivation number and its sentence
  pub draws : (out : ℕ → List ℕ) → ((t : ℕ) → n ≤ length (out t))
      → map (λ t. shown n (draw_weighted g h n v weights t (out t))) (up_from 0 (length (tickets_of g h n v weights))) ≡ map as_shown (tickets_of g h n v weights)
  -- "buffer bytes past the sentence keep their content", whatever is answered
  pub kept : (t : ℕ) (out : List ℕ) → drop n (draw_weighted g h n v weights t out).buffer ≡ drop n out
  -- "A ticket at the total or above is 16", whatever the buffer
  pub beyond : (t : ℕ) (out : List ℕ) → length (tickets_of g h n v weights) ≤ t → draw_weighted g h n v weights t out ≡ refused 16 2 out

-- ---- "All weights 1 means the plain draw": on every input, refusal, figures and bytes

abbrev pub AllOnes : (g h : List ℕ) (n v : ℕ) → Type 0
AllOnes g h n v = (t : ℕ) (out : List ℕ) → draw_weighted g h n v (replicate (words g) 1) t out ≡ draw_of g h n v t out

-- ---- an instance: with the weights 3 and 2, F's sentences of length 2 weigh 9, 6, 6 and 4; the second, 0 1, is heard, so ticket 9 is the first of 1 0

abbrev pub three_two : List ℕ
three_two = 3 ∷ 2 ∷ []

pub record Instance : Type 0 where
  pub holding : Holding F heard01 2 0 three_two
  pub last : (out : List ℕ) → 2 ≤ length out → draw_weighted F heard01 2 0 three_two 8 out ≡ given (19 ∷ 0 ∷ []) (0 ∷ 0 ∷ drop 2 out)
  pub next : (out : List ℕ) → 2 ≤ length out → draw_weighted F heard01 2 0 three_two 9 out ≡ given (19 ∷ 2 ∷ []) (1 ∷ 0 ∷ drop 2 out)
