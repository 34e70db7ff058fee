-- What a draw answers from the table of rules and the heard derivations alone: nothing else of the grammar and the history counts any more.
-- Assumes nothing: these are definitions.
use Rattle.std.specs.Prelude.{◌≡◌, Bool, List, [], ◌∷◌, ◌++◌, ℕ, ◌-◌, ◌≤◌, length, get_or, drop, ltb, leb}
use Rattle.lists.specs.Joined.{sum_over}
use Rattle.lists.specs.Inner.Tickets.{spans, skip_over}
use Rattle.lists.specs.Inner.Struck.{numbered}
use Rattle.answers.specs.Answer.{Answer, answer}
use Rattle.ranking.specs.Inner.Inside.{full_in, weighs, weigh_in, tickets_at, Chooses}
use Rattle.sampling.specs.Inner.Skipping.{heard_spans, Told}

-- the first tickets and the weights of the derivations that fail a test and weigh something
abbrev pub spans_in : (rules choice : List (List ℕ)) (n : ℕ) (unheard : List ℕ → Bool) → List (ℕ × ℕ)
spans_in rules choice n unheard = spans (λ (e : ℕ × List ℕ). unheard e.1) (λ e. weighs rules choice e.1) (numbered 0 (full_in rules n))

-- the totals of a choice, and what some test strikes of the derivations, no more than a history has records
pub record DrawSought (rules totals choice : List (List ℕ)) (n : ℕ) (heard sums : List ℕ) : Type 0 where
  pub chooses : Chooses rules totals choice n
  pub few : length heard ≤ 1000
  pub told : Told heard sums
  pub unheard : List ℕ → Bool
  pub spans_are : heard_spans heard sums ≡ spans_in rules choice n unheard

-- of the tickets that the heard ones don't own the one with q others before it, where there is one and the buffer has room
unfoldable pub draw_skipping : (rules choice : List (List ℕ)) (n : ℕ) (heard sums : List ℕ) (q : ℕ) (out : List ℕ) → Answer
draw_skipping rules choice n heard sums q out =
    let left = weigh_in rules choice n - sum_over (λ (e : ℕ × ℕ). e.1) (heard_spans heard sums) in
    let found = get_or (tickets_at rules choice n) (skip_over q (heard_spans heard sums)) (0, []) in
    answer ((leb left q, 16) ∷ (ltb (length out) n, 20) ∷ []) (left ∷ found.0 ∷ []) out (found.1 ++ drop n out)
