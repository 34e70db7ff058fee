-- What patterns come to at both ends (document 02, U1): of blanks only, and without a blank.
-- Assumes nothing: these are definitions.
use Rattle.std.specs.Prelude.{◌≡◌, true, false, List, ℕ, eqb, length, get_or, replicate}
use Rattle.lists.specs.Ordered.{Exactly}
use Rattle.lists.specs.Searched.{some_of, keep}
use Rattle.ranking.specs.Answers.{full_list, total_of, readings_of}
use Rattle.ranking.specs.Demand2.{Reading}
use Rattle.history.specs.Heard.{heard}
use Rattle.sampling.specs.Pattern.{blank}
use Rattle.sampling.specs.Question.{plainly}
use Rattle.sampling.specs.Unheard.{entries_from, outside, unheard, total_for, distinct, of_length, heard_of}
use Rattle.sampling.specs.Answers.{remaining_of, remaining_matching, draw_of, draw_matching}

-- n blanks
abbrev pub blanks : ℕ → List ℕ
blanks n = replicate n blank

-- "A pattern of blanks only must agree with the plain draw": refusal, figures and bytes, for every n, voice and draw number
pub record AllBlank (g h : List ℕ) (n v : ℕ) : Type 0 where
  pub left : remaining_matching g h (blanks n) v ≡ remaining_of g h n v
  pub draw : (q : ℕ) (out : List ℕ) → draw_matching g h (blanks n) v q out ≡ draw_of g h n v q out

-- "For a pattern without blanks, left is how many derivations that sentence has, or 0 if it is heard." Left is *Left*'s third figure.
abbrev pub left_given : (g h pattern : List ℕ) (v : ℕ) → ℕ
left_given g h pattern v = get_or (remaining_matching g h pattern v).figures 2 0

pub record NoBlank (g h pattern : List ℕ) (v : ℕ) : Type 0 where
  pub unheard : heard h v pattern ≡ false → Exactly (left_given g h pattern v) (Reading g pattern)
  pub heard : heard h v pattern ≡ true → left_given g h pattern v ≡ 0

-- the pattern has no blank
abbrev pub Full : List ℕ → Type 0
Full pattern = some_of (λ x. eqb x blank) pattern ≡ false

-- without a pattern T is T(S, n), and heard and the unheard list are document 01's
pub record Unpatterned (g h : List ℕ) (n v : ℕ) : Type 0 where
  pub total : total_for g (plainly n v) ≡ total_of g n
  pub heard : heard_of g h (plainly n v) ≡ length (distinct (keep (λ s. eqb (readings_of g s) 1) (of_length h (plainly n v))))
  pub unheard : unheard g h (plainly n v) ≡ keep (λ e. outside h v e.tree) (entries_from 0 (full_list g n))
