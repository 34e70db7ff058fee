-- What one more log does (document 02, U14): "Suppose draw q gives a sentence with just one derivation, and that sentence is logged in the same voice,
-- played in full. If the log is accepted, left falls by one. Draws below q give the sentence and derivation number they gave, and each draw from q on
-- gives those that the next one gave, or is refused where the next one was. Draw 2^64 - 1, which has no next, is refused before and after."
-- All of it is said of a question, so with a pattern too, and q then counts what fits.
-- Assumes nothing: these are definitions.
use Rattle.std.specs.Prelude.{◌≡◌, ◌↔◌, List, [], ◌∷◌, ◌++◌, map, ℕ, suc, ◌+◌, ◌≤◌, ◌<◌, length, take, replicate}
use Rattle.lists.specs.Ordered.{Distinct}
use Rattle.answers.specs.Answer.{Answer, given, refused}
use Rattle.grammar.specs.Trees.{Tree}
use Rattle.counting.specs.Refusals.{most}
use Rattle.ranking.specs.Demand2.{OneDerivation}
use Rattle.history.specs.Playback.{playback}
use Rattle.history.specs.Answers.{append_of}
use Rattle.sampling.specs.Pattern.{blank}
use Rattle.sampling.specs.Question.{Question, plainly, matching}
use Rattle.sampling.specs.Unheard.{unheard}
use Rattle.sampling.specs.Answers.{remaining_to, draw_to}
use Rattle.sampling.specs.Demand3.{Shown, shown, as_shown}
use Rattle.sampling.specs.Examples.{F, heard01}

-- *Log* of the sentence s in the question's voice, played in full
abbrev pub log_of : (h : List ℕ) (a : Question) (s : List ℕ) → Answer
log_of h a s = append_of h (playback s a.voice 0)

-- What is supposed: draw q gives x, a derivation number and a sentence, from a buffer of the caller's; the sentence has just one derivation; and the log
-- is accepted. That the draw is accepted says that *Left* was answered.
pub record Round (g h : List ℕ) (a : Question) (q : ℕ) (x : Shown) : Type 0 where
  pub out : List ℕ
  pub drawn : (draw_to g h a q out).refusal ≡ 0
  pub gives : shown a.length (draw_to g h a q out) ≡ x
  pub single : (t : Tree) × OneDerivation g x.words t
  pub logged : (log_of h a x.words).refusal ≡ 0

-- two buffers that are lent for a sentence of n words: each holds anything and is as long as you like, and the sentence has room in both or in neither
abbrev pub SameRoom : (n : ℕ) (out out' : List ℕ) → Type 0
SameRoom n out out' = (n ≤ length out) ↔ (n ≤ length out')

-- a *Draw* before the log and one after it, from such buffers: the same refusal; where there is none, the same derivation number and the same sentence,
-- and left is one less
pub record AsBefore (n left : ℕ) (before after : Answer) : Type 0 where
  pub refusal : after.refusal ≡ before.refusal
  pub figures : before.refusal ≡ 0 → (d : ℕ) × (before.figures ≡ suc left ∷ d ∷ []) × (after.figures ≡ left ∷ d ∷ [])
  pub words : before.refusal ≡ 0 → take n after.buffer ≡ take n before.buffer

-- what follows, where h is the history before the log and h' the buffer that *Log* leaves
pub record OneMore (g h h' : List ℕ) (a : Question) (q : ℕ) : Type 0 where
  pub total : ℕ
  pub heard : ℕ
  pub left : ℕ
  -- "left falls by one": T stays, and heard rises by one
  pub was : remaining_to g h a ≡ given (total ∷ heard ∷ suc left ∷ []) []
  pub is : remaining_to g h' a ≡ given (total ∷ suc heard ∷ left ∷ []) []
  -- "Draws below q give the sentence and derivation number they gave"
  pub below : (j : ℕ) (out out' : List ℕ) → j < q → SameRoom a.length out out' → AsBefore a.length left (draw_to g h a j out) (draw_to g h' a j out')
  -- "each draw from q on gives those that the next one gave, or is refused where the next one was"
  pub from : (j : ℕ) (out out' : List ℕ) → q ≤ j → SameRoom a.length out out' → AsBefore a.length left (draw_to g h a (suc j) out) (draw_to g h' a j out')
  -- "Draw 2^64 - 1, which has no next, is refused before and after": with 16
  pub last : (out : List ℕ) → (draw_to g h a most out ≡ refused 16 2 out) × (draw_to g h' a most out ≡ refused 16 2 out)

-- ---- a whole list: draw 0 is played and logged, and again

-- each of the list is what draw 0 gives when its turn comes, with just one derivation, and its log is accepted
pub data Rounds (g : List ℕ) (a : Question) : (h : List ℕ) → List Shown → Type 0 where
  stop : {h : List ℕ} → Rounds g a h []
  next : {h : List ℕ} {x : Shown} {l : List Shown} → Round g h a 0 x → Rounds g a (log_of h a x.words).buffer l → Rounds g a h (x ∷ l)

-- the history after these logs
abbrev pub after_all : (h : List ℕ) (a : Question) → List Shown → List ℕ
after_all h a [] = h
after_all h a (x ∷ l) = after_all (log_of h a x.words).buffer a l

pub record InOrder (g h : List ℕ) (a : Question) (l : List Shown) : Type 0 where
  pub total : ℕ
  pub heard : ℕ
  pub left : ℕ
  -- left falls by one for each
  pub was : remaining_to g h a ≡ given (total ∷ heard ∷ (length l + left) ∷ []) []
  pub is : remaining_to g (after_all h a l) a ≡ given (total ∷ (length l + heard) ∷ left ∷ []) []
  -- in order: they, and after them what is unheard then, are the unheard list
  pub list : map as_shown (unheard g h a) ≡ l ++ map as_shown (unheard g (after_all h a l) a)
  -- and no sentence comes a second time
  pub once : Distinct (map (λ (x : Shown). x.words) l)

-- ---- such rounds there are

-- the diary of 0 1, with room for one record more
abbrev pub roomy : List ℕ
roomy = heard01 ++ replicate 20 0

pub record Met : Type 0 where
  pub plain : Round F roomy (plainly 2 0) 1 (record { number = 2; words = 1 ∷ 0 ∷ [] })
  pub matched : Round F roomy (matching (blank ∷ 1 ∷ []) 0) 0 (record { number = 3; words = 1 ∷ 1 ∷ [] })
