-- Demand 3 (document 01, section 'The draws as one list') as one claim about the list of draws, for every grammar, history and length
-- that it names and every single voice, "with heard and barred meant in that voice" (document 02, U4), and "for every pattern that 9 and 21 let pass:
-- left, the unheard list and the sentences that come once then cover only what fits, and its premises stay" (U1). The answers are `remaining_to` (*Left*)
-- and `draw_to` (*Draw*) to a question; the calls put the question of a length or a pattern and a voice, and the code's contracts say that it answers
-- just these.
-- Assumes nothing: these are definitions.
use Rattle.std.specs.Prelude.{◌≡◌, ◌↔◌, true, false, List, [], ◌∷◌, map, ℕ, ◌≤◌, ◌<◌, length, get_or, take, drop}
use Rattle.lists.specs.Joined.{◌∈◌, up_from}
use Rattle.lists.specs.Ordered.{Pairwise, Exactly}
use Rattle.answers.specs.Answer.{Answer, given, refused}
use Rattle.grammar.specs.Layout.{words, start}
use Rattle.grammar.specs.Chains.{chain}
use Rattle.grammar.specs.Refusals.{Accepted}
use Rattle.grammar.specs.Trees.{Tree, sentence, Before}
use Rattle.counting.specs.Refusals.{AllFit}
use Rattle.ranking.specs.Demand2.{Derivation, HasNumber, Reading, OneDerivation}
use Rattle.history.specs.Refusals as history
use Rattle.history.specs.Heard.{heard}
use Rattle.sampling.specs.Pattern.{matches, bad_pattern}
use Rattle.sampling.specs.Question.{Question}
use Rattle.sampling.specs.Unheard.{Entry, suits, unheard, total_for, heard_of}
use Rattle.sampling.specs.Answers.{remaining_to, draw_to}

-- t and u, if they are derivations of one sentence, are one derivation
abbrev pub Single : (g : List ℕ) (s : List ℕ) → Type 0
Single g s = (t u : Tree) → Derivation g (length s) t → Derivation g (length s) u → sentence t ≡ s → sentence u ≡ s → t ≡ u

-- What demand 3 names: an accepted grammar, a length of 1 to 16 of which no needed count is 2^64 or more, "each single voice from 0 to 15", and
-- an accepted history with no sentence of that length, heard in that voice, that has two derivations. proofs/Premises.antt: together
-- with that 21 doesn't apply they hold exactly where *Left* isn't refused.
pub record Premises (g h : List ℕ) (a : Question) : Type 0 where
  pub bank : Accepted g
  pub some : 1 ≤ a.length
  pub short : a.length ≤ 16
  pub voiced : a.voice ≤ 15
  pub counts : AllFit (chain g) (λ p w. 1) (start g) a.length
  pub diary : history.Accepted h
  pub single : (s : List ℕ) → length s ≡ a.length → heard h a.voice s ≡ true → Single g s

-- 21 doesn't apply: each byte of the pattern, if there is one, is a blank or a word of the grammar
abbrev pub Worded : (g : List ℕ) (a : Question) → Type 0
Worded g a = bad_pattern (words g) a.pattern ≡ false

-- ---- what a draw answers, and the unheard list's entries, as derivation number and sentence

pub record Shown : Type 0 where
  pub number : ℕ
  pub words : List ℕ

-- the derivation number that a *Draw* gives: its second figure
abbrev pub number_in : Answer → ℕ
number_in a = get_or a.figures 1 0

-- "the derivation number and the buffer's first n bytes"
abbrev pub shown : (n : ℕ) → Answer → Shown
shown n a = record { number = number_in a; words = take n a.buffer }

-- "each entry put as its derivation number and its sentence"
abbrev pub as_shown : Entry → Shown
as_shown e = record { number = e.number; words = sentence e.tree }

pub record Demand3 (g h : List ℕ) (a : Question) : Type 0 where
  -- the unheard list has just the derivations whose sentence fits and is unheard, each with its derivation number, in the order above
  pub entries : (e : Entry)
      → (e ∈ unheard g h a) ↔ (HasNumber g a.length e.tree e.number × (suits a e.tree ≡ true) × (heard h a.voice (sentence e.tree) ≡ false))
  pub ordered : Pairwise (λ (e f : Entry). Before e.tree f.tree) (unheard g h a)
  -- "T counts the fitting derivations": so many there are. "heard (distinct heard sentences of that length with one derivation)", the fitting ones: so
  -- many there are, and no more than T
  pub total_are : Exactly (total_for g a) (λ t. Derivation g a.length t × (suits a t ≡ true))
  pub heard_are : Exactly (heard_of g h a)
      (λ s. (length s ≡ a.length) × (matches a.pattern s ≡ true) × (heard h a.voice s ≡ true) × ((t : Tree) × OneDerivation g s t))
  pub heard_few : heard_of g h a ≤ total_for g a
  -- "Left, as *Left* and every accepted *Draw* give it, is the length of the unheard list."
  pub left : remaining_to g h a ≡ given (total_for g a ∷ heard_of g h a ∷ length (unheard g h a) ∷ []) []
  pub figures : (q : ℕ) (out : List ℕ) → (draw_to g h a q out).refusal ≡ 0 → (d : ℕ) × ((draw_to g h a q out).figures ≡ length (unheard g h a) ∷ d ∷ [])
  -- "Now call *Draw* with q from 0 to left - 1 [..], each time with a buffer of at least n bytes, whatever it held. None of these is refused."
  pub accepted : (q : ℕ) (out : List ℕ) → q < length (unheard g h a) → a.length ≤ length out → (draw_to g h a q out).refusal ≡ 0
  -- "List what they answer [..]. That list equals the unheard list"
  pub draws : (out : ℕ → List ℕ) → ((q : ℕ) → a.length ≤ length (out q))
      → map (λ q. shown a.length (draw_to g h a q (out q))) (up_from 0 (length (unheard g h a))) ≡ map as_shown (unheard g h a)
  -- "buffer bytes past the sentence keep their content", whatever is answered
  pub kept : (q : ℕ) (out : List ℕ) → drop a.length (draw_to g h a q out).buffer ≡ drop a.length out
  -- "Every q from left to 2^64 - 1 is refused 16." Whatever the buffer.
  pub beyond : (q : ℕ) (out : List ℕ) → length (unheard g h a) ≤ q → draw_to g h a q out ≡ refused 16 2 out

-- ---- the corollary: sentences that come once

-- the sentence s has a derivation
abbrev pub Derivable : (g s : List ℕ) → Type 0
Derivable g s = (t : Tree) × Reading g s t

-- Where no sentence of length n has two derivations, each derivable sentence that fits and is unheard is drawn by exactly one number below left,
-- and nothing else is drawn.
pub record Once (g h : List ℕ) (a : Question) (out : ℕ → List ℕ) : Type 0 where
  pub each : (s : List ℕ) → length s ≡ a.length → Derivable g s → matches a.pattern s ≡ true → heard h a.voice s ≡ false
      → Exactly 1 (λ q. (q < length (unheard g h a)) × (take a.length (draw_to g h a q (out q)).buffer ≡ s))
  pub other : (q : ℕ) → q < length (unheard g h a)
      → (s : List ℕ) × (take a.length (draw_to g h a q (out q)).buffer ≡ s) × (length s ≡ a.length) × Derivable g s × (matches a.pattern s ≡ true)
      × (heard h a.voice s ≡ false)

-- ---- two histories

-- "A diary bars the heard sentences that have a derivation of S." In the voice v.
abbrev pub Bars : (g h : List ℕ) (v : ℕ) (s : List ℕ) → Type 0
Bars g h v s = (heard h v s ≡ true) × Derivable g s

-- two diaries "that bar the same sentences of length n"
abbrev pub SameBarred : (g h h' : List ℕ) (a : Question) → Type 0
SameBarred g h h' a = (s : List ℕ) → length s ≡ a.length → (Bars g h a.voice s ↔ Bars g h' a.voice s)

-- "*Left* gives the same figures. For every q, *Draw* gives the same refusal or the same figures, and from equal buffers it leaves equal
-- buffers."
pub record Alike (g h h' : List ℕ) (a : Question) : Type 0 where
  pub left : remaining_to g h a ≡ remaining_to g h' a
  pub draw : (q : ℕ) (out : List ℕ) → draw_to g h a q out ≡ draw_to g h' a q out
