-- What *Left* and *Draw* answer (document 01, section 'Operations').
-- Assumes nothing: these are definitions.
use Rattle.std.specs.Prelude.{List, [], ◌∷◌, ◌++◌, ℕ, length, get_or, drop, ltb, leb}
use Rattle.answers.specs.Answer.{Row, Answer, answer}
use Rattle.answers.specs.Voice.{bad_voice}
use Rattle.grammar.specs.Layout.{words}
use Rattle.grammar.specs.Trees.{leaf, sentence}
use Rattle.counting.specs.Refusals.{too_large, open_rows}
use Rattle.history.specs.Refusals.{history_rows}
use Rattle.sampling.specs.Pattern.{bad_pattern}
use Rattle.sampling.specs.Question.{Question, plainly, matching}
use Rattle.sampling.specs.Unheard.{Entry, unheard, total_for, heard_of, left_of, ambiguous}

-- ---- *Left*

-- the lines 1 to 9, 22, 10 and 21, in their order: "22, the voice is above 15, after 9" (document 02, U4), "21, a pattern byte other than 255 is W or
-- more, after 10" (U1)
abbrev pub asked_rows : (g : List ℕ) (a : Question) → List Row
asked_rows g a = open_rows g a.length ++ ((bad_voice a.voice, 22) ∷ (too_large g a.length, 10) ∷ (bad_pattern (words g) a.pattern, 21) ∷ [])

-- and 11 to 14 and 15
abbrev pub remaining_rows : (g h : List ℕ) (a : Question) → List Row
remaining_rows g h a = asked_rows g a ++ (history_rows h ++ ((ambiguous g h a, 15) ∷ []))

-- "*Left* (bank, diary, length) gives T, heard (distinct heard sentences of that length with one derivation) and left = T - heard."
unfoldable pub remaining_to : (g h : List ℕ) (a : Question) → Answer
remaining_to g h a = answer (remaining_rows g h a) (total_for g a ∷ heard_of g h a ∷ left_of g h a ∷ []) [] []

abbrev pub remaining_of : (g h : List ℕ) (n v : ℕ) → Answer
remaining_of g h n v = remaining_to g h (plainly n v)

abbrev pub remaining_matching : (g h pattern : List ℕ) (v : ℕ) → Answer
remaining_matching g h pattern v = remaining_to g h (matching pattern v)

-- ---- *Draw*

-- "the derivation with an unheard sentence that has exactly q such derivations before it": the unheard list's entry q
abbrev pub drawn : (g h : List ℕ) (a : Question) (q : ℕ) → Entry
drawn g h a q = get_or (unheard g h a) q (record { number = 0; tree = leaf 0 0 })

-- "16. The number is [..] left or more (*Draw*)." "20. The sentence buffer is shorter than the length (*Give*, *Draw*)."
abbrev pub draw_rows : (g h : List ℕ) (a : Question) (q : ℕ) (out : List ℕ) → List Row
draw_rows g h a q out = remaining_rows g h a ++ ((leb (left_of g h a) q, 16) ∷ (ltb (length out) a.length, 20) ∷ [])

-- "*Draw* (bank, diary, length, draw number q, buffer) [..] gives left and its derivation number, writes its sentence."
unfoldable pub draw_to : (g h : List ℕ) (a : Question) (q : ℕ) (out : List ℕ) → Answer
draw_to g h a q out =
    answer (draw_rows g h a q out) (left_of g h a ∷ (drawn g h a q).number ∷ []) out (sentence (drawn g h a q).tree ++ drop a.length out)

abbrev pub draw_of : (g h : List ℕ) (n v q : ℕ) (out : List ℕ) → Answer
draw_of g h n v q out = draw_to g h (plainly n v) q out

abbrev pub draw_matching : (g h pattern : List ℕ) (v q : ℕ) (out : List ℕ) → Answer
draw_matching g h pattern v q out = draw_to g h (matching pattern v) q out
