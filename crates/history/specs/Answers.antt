-- What *Check diary* and *Log* answer.
-- Assumes nothing: these are definitions.
use Rattle.std.specs.Prelude.{Bool, ◌||◌, List, [], ◌∷◌, ◌++◌, ℕ, suc, ◌+◌, ◌*◌, length, ltb, eqb}
use Rattle.answers.specs.Answer.{Row, Answer, answer}
use Rattle.answers.specs.Length.{bad_length}
use Rattle.answers.specs.Voice.{bad_voice}
use Rattle.history.specs.Layout.{records_of}
use Rattle.history.specs.Refusals.{history_rows}
use Rattle.history.specs.Playback.{Playback, bad_played}
use Rattle.history.specs.Writing.{appended}

-- ---- *Check diary*

-- "*Check diary* gives K."
unfoldable pub check_history : List ℕ → Answer
check_history h = answer (history_rows h) (records_of h ∷ []) [] []

-- ---- *Log*

-- "19. K is 1,000 or the buffer has fewer than 4 + 20(K + 1) bytes (*Log*)."
unfoldable pub no_room : List ℕ → Bool
no_room h = eqb (records_of h) 1000 || ltb (length h) (4 + 20 * suc (records_of h))

-- the lines 9, 22, 23, 11 to 14 and 19, in their order
abbrev pub append_rows : (h : List ℕ) (p : Playback) → List Row
append_rows h p = (bad_length (length p.words), 9) ∷ (bad_voice p.voice, 22) ∷ (bad_played p, 23) ∷ (history_rows h ++ ((no_room h, 19) ∷ []))

-- "*Log* (diary buffer, sentence) writes record K + 1 in full [..], gives the new K." It takes a voice (document 02, U4) and the words played (U5) as well.
unfoldable pub append_of : (h : List ℕ) (p : Playback) → Answer
append_of h p = answer (append_rows h p) (suc (records_of h) ∷ []) h (appended h p)
