-- Answers before U4 and U5. An earlier reading of fourth bytes that says of each record of a history what is said now, in a voice, gives the answers
-- of now: the lines, the heard sentences and the unheard list are made of what is said of the records alone. U4: where every fourth byte is 0, the
-- reading of before is such a one for voice 0. U5: where no record was broken off, that of before is such a one for every voice.
-- Assumes nothing.
use mathlib.Core.Path.{◌≡◌, refl, sym, ap, ◌∙◌}
use mathlib.Core.Logic.{◌≢◌}
use mathlib.Core.Bool.{Bool, true, false, not, ◌&&◌, ◌||◌, and-true}
use mathlib.Core.List.{List, [], ◌∷◌, ◌++◌, map, append_assoc, append-nil}
use Prim.Native.Nat.{ℕ, zero, suc, ◌+◌, ◌-◌, ◌*◌, ◌/◌, ◌%◌, ◌≤◌}
use native.Mathlib.Omega.{arith}
use borrow.Author.Tests.{eqb-true, eq-eqb, ne_eqb, le-ltb, lt-leb, not-false}
use lib.Dec.{ltb, leb, eqb}
use lib.ListN.{length, get_or, drop}
use Rattle.lists.specs.Searched.{some_of, some_to, same, keep}
use Rattle.lists.proofs.Strikes.{keep_ext, keep_all, keep_none}
use Rattle.lists.proofs.Tests.{or_left, or_right, below_within, to_clear, to_at}
use Rattle.answers.specs.Answer.{Row, first_that_applies, answer_of, answer}
use Rattle.answers.specs.Length.{bad_length}
use Rattle.answers.specs.Voice.{bad_voice}
use Rattle.answers.proofs.Refusals.{row_applies, row_passed, row_clear, rows_tail, answer_number}
use Rattle.grammar.specs.Trees.{leaf, sentence}
use Rattle.counting.specs.Refusals.{too_large, open_rows, prepared_rows}
use Rattle.ranking.specs.Answers.{full_list, total_of, readings_of}
use Rattle.history.specs.Layout.{records_of, head_of, record_at, length_of, fourth_of, voice_of, played_of, record_words}
use Rattle.history.specs.Chain.{numbers}
use Rattle.history.specs.Refusals.{bad_size, some_nonzero, misfit, bad_record, bad_link, bad_chain, history_rows}
use Rattle.history.specs.Heard.{makes_heard, has_sentence, heard}
use Rattle.history.specs.Playback.{playback, bad_played}
use Rattle.history.specs.Writing.{fourth_byte, appended}
use Rattle.history.specs.Answers.{check_history, no_room, append_of}
use Rattle.history.proofs.Chain.{numbers_inside}
use Rattle.sampling.specs.Pattern.{bad_pattern}
use Rattle.sampling.specs.Question.{plainly}
use Rattle.sampling.specs.Unheard.{Entry, entries_from, outside, unheard, total_for, distinct, of_length, heard_of, left_of, ambiguous}
use Rattle.sampling.specs.Answers.{asked_rows, remaining_rows, remaining_to, remaining_of, drawn, draw_to, draw_of}
use Rattle.sampling.proofs.Blanks.{unpatterned}
use Rattle.pumpfennel.specs.Former.{Earlier, misfit_by, rows_by, sentences_by, heard_by, counted_by, rest_by, left_rows_by, left_by, drawn_by, draw_rows_by, draw_by, check_by, log_by, unvoiced, FormerVoice, AllZero, FormerVoices, unbroken, FormerPlayback, AllFull, FormerPlaybacks}

-- 23 passes all words played: a sentence that has no word is refused before
full_passes : (s : List ℕ) (v : ℕ) (later : List Row)
    → first_that_applies ((bad_length (length s), 9) ∷ (bad_voice v, 22) ∷ (bad_played (playback s v 0), 23) ∷ later)
    ≡ first_that_applies ((bad_length (length s), 9) ∷ (bad_voice v, 22) ∷ later)
unfolding bad_length
full_passes [] v later = row_applies 9 _ refl ∙ sym (row_applies 9 _ refl)
full_passes (x ∷ s) v later =
    rows_tail ((bad_length (length (x ∷ s)), 9) ∷ (bad_voice v, 22) ∷ []) _ later (row_passed 23 later (lt-leb (length (x ∷ s)) 0 (omega arith)))

-- 21 passes no pattern
past_pattern : (g : List ℕ) (n v : ℕ) (later : List Row)
    → first_that_applies (asked_rows g (plainly n v) ++ later) ≡ first_that_applies (open_rows g n ++ ((bad_voice v, 22) ∷ (too_large g n, 10) ∷ later))
unfolding bad_pattern
past_pattern g n v later =
    rows_tail (open_rows g n ++ ((bad_voice v, 22) ∷ (too_large g n, 10) ∷ [])) ((false, 21) ∷ later) later (row_passed 21 later refl)

-- a reading of fourth bytes that says of each record what is said now, in a voice
module _ (f : Earlier) (h : List ℕ) (v : ℕ)
    (fit : (r : ℕ) → 1 ≤ r → r ≤ records_of h → misfit h (record_at r) ≡ misfit_by f h (record_at r))
    (hear : (r : ℕ) → 1 ≤ r → r ≤ records_of h → makes_heard h v r ≡ f.hears (fourth_of h r)) where
  rows_by_lem : history_rows h ≡ rows_by f h
  unfolding bad_record
  rows_by_lem =
      let e = below_within (λ i. misfit h (record_at (suc i))) (λ i. misfit_by f h (record_at (suc i))) (records_of h) (λ i l. fit (suc i) (omega arith) l) in
      ap (λ (b : Bool). (bad_size h, 11) ∷ (b, 12) ∷ (bad_link h, 13) ∷ (bad_chain h, 14) ∷ []) e

  heard_by_lem : (s : List ℕ) → heard h v s ≡ heard_by f h s
  unfolding heard
  heard_by_lem s =
      below_within (λ i. has_sentence h v (suc i) s) (λ i. f.hears (fourth_of h (suc i)) && same (record_words h (suc i)) s) (records_of h)
      (λ i l. ap (λ (b : Bool). b && same (record_words h (suc i)) s) (hear (suc i) (omega arith) l))

  sentences_by_lem : (n : ℕ) → of_length h (plainly n v) ≡ sentences_by f h n
  sentences_by_lem n =
      ap (λ (l : List ℕ). keep (λ s. eqb (length s) n) (map (record_words h) l))
      (keep_ext (makes_heard h v) (λ r. f.hears (fourth_of h r)) (numbers h) (λ r m. let q = numbers_inside h (head_of h) m in hear r q.0 q.1))

  module _ (g : List ℕ) (n : ℕ) where
    total_by_lem : total_for g (plainly n v) ≡ total_of g n
    total_by_lem = (unpatterned g h n v).total

    counted_by_lem : heard_of g h (plainly n v) ≡ counted_by f g h n
    counted_by_lem = (unpatterned g h n v).heard ∙ ap (λ (l : List (List ℕ)). length (distinct (keep (λ s. eqb (readings_of g s) 1) l))) (sentences_by_lem n)

    drawn_by_lem : (q : ℕ) → drawn g h (plainly n v) q ≡ drawn_by f g h n q
    unfolding unheard
    drawn_by_lem q =
        ap (λ (l : List Entry). get_or l q (record { number = 0; tree = leaf 0 0 }))
        (keep_ext (λ (e : Entry). outside h v e.tree) (λ (e : Entry). not (heard_by f h (sentence e.tree))) (entries_from 0 (full_list g n))
        (λ e m. ap not (heard_by_lem (sentence e.tree))))

    -- the lines before 11, of which the same applies
    module _ (begun : (later : List Row) → first_that_applies (asked_rows g (plainly n v) ++ later) ≡ first_that_applies (f.opening g n ++ later)) where
      first_by : (later : List Row) → first_that_applies (remaining_rows g h (plainly n v) ++ later) ≡ first_that_applies (left_rows_by f g h n ++ later)
      unfolding ambiguous
      first_by later =
          let behind = rows_by f h ++ ((some_of (λ s. leb 2 (readings_of g s)) (sentences_by f h n), 15) ∷ []) in
          ap (λ (rows : List Row). first_that_applies (asked_rows g (plainly n v) ++ (rows ++ ((ambiguous g h (plainly n v), 15) ∷ later)))) rows_by_lem
          ∙ ap (λ (l : List (List ℕ)). first_that_applies (asked_rows g (plainly n v) ++ (rows_by f h ++ ((some_of (λ s. leb 2 (readings_of g s)) l, 15) ∷ later))))
          (sentences_by_lem n)
          ∙ begun (behind ++ later)
          ∙ sym (ap first_that_applies (append_assoc (f.opening g n) behind later))

      left_by_lem : remaining_of g h n v ≡ left_by f g h n
      unfolding remaining_to
      left_by_lem =
          ap (λ (k : ℕ). answer_of k (total_for g (plainly n v) ∷ heard_of g h (plainly n v) ∷ left_of g h (plainly n v) ∷ []) [] []) (first_by [] ∙ ap first_that_applies (append-nil (left_rows_by f g h n)))
          ∙ ap (λ (t : ℕ). answer (left_rows_by f g h n) (t ∷ heard_of g h (plainly n v) ∷ (t - heard_of g h (plainly n v)) ∷ []) [] []) total_by_lem
          ∙ ap (λ (k : ℕ). answer (left_rows_by f g h n) (total_of g n ∷ k ∷ (total_of g n - k) ∷ []) [] []) counted_by_lem

      draw_by_lem : (q : ℕ) (out : List ℕ) → draw_of g h n v q out ≡ draw_by f g h n q out
      unfolding draw_to
      draw_by_lem q out =
          ap (λ (k : ℕ). answer_of k (left_of g h (plainly n v) ∷ (drawn g h (plainly n v) q).number ∷ []) out (sentence (drawn g h (plainly n v) q).tree ++ drop n out))
          (first_by ((leb (left_of g h (plainly n v)) q, 16) ∷ (ltb (length out) n, 20) ∷ []))
          ∙ ap (λ (t : ℕ). answer (left_rows_by f g h n ++ ((leb (t - heard_of g h (plainly n v)) q, 16) ∷ (ltb (length out) n, 20) ∷ []))
          ((t - heard_of g h (plainly n v)) ∷ (drawn g h (plainly n v) q).number ∷ []) out (sentence (drawn g h (plainly n v) q).tree ++ drop n out))
          total_by_lem
          ∙ ap (λ (k : ℕ). answer (left_rows_by f g h n ++ ((leb (total_of g n - k) q, 16) ∷ (ltb (length out) n, 20) ∷ [])) ((total_of g n - k) ∷ (drawn g h (plainly n v) q).number ∷ [])
          out (sentence (drawn g h (plainly n v) q).tree ++ drop n out))
          counted_by_lem
          ∙ ap (λ (e : Entry). answer (draw_rows_by f g h n q out) (rest_by f g h n ∷ e.number ∷ []) out (sentence e.tree ++ drop n out)) (drawn_by_lem q)

  -- *Check diary*, and *Log* of a sentence played in full, of whose lines before 11 the same applies
  check_by_lem : check_history h ≡ check_by f h
  unfolding check_history
  check_by_lem = ap (λ (rows : List Row). answer rows (records_of h ∷ []) [] []) rows_by_lem

  log_by_lem : (opening : List Row) (s : List ℕ)
      → ((later : List Row) → first_that_applies ((bad_length (length s), 9) ∷ (bad_voice v, 22) ∷ later) ≡ first_that_applies (opening ++ later))
      → append_of h (playback s v 0) ≡ log_by f opening (16 * v) h s
  unfolding append_of appended
  log_by_lem opening s begun =
      let p = playback s v 0 in
      let fourth : fourth_byte p ≡ 16 * v = omega arith in
      ap (λ (k : ℕ). answer_of k (suc (records_of h) ∷ []) h (appended h p))
      (full_passes s v (history_rows h ++ ((no_room h, 19) ∷ [])) ∙ begun (history_rows h ++ ((no_room h, 19) ∷ [])))
      ∙ ap (λ (rows : List Row). answer (opening ++ (rows ++ ((no_room h, 19) ∷ []))) (suc (records_of h) ∷ []) h (appended h p)) rows_by_lem
      ∙ rw fourth

-- a reading that lets the fourth byte of a record pass which was played in full: 12 says the same of it
fits_full : (f : Earlier) (h : List ℕ) (r : ℕ) → played_of h r ≡ 0 → f.passes (fourth_of h r) ≡ true → misfit h (record_at r) ≡ misfit_by f h (record_at r)
unfolding misfit bad_length
fits_full f h r full passed = rw (full, passed) (go (length_of h r) (some_nonzero h (record_at r + 4 + length_of h r) (16 - length_of h r)))
  where
    go : (n : ℕ) (beyond : Bool) → (bad_length n || (leb n 0 || beyond)) ≡ (bad_length n || beyond)
    go zero beyond = refl
    go (suc n) beyond = rw (lt-leb (suc n) 0 (omega arith))

-- and it makes its sentence heard in its voice
hears_full : (h : List ℕ) (v r : ℕ) → played_of h r ≡ 0 → makes_heard h v r ≡ eqb (voice_of h r) v
unfolding makes_heard
hears_full h v r full = rw full (and-true (eqb (voice_of h r) v))

-- what 12 let pass
was_passed : (f : Earlier) (h : List ℕ) → (check_by f h).refusal ≡ 0 → (r : ℕ) → 1 ≤ r → r ≤ records_of h → f.passes (fourth_of h r) ≡ true
was_passed f h ok r l m =
    let none = sym (answer_number (first_that_applies (rows_by f h)) (records_of h ∷ []) [] []) ∙ ok in
    let bad = some_to (λ q. misfit_by f h (record_at q)) (records_of h) in
    let a = row_clear 11 ((bad, 12) ∷ (bad_link h, 13) ∷ (bad_chain h, 14) ∷ []) (bad_size h) (omega arith) none in
    let b = row_clear 12 ((bad_link h, 13) ∷ (bad_chain h, 14) ∷ []) bad (omega arith) a.1 in
    let fit = to_at (λ q. misfit_by f h (record_at q)) (records_of h) r b.0 l m in
    let n = length_of h r in
    let fourth = not (f.passes (fourth_of h r)) in
    let beyond = some_nonzero h (record_at r + 4 + n) (16 - n) in
    not-false _ (or_left fourth beyond (or_right (bad_length n) (fourth || beyond) fit))

-- ---- U4: every record has the fourth byte 0

-- 22 passes voice 0
past_voice : (rows later : List Row) → first_that_applies (rows ++ ((bad_voice 0, 22) ∷ later)) ≡ first_that_applies (rows ++ later)
past_voice rows later = rows_tail rows ((bad_voice 0, 22) ∷ later) later (row_passed 22 later (le-ltb 15 0 (omega arith)))

begun : (g : List ℕ) (n : ℕ) (later : List Row) → first_that_applies (asked_rows g (plainly n 0) ++ later) ≡ first_that_applies (prepared_rows g n ++ later)
begun g n later = past_pattern g n 0 later ∙ past_voice (open_rows g n) ((too_large g n, 10) ∷ later)

module _ (h : List ℕ) (zero_all : AllZero h) where
  zero_full : (r : ℕ) → 1 ≤ r → r ≤ records_of h → played_of h r ≡ 0
  zero_full r l m = ap (λ (x : ℕ). x % 16) (zero_all r l m)

  fit_zero : (r : ℕ) → 1 ≤ r → r ≤ records_of h → misfit h (record_at r) ≡ misfit_by unvoiced h (record_at r)
  fit_zero r l m = fits_full unvoiced h r (zero_full r l m) (eq-eqb (fourth_of h r) 0 (zero_all r l m))

  hear_zero : (v r : ℕ) → 1 ≤ r → r ≤ records_of h → makes_heard h v r ≡ eqb 0 v
  hear_zero v r l m = hears_full h v r (zero_full r l m) ∙ ap (λ (x : ℕ). eqb (x / 16) v) (zero_all r l m)

  no_other : (v : ℕ) → v ≢ 0 → eqb 0 v ≡ false
  no_other v n = ne_eqb 0 v (λ e. n (sym e))

  others : (v : ℕ) → v ≢ 0 → (s : List ℕ) → heard h v s ≡ false
  unfolding heard
  others v n s =
      to_clear (λ r. has_sentence h v r s) (records_of h)
      (λ r l m. ap (λ (b : Bool). b && same (record_words h r) s) (hear_zero v r l m ∙ no_other v n))

  none : (v : ℕ) → v ≢ 0 → (g : List ℕ) (n : ℕ) → heard_of g h (plainly n v) ≡ 0
  unfolding heard_of
  none v n g m =
      rw
      (keep_none (makes_heard h v) (numbers h)
      (λ r i. let q = numbers_inside h (head_of h) i in hear_zero v r q.0 q.1 ∙ no_other v n))

  voices_stay : FormerVoice h
  voices_stay =
      let hear = hear_zero 0 in
      record {
        check = check_by_lem unvoiced h 0 fit_zero hear;
        left = λ g n. left_by_lem unvoiced h 0 fit_zero hear g n (begun g n);
        draw = λ g n. draw_by_lem unvoiced h 0 fit_zero hear g n (begun g n);
        log = λ s. log_by_lem unvoiced h 0 fit_zero hear ((bad_length (length s), 9) ∷ []) s (past_voice ((bad_length (length s), 9) ∷ []));
        others = others;
        none = none;
      }

pub former_voices : FormerVoices
former_voices = record {
  stay = voices_stay;
  old = λ h ok r l m. eqb-true (fourth_of h r) 0 (was_passed unvoiced h ok r l m);
  sentences = λ h n. ap (λ (l : List ℕ). keep (λ s. eqb (length s) n) (map (record_words h) l)) (keep_all (λ r. true) (numbers h) (λ r m. refl));
  heard = λ h s. refl;
}

-- ---- U5: every record was played in full

module _ (h : List ℕ) (full : AllFull h) (v : ℕ) where
  fit_all : (r : ℕ) → 1 ≤ r → r ≤ records_of h → misfit h (record_at r) ≡ misfit_by (unbroken v) h (record_at r)
  fit_all r l m = fits_full (unbroken v) h r (full r l m) (eq-eqb (played_of h r) 0 (full r l m))

  hear_all : (r : ℕ) → 1 ≤ r → r ≤ records_of h → makes_heard h v r ≡ eqb (voice_of h r) v
  hear_all r l m = hears_full h v r (full r l m)

  playbacks_stay : FormerPlayback h v
  playbacks_stay = record {
    check = check_by_lem (unbroken v) h v fit_all hear_all;
    left = λ g n. left_by_lem (unbroken v) h v fit_all hear_all g n (past_pattern g n v);
    draw = λ g n. draw_by_lem (unbroken v) h v fit_all hear_all g n (past_pattern g n v);
    log = λ s. log_by_lem (unbroken v) h v fit_all hear_all ((bad_length (length s), 9) ∷ (bad_voice v, 22) ∷ []) s (λ later. refl);
  }

pub former_playbacks : FormerPlaybacks
former_playbacks = record {
  stay = playbacks_stay;
  old = λ h v ok r l m. eqb-true (played_of h r) 0 (was_passed (unbroken v) h ok r l m);
}
