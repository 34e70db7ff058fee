-- What *Check diary* and *Log* answer, as their tests are made one after another: the refusal is the first of the lines not yet passed.
-- Assumes nothing.
use mathlib.Core.Path.{◌≡◌, refl, sym, ap, ◌∙◌}
use mathlib.Core.Bool.{Bool, true, false}
use mathlib.Core.List.{List, [], ◌∷◌, ◌++◌}
use Prim.Native.Nat.{ℕ, suc, ◌+◌, ◌*◌, ◌≤◌, ◌<◌}
use native.Mathlib.Omega.{arith}
use borrow.Author.Tests.{lt-ltb, le-ltb, lt-leb, le-leb, eq-eqb, ne_eqb}
use lib.ListN.{length, get_or, drop}
use lib.Dec.{ltb, eqb, lit<}
use Rattle.lists.proofs.Tests.{within_low, within_high, within_both, or_true}
use Rattle.answers.specs.Answer as answer
use Rattle.answers.specs.Answer.{Answer, first_that_applies}
use Rattle.answers.specs.Inner.Refusals.{refusal_number}
use Rattle.answers.specs.declared.refusal.Refusal.{Refusal}
use Rattle.answers.specs.declared.refusal.Refusal.TheVariants.{HistoryWrongSize, HistoryBadRecord, HistoryBadLink, HistoryBadChain}
use Rattle.answers.specs.Length.{bad_length}
use Rattle.answers.specs.Voice.{bad_voice}
use Rattle.answers.proofs.Refusals.{row_applies, row_passed, rows_stop, rows_pass, answer_number, answer_accepted, answer_refused}
use Rattle.std.specs.Prelude.{Ok, Err, Some, None}
use Rattle.history.specs.Layout.{records_of}
use Rattle.history.specs.Refusals.{bad_size, bad_link, bad_chain, history_rows, history_refusal, Accepted}
use Rattle.history.specs.Playback.{Playback, bad_played}
use Rattle.history.specs.Writing.{appended}
use Rattle.history.specs.Answers.{check_history, no_room, append_rows, append_of}
use Rattle.history.specs.Inner.Checks.{Sized, TestedAs}
use Rattle.history.specs.Inner.Says.{history_says}
use Rattle.history.proofs.Acceptance.{size_facts, known}

-- ---- *Check diary*

-- the first k lines don't apply
abbrev pub Passed : List ℕ → ℕ → Type 0
Passed h k = history_refusal h ≡ first_that_applies (drop k (history_rows h))

refused : (h : List ℕ) (n : ℕ) → history_refusal h ≡ n → 0 < n → answer.refused n 1 [] ≡ check_history h
unfolding check_history
refused h n e l = rw e (sym (answer_refused n (records_of h ∷ []) [] [] l))

accepted : (h : List ℕ) → Passed h 4 → answer.given (records_of h ∷ []) [] ≡ check_history h
unfolding check_history first_that_applies
accepted h e = sym (answer_accepted (records_of h ∷ []) [] [] e)

pub by_size : (h : List ℕ) → true ≡ bad_size h → history_says (Err HistoryWrongSize) ≡ check_history h
by_size h e = refused h 11 (row_applies 11 _ (sym e)) (lit< tt)

module _ (h : List ℕ) (size : false ≡ bad_size h) where
  pub sized : {k : ℕ} → k ≡ records_of h → Sized h k
  sized e = rw e (size_facts h (sym size))

  pub by_record : TestedAs h None → history_says (Err HistoryBadRecord) ≡ check_history h
  by_record t = refused h 12 (row_passed 11 _ (sym size) ∙ row_applies 12 _ t) (lit< tt)

  module _ {far : Bool} (records : TestedAs h (Some far)) where
    past_records : Passed h 2
    past_records = row_passed 11 _ (sym size) ∙ row_passed 12 _ records.0

    pub by_link : far ≡ true → history_says (Err HistoryBadLink) ≡ check_history h
    by_link e = refused h 13 (past_records ∙ row_applies 13 _ (sym records.1 ∙ e)) (lit< tt)

    module _ (near : far ≡ false) where
      pub linked : bad_link h ≡ false
      linked = sym records.1 ∙ near

      past_links : Passed h 3
      past_links = past_records ∙ row_passed 13 _ linked

      pub by_chain : true ≡ bad_chain h → history_says (Err HistoryBadChain) ≡ check_history h
      by_chain e = refused h 14 (past_links ∙ row_applies 14 _ (sym e)) (lit< tt)

      pub counted : false ≡ bad_chain h → {k : ℕ} → k ≡ records_of h → history_says (Ok k) ≡ check_history h
      counted e f = rw f (accepted h (past_links ∙ row_passed 14 _ (sym e)))

check_number : (h : List ℕ) {a : Answer} → a ≡ check_history h → a.refusal ≡ history_refusal h
unfolding check_history
check_number h e = ap (λ (x : Answer). x.refusal) e ∙ answer_number (history_refusal h) (records_of h ∷ []) [] []

check_figures : (h : List ℕ) {a : Answer} → a ≡ check_history h → Accepted h → a.figures ≡ records_of h ∷ []
unfolding check_history
check_figures h e ok = ap (λ (x : Answer). x.figures) (e ∙ answer_accepted (records_of h ∷ []) [] [] ok)

-- the history is accepted, and K is k
pub record Counted (h : List ℕ) (k : ℕ) : Type 0 where
  pub accepted : Accepted h
  pub count : k ≡ records_of h
  pub sized : Sized h (records_of h)

-- what each case of the answer says
pub check_accepted : (h : List ℕ) {k : ℕ} → history_says (Ok k) ≡ check_history h → Counted h k
check_accepted h {k} e =
    let ok : Accepted h = sym (check_number h e) in
    record { accepted = ok; count = ap (λ (l : List ℕ). get_or l 0 0) (check_figures h e ok); sized = (known h ok).sized }

pub check_refused : (h : List ℕ) (r : Refusal) → history_says (Err r) ≡ check_history h → history_refusal h ≡ refusal_number r
check_refused h r e = sym (check_number h e)

-- ---- *Log*

module _ (h : List ℕ) (p : Playback) where
  -- the refusal, with the bytes as they were
  log_refused : (n : ℕ) → first_that_applies (append_rows h p) ≡ n → 0 < n → answer.refused n 1 h ≡ append_of h p
  unfolding append_of
  log_refused n e l = rw e (sym (answer_refused n (suc (records_of h) ∷ []) h (appended h p) l))

  length_low : length p.words < 1 → bad_length (length p.words) ≡ true
  unfolding bad_length
  length_low l = within_low 1 16 (length p.words) l

  length_high : 16 < length p.words → bad_length (length p.words) ≡ true
  unfolding bad_length
  length_high l = within_high 1 16 (length p.words) l

  pub log_low : length p.words < 1 → answer.refused 9 1 h ≡ append_of h p
  log_low l = log_refused 9 (row_applies 9 _ (length_low l)) (lit< tt)

  pub log_high : 16 < length p.words → answer.refused 9 1 h ≡ append_of h p
  log_high l = log_refused 9 (row_applies 9 _ (length_high l)) (lit< tt)

  module _ (some : 1 ≤ length p.words) (short : length p.words ≤ 16) where
    past_length : first_that_applies (append_rows h p)
        ≡ first_that_applies ((bad_voice p.voice, 22) ∷ (bad_played p, 23) ∷ (history_rows h ++ ((no_room h, 19) ∷ [])))
    unfolding bad_length
    past_length = row_passed 9 _ (within_both 1 16 (length p.words) some short)

    pub log_voice : 15 < p.voice → answer.refused 22 1 h ≡ append_of h p
    log_voice l = log_refused 22 (past_length ∙ row_applies 22 _ (lt-ltb 15 p.voice l)) (lit< tt)

    module _ (voiced : p.voice ≤ 15) where
      past_voice : first_that_applies (append_rows h p) ≡ first_that_applies ((bad_played p, 23) ∷ (history_rows h ++ ((no_room h, 19) ∷ [])))
      past_voice = past_length ∙ row_passed 22 _ (le-ltb 15 p.voice voiced)

      pub log_played : length p.words ≤ p.played → answer.refused 23 1 h ≡ append_of h p
      log_played l = log_refused 23 (past_voice ∙ row_applies 23 _ (le-leb (length p.words) p.played l)) (lit< tt)

      module _ (fewer : p.played < length p.words) where
        past_played : first_that_applies (append_rows h p) ≡ first_that_applies (history_rows h ++ ((no_room h, 19) ∷ []))
        past_played = past_voice ∙ row_passed 23 _ (lt-leb (length p.words) p.played fewer)

        pub log_history : (n : ℕ) → history_refusal h ≡ n → 0 < n → answer.refused n 1 h ≡ append_of h p
        log_history n e l = log_refused n (past_played ∙ rows_stop (history_rows h) _ (omega arith) ∙ e) l

        past_history : Accepted h → first_that_applies (append_rows h p) ≡ first_that_applies ((no_room h, 19) ∷ [])
        past_history ok = past_played ∙ rows_pass (history_rows h) _ refl ok

        pub log_room : Accepted h → no_room h ≡ true → answer.refused 19 1 h ≡ append_of h p
        log_room ok e = log_refused 19 (past_history ok ∙ row_applies 19 [] e) (lit< tt)

        pub log_accepted : {k : ℕ} {after : List ℕ} → Accepted h → no_room h ≡ false → k ≡ suc (records_of h) → after ≡ appended h p
            → answer.given (k ∷ []) after ≡ append_of h p
        unfolding append_of first_that_applies
        log_accepted ok r e f = rw (e, f) (sym (answer_accepted (suc (records_of h) ∷ []) h (appended h p) (past_history ok ∙ row_passed 19 [] r)))

-- 19, from what the code has tested
module _ (h : List ℕ) where
  pub room_full : records_of h ≡ 1000 → no_room h ≡ true
  unfolding no_room
  room_full e = rw (eq-eqb (records_of h) 1000 e)

  pub room_short : length h < 4 + 20 * suc (records_of h) → no_room h ≡ true
  unfolding no_room
  room_short l = or_true (eqb (records_of h) 1000) (ltb (length h) (4 + 20 * suc (records_of h))) (lt-ltb (length h) (4 + 20 * suc (records_of h)) l)

  pub room_there : (records_of h ≡ 1000 → ⊥) → 4 + 20 * suc (records_of h) ≤ length h → no_room h ≡ false
  unfolding no_room
  room_there n l = rw (ne_eqb (records_of h) 1000 n, le-ltb (length h) (4 + 20 * suc (records_of h)) l)
