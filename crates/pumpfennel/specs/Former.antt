-- What the calls answered before document 02's requests changed them, where a request says that it stays.
-- Assumes nothing: these are definitions.
use Rattle.std.specs.Prelude.{◌≡◌, ◌≢◌, Bool, true, false, cond, not, ◌&&◌, ◌||◌, List, [], ◌∷◌, ◌++◌, map, ℕ, suc, ◌+◌, ◌-◌, ◌*◌, ◌/◌, ◌%◌, ◌≤◌, ltb, leb, eqb, length, get_or, drop}
use Rattle.lists.specs.Searched.{some_of, some_to, same, keep}
use Rattle.answers.specs.Answer.{Row, Answer, given, refused, answer}
use Rattle.answers.specs.Length.{bad_length}
use Rattle.answers.specs.Voice.{bad_voice}
use Rattle.grammar.specs.Trees.{leaf, sentence}
use Rattle.counting.specs.Refusals.{too_large, open_rows, prepared_rows, former_too_large}
use Rattle.counting.specs.Answers.{count_of}
use Rattle.ranking.specs.Answers.{full_list, total_of, entry_of, readings_of, number_of, unrank_rows, unrank_of, rank_of}
use Rattle.history.specs.Layout.{records_of, head_of, record_at, fourth_of, played_of, record_words}
use Rattle.history.specs.Chain.{numbers}
use Rattle.history.specs.Refusals.{bad_size, some_nonzero, bad_link, bad_chain}
use Rattle.history.specs.Heard.{heard}
use Rattle.history.specs.Playback.{playback}
use Rattle.history.specs.Writing.{overwritten, two_bytes, record_bytes}
use Rattle.history.specs.Answers.{check_history, no_room, append_of}
use Rattle.sampling.specs.Question.{plainly}
use Rattle.sampling.specs.Unheard.{Entry, entries_from, distinct, heard_of}
use Rattle.sampling.specs.Answers.{remaining_of, draw_of}

-- ---- a history before U4 and U5

-- What *Left* and *Draw* did otherwise: the lines before 11, whether 12 let a record's fourth byte pass, and whether such a record made its sentence heard.
pub record Earlier : Type 0 where
  pub opening : (g : List ℕ) (n : ℕ) → List Row
  pub passes : ℕ → Bool
  pub hears : ℕ → Bool

-- the history's refusals, its sentences of n words and what is heard, by that reading
abbrev pub misfit_by : (f : Earlier) (h : List ℕ) (at : ℕ) → Bool
misfit_by f h at =
    let n = get_or h (at + 2) 0 in
    bad_length n || (not (f.passes (get_or h (at + 3) 0)) || some_nonzero h (at + 4 + n) (16 - n))

abbrev pub rows_by : (f : Earlier) (h : List ℕ) → List Row
rows_by f h = (bad_size h, 11) ∷ (some_to (λ r. misfit_by f h (record_at r)) (records_of h), 12) ∷ (bad_link h, 13) ∷ (bad_chain h, 14) ∷ []

abbrev pub sentences_by : (f : Earlier) (h : List ℕ) (n : ℕ) → List (List ℕ)
sentences_by f h n = keep (λ s. eqb (length s) n) (map (record_words h) (keep (λ r. f.hears (fourth_of h r)) (numbers h)))

abbrev pub heard_by : (f : Earlier) (h s : List ℕ) → Bool
heard_by f h s = some_to (λ r. f.hears (fourth_of h r) && same (record_words h r) s) (records_of h)

-- *Left*: "heard (distinct heard sentences of that length with one derivation) and left = T - heard"
abbrev pub counted_by : (f : Earlier) (g h : List ℕ) (n : ℕ) → ℕ
counted_by f g h n = length (distinct (keep (λ s. eqb (readings_of g s) 1) (sentences_by f h n)))

abbrev pub rest_by : (f : Earlier) (g h : List ℕ) (n : ℕ) → ℕ
rest_by f g h n = total_of g n - counted_by f g h n

-- "15. A diary sentence of the named length has two or more derivations from S (*Left*, *Draw*)."
abbrev pub left_rows_by : (f : Earlier) (g h : List ℕ) (n : ℕ) → List Row
left_rows_by f g h n = f.opening g n ++ (rows_by f h ++ ((some_of (λ s. leb 2 (readings_of g s)) (sentences_by f h n), 15) ∷ []))

abbrev pub left_by : (f : Earlier) (g h : List ℕ) (n : ℕ) → Answer
left_by f g h n = answer (left_rows_by f g h n) (total_of g n ∷ counted_by f g h n ∷ rest_by f g h n ∷ []) [] []

-- *Draw*: "the derivation with an unheard sentence that has exactly q such derivations before it"
abbrev pub drawn_by : (f : Earlier) (g h : List ℕ) (n q : ℕ) → Entry
drawn_by f g h n q = get_or (keep (λ e. not (heard_by f h (sentence e.tree))) (entries_from 0 (full_list g n))) q (record { number = 0; tree = leaf 0 0 })

abbrev pub draw_rows_by : (f : Earlier) (g h : List ℕ) (n q : ℕ) (out : List ℕ) → List Row
draw_rows_by f g h n q out = left_rows_by f g h n ++ ((leb (rest_by f g h n) q, 16) ∷ (ltb (length out) n, 20) ∷ [])

abbrev pub draw_by : (f : Earlier) (g h : List ℕ) (n q : ℕ) (out : List ℕ) → Answer
draw_by f g h n q out =
    answer (draw_rows_by f g h n q out) (rest_by f g h n ∷ (drawn_by f g h n q).number ∷ []) out (sentence (drawn_by f g h n q).tree ++ drop n out)

-- *Check diary*, and *Log*, by its lines before 11 and the fourth byte that it wrote
abbrev pub check_by : (f : Earlier) (h : List ℕ) → Answer
check_by f h = answer (rows_by f h) (records_of h ∷ []) [] []

abbrev pub log_by : (f : Earlier) (opening : List Row) (fourth : ℕ) (h s : List ℕ) → Answer
log_by f opening fourth h s =
    let new = suc (records_of h) in
    answer (opening ++ (rows_by f h ++ ((no_room h, 19) ∷ []))) (new ∷ []) h
    (overwritten (overwritten (overwritten h (record_at new) (record_bytes (head_of h) fourth s)) 0 (two_bytes new)) 2 (two_bytes new))

-- ---- U4: "Old diaries read as voice 0"

-- as U4 found them: "12. Some record has [..] a fourth byte that is not 0", and "A sentence is heard if a record has its length and words."
abbrev pub unvoiced : Earlier
unvoiced = record { opening = prepared_rows; passes = λ x. eqb x 0; hears = λ x. true }

-- "one byte 0"
abbrev pub unvoiced_log : (h s : List ℕ) → Answer
unvoiced_log h s = log_by unvoiced ((bad_length (length s), 9) ∷ []) 0 h s

-- a history whose records all have the fourth byte 0 has its former answers in voice 0, played in full, and in every other voice nothing is heard
pub record FormerVoice (h : List ℕ) : Type 0 where
  pub check : check_history h ≡ check_by unvoiced h
  pub left : (g : List ℕ) (n : ℕ) → remaining_of g h n 0 ≡ left_by unvoiced g h n
  pub draw : (g : List ℕ) (n q : ℕ) (out : List ℕ) → draw_of g h n 0 q out ≡ draw_by unvoiced g h n q out
  pub log : (s : List ℕ) → append_of h (playback s 0 0) ≡ unvoiced_log h s
  pub others : (v : ℕ) → v ≢ 0 → (s : List ℕ) → heard h v s ≡ false
  pub none : (v : ℕ) → v ≢ 0 → (g : List ℕ) (n : ℕ) → heard_of g h (plainly n v) ≡ 0

abbrev pub AllZero : List ℕ → Type 0
AllZero h = (r : ℕ) → 1 ≤ r → r ≤ records_of h → fourth_of h r ≡ 0

pub record FormerVoices : Type 0 where
  pub stay : (h : List ℕ) → AllZero h → FormerVoice h
  -- every history that was accepted is such a one
  pub old : (h : List ℕ) → (check_by unvoiced h).refusal ≡ 0 → AllZero h
  -- the former texts: the sentences were those of all records along the chain, and heard was that "a record has its length and words"
  pub sentences : (h : List ℕ) (n : ℕ) → sentences_by unvoiced h n ≡ keep (λ s. eqb (length s) n) (map (record_words h) (numbers h))
  pub heard : (h s : List ℕ) → heard_by unvoiced h s ≡ some_to (λ r. same (record_words h r) s) (records_of h)

-- ---- U5: a history without a record that was broken off

-- as U5 found them, in the voice v: "Refusal 12 no longer minds the high four bits", and "A sentence is heard only if words and voice both agree."
abbrev pub unbroken : (v : ℕ) → Earlier
unbroken v = record { opening = λ g n. open_rows g n ++ ((bad_voice v, 22) ∷ (too_large g n, 10) ∷ []); passes = λ x. eqb (x % 16) 0; hears = λ x. eqb (x / 16) v }

-- "The high four bits of a record's fourth byte hold it."
abbrev pub unbroken_log : (h s : List ℕ) (v : ℕ) → Answer
unbroken_log h s v = log_by (unbroken v) ((bad_length (length s), 9) ∷ (bad_voice v, 22) ∷ []) (16 * v) h s

-- it has its former answers, in every voice, and a *Log* of a sentence played in full does what it did
pub record FormerPlayback (h : List ℕ) (v : ℕ) : Type 0 where
  pub check : check_history h ≡ check_by (unbroken v) h
  pub left : (g : List ℕ) (n : ℕ) → remaining_of g h n v ≡ left_by (unbroken v) g h n
  pub draw : (g : List ℕ) (n q : ℕ) (out : List ℕ) → draw_of g h n v q out ≡ draw_by (unbroken v) g h n q out
  pub log : (s : List ℕ) → append_of h (playback s v 0) ≡ unbroken_log h s v

abbrev pub AllFull : List ℕ → Type 0
AllFull h = (r : ℕ) → 1 ≤ r → r ≤ records_of h → played_of h r ≡ 0

pub record FormerPlaybacks : Type 0 where
  pub stay : (h : List ℕ) → AllFull h → (v : ℕ) → FormerPlayback h v
  -- every history that was accepted is such a one
  pub old : (h : List ℕ) (v : ℕ) → (check_by (unbroken v) h).refusal ≡ 0 → AllFull h

-- ---- U6: "A sentence with one derivation has its former number."

-- "17. The sentence has no derivation from S (*Number*)." "18. The sentence has two or more derivations from S (*Number*)."
abbrev pub former_number_rows : (g s : List ℕ) → List Row
former_number_rows g s = prepared_rows g (length s) ++ ((eqb (readings_of g s) 0, 17) ∷ (leb 2 (readings_of g s), 18) ∷ [])

-- "*Number* (bank, sentence) gives its derivation number and T."
abbrev pub former_number : (g s : List ℕ) → Answer
former_number g s = answer (former_number_rows g s) (number_of g s ∷ total_of g (length s) ∷ []) [] []

pub record FormerNumbers : Type 0 where
  -- a sentence that had a number has it, and one derivation
  pub one : (g s : List ℕ) (d t : ℕ) → former_number g s ≡ given (d ∷ t ∷ []) [] → rank_of g s ≡ given (d ∷ t ∷ 1 ∷ []) []
  -- one that was refused with 18 has two or more
  pub several : (g s : List ℕ) → (former_number g s).refusal ≡ 18
      → (d k : ℕ) × (2 ≤ k) × (rank_of g s ≡ given (d ∷ total_of g (length s) ∷ k ∷ []) [])
  -- every other refusal stays
  pub refusals : (g s : List ℕ) (k : ℕ) → (former_number g s).refusal ≡ k → k ≢ 0 → k ≢ 18 → rank_of g s ≡ refused k 3 []
  -- "Refusal 18 never occurs from then on."
  pub never : (g s : List ℕ) → (rank_of g s).refusal ≢ 18

-- ---- U2: "Every call that did not return 10 has its former answer."

-- the same lines, with 10 as it was
abbrev pub formerly : (g : List ℕ) (n : ℕ) → List Row → List Row
formerly g n rows = map (λ (row : Row). cond (eqb row.1 10) (former_too_large g n, 10) row) rows

-- the five calls that 10 concerns
abbrev pub former_count : List ℕ → ℕ → Answer
former_count g n = answer (formerly g n (prepared_rows g n)) (total_of g n ∷ []) [] []

abbrev pub former_unrank : (g : List ℕ) (n d : ℕ) (out : List ℕ) → Answer
former_unrank g n d out = answer (formerly g n (unrank_rows g n d out)) (total_of g n ∷ []) out (entry_of g n d ++ drop n out)

abbrev pub former_rank : (g s : List ℕ) → Answer
former_rank g s = answer (formerly g (length s) (former_number_rows g s)) (number_of g s ∷ total_of g (length s) ∷ []) [] []

-- *Left* and *Draw* as U4 found them: `FormerVoices` says what they answer now
abbrev pub former_remaining : (g h : List ℕ) (n : ℕ) → Answer
former_remaining g h n = answer (formerly g n (left_rows_by unvoiced g h n)) (total_of g n ∷ counted_by unvoiced g h n ∷ rest_by unvoiced g h n ∷ []) [] []

abbrev pub former_draw : (g h : List ℕ) (n q : ℕ) (out : List ℕ) → Answer
former_draw g h n q out =
    answer (formerly g n (draw_rows_by unvoiced g h n q out)) (rest_by unvoiced g h n ∷ (drawn_by unvoiced g h n q).number ∷ []) out
    (sentence (drawn_by unvoiced g h n q).tree ++ drop n out)

-- F, and beside it F with 16 words, which its start never uses
abbrev pub beside : List ℕ
beside =
    4 ∷ 16 ∷ 22 ∷ 0 ∷
    1 ∷ 3 ∷ 5 ∷ 7 ∷
    1 ∷ 1 ∷ 1 ∷ 2 ∷
    1 ∷ 0 ∷ 1 ∷ 0 ∷
    0 ∷ 0 ∷ 0 ∷ 4 ∷
    0 ∷ 1 ∷ 0 ∷ 0 ∷
    1 ∷ 3 ∷ 3 ∷ 6 ∷
    1 ∷ 2 ∷ 3 ∷ 0 ∷
    0 ∷ 0 ∷ 0 ∷ 8 ∷ 0 ∷ 1 ∷ 0 ∷ 9 ∷ 0 ∷ 2 ∷ 0 ∷ 10 ∷ 0 ∷ 3 ∷ 0 ∷ 11 ∷
    0 ∷ 4 ∷ 0 ∷ 12 ∷ 0 ∷ 5 ∷ 0 ∷ 13 ∷ 0 ∷ 6 ∷ 0 ∷ 14 ∷ 0 ∷ 7 ∷ 0 ∷ 15 ∷
    0 ∷ 8 ∷ 0 ∷ 16 ∷ 0 ∷ 9 ∷ 0 ∷ 17 ∷ 0 ∷ 10 ∷ 0 ∷ 18 ∷ 0 ∷ 11 ∷ 0 ∷ 19 ∷
    0 ∷ 12 ∷ 0 ∷ 20 ∷ 0 ∷ 13 ∷ 0 ∷ 21 ∷ 0 ∷ 14 ∷ 0 ∷ 22 ∷ 0 ∷ 15 ∷ 0 ∷ 0 ∷ []

pub record FormerAnswers : Type 0 where
  pub count : (g : List ℕ) (n : ℕ) → (former_count g n).refusal ≢ 10 → count_of g n ≡ former_count g n
  pub give : (g : List ℕ) (n d : ℕ) (out : List ℕ) → (former_unrank g n d out).refusal ≢ 10 → unrank_of g n d out ≡ former_unrank g n d out
  -- *Number* as U6 found it: `FormerNumbers` says what it answers now
  pub number : (g s : List ℕ) → (former_rank g s).refusal ≢ 10 → former_number g s ≡ former_rank g s
  pub left : (g h : List ℕ) (n : ℕ) → (former_remaining g h n).refusal ≢ 10 → left_by unvoiced g h n ≡ former_remaining g h n
  pub draw : (g h : List ℕ) (n q : ℕ) (out : List ℕ) → (former_draw g h n q out).refusal ≢ 10 → draw_by unvoiced g h n q out ≡ former_draw g h n q out
  -- and there is a call that returned 10 and answers now
  pub wider : (former_count beside 16 ≡ refused 10 1 []) × (count_of beside 16 ≡ given (65536 ∷ []) [])
