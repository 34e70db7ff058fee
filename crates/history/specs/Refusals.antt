-- When a history is accepted (document 01, section 'Why a call says no', 11 to 14).
-- Assumes nothing: these are definitions.
use Rattle.std.specs.Prelude.{◌≡◌, Bool, not, ◌||◌, List, [], ◌∷◌, ℕ, ◌+◌, ◌-◌, ◌*◌, ◌%◌, length, get_or, ltb, leb, eqb}
use Rattle.lists.specs.Searched.{some_below, some_to, times}
use Rattle.answers.specs.Answer.{Row, first_that_applies}
use Rattle.answers.specs.Length.{bad_length}
use Rattle.history.specs.Layout.{records_of, head_of, record_at, next_of}
use Rattle.history.specs.Chain.{numbers}

-- "11. The diary has fewer than 4 bytes, K is above 1,000, or it has fewer than 4 + 20K bytes."
unfoldable pub bad_size : List ℕ → Bool
bad_size h = ltb (length h) 4 || (ltb 1000 (records_of h) || ltb (length h) (4 + 20 * records_of h))

-- one of `count` bytes, the first of them at `at`, is not 0
abbrev pub some_nonzero : (h : List ℕ) (at count : ℕ) → Bool
some_nonzero h at count = some_below (λ i. not (eqb (get_or h (at + i) 0) 0)) count

-- a record that stands at `at` has "a wrong length, a fourth byte that is not 0, or a non-zero byte beyond its words"; of the fourth byte,
-- "Refusal 12 no longer minds the high four bits" (document 02, U4) and "covers, in place of low four bits that are not 0, a record whose figure is
-- its length or more" (U5)
unfoldable pub misfit : (h : List ℕ) (at : ℕ) → Bool
misfit h at =
    let n = get_or h (at + 2) 0 in
    bad_length n || (leb n (get_or h (at + 3) 0 % 16) || some_nonzero h (at + 4 + n) (16 - n))

-- "12. Some record has a wrong length, a fourth byte that is not 0, or a non-zero byte beyond its words."
unfoldable pub bad_record : List ℕ → Bool
bad_record h = some_to (λ r. misfit h (record_at r)) (records_of h)

abbrev pub next_above : List ℕ → ℕ → Bool
next_above h r = ltb (records_of h) (next_of h r)

-- "13. The diary's head or some next is above K."
unfoldable pub bad_link : List ℕ → Bool
bad_link h = ltb (records_of h) (head_of h) || some_to (next_above h) (records_of h)

-- "14. The diary's chain meets a record twice or misses one."
unfoldable pub bad_chain : List ℕ → Bool
bad_chain h = some_to (λ r. not (eqb (times r (numbers h)) 1)) (records_of h)

-- the lines 11 to 14, in their order
abbrev pub history_rows : List ℕ → List Row
history_rows h = (bad_size h, 11) ∷ (bad_record h, 12) ∷ (bad_link h, 13) ∷ (bad_chain h, 14) ∷ []

-- 0, or the first of 11 to 14 that applies
abbrev pub history_refusal : List ℕ → ℕ
history_refusal h = first_that_applies (history_rows h)

-- "an accepted diary, none of 11 to 14"
abbrev pub Accepted : List ℕ → Type 0
Accepted h = history_refusal h ≡ 0
