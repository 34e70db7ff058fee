-- What the checks and the reading of a record ask and show, by name. Nothing of this is needed to read what the calls answer.
-- Assumes nothing: these are definitions.
use Rattle.std.specs.Prelude.{◌≡◌, Bool, true, false, List, ℕ, suc, ◌+◌, ◌*◌, ◌≤◌, length, Option, Some, None}
use Rattle.history.specs.Layout.{records_of}
use Rattle.history.specs.Refusals.{bad_record, bad_link}

-- the bytes have k records, as few as is allowed, and all of them are there
pub record Sized (h : List ℕ) (k : ℕ) : Type 0 where
  pub count : k ≡ records_of h
  pub few : k ≤ 1000
  pub size : 4 + 20 * k ≤ length h

-- nothing where 12 applies, else whether 13 does
abbrev pub TestedAs : List ℕ → Option Bool → Type 0
TestedAs h None = bad_record h ≡ true
TestedAs h (Some far) = (bad_record h ≡ false) × (far ≡ bad_link h)

-- r is the number of a record
pub record Inside (h : List ℕ) (r : ℕ) : Type 0 where
  pub low : 1 ≤ r
  pub high : r ≤ records_of h

-- there is room for one record more, whose number is `new`
pub record Room (h : List ℕ) (new : ℕ) : Type 0 where
  pub number : new ≡ suc (records_of h)
  pub few : new ≤ 1000
  pub size : 4 + 20 * new ≤ length h
