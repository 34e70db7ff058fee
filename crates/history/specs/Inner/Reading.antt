-- What a reader that stands at a record's number reads there, and where it stands next (document 01: "The sentences of a diary are read off
-- through the diary's own bytes, one after another along the chain"). 0, and any number that no record has, is the end: no sentence stands
-- there, and the reader stays at the end.
-- Assumes nothing: these are definitions.
use Rattle.std.specs.Prelude.{Bool, cond, List, [], ℕ}
use Rattle.lists.specs.Searched.{within}
use Rattle.history.specs.Layout.{records_of, next_of, record_words}

-- `at` is the number of a record
abbrev pub is_record : (h : List ℕ) (at : ℕ) → Bool
is_record h at = within 1 (records_of h) at

-- the record's sentence, of 1 to 16 words; none at the end
abbrev pub sentence_at : (h : List ℕ) (at : ℕ) → List ℕ
sentence_at h at = cond (is_record h at) (record_words h at) []

-- the number of the record after it; 0 at the end
abbrev pub next_at : (h : List ℕ) (at : ℕ) → ℕ
next_at h at = cond (is_record h at) (next_of h at) 0
