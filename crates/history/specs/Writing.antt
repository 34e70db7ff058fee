-- What *Log* writes (document 01, section 'Operations'; document 02, U4 and U5).
-- Assumes nothing: these are definitions.
use Rattle.std.specs.Prelude.{List, [], ◌∷◌, ◌++◌, ℕ, suc, ◌+◌, ◌-◌, ◌*◌, ◌/◌, ◌%◌, length, take, drop, replicate}
use Rattle.history.specs.Layout.{records_of, head_of, record_at}
use Rattle.history.specs.Playback.{Playback}

-- the bytes with bs in the place of as many from at on
unfoldable pub overwritten : (h : List ℕ) (at : ℕ) (bs : List ℕ) → List ℕ
overwritten h at bs = take at h ++ bs ++ drop (at + length bs) h

-- "Two-byte fields have the low byte first."
abbrev pub two_bytes : ℕ → List ℕ
two_bytes x = x % 256 ∷ x / 256 ∷ []

-- "two bytes next, one byte length (1 to 16), one byte [..], sixteen word bytes, zero beyond the length"
unfoldable pub record_bytes : (next fourth : ℕ) (s : List ℕ) → List ℕ
record_bytes next fourth s = two_bytes next ++ (length s ∷ fourth ∷ (s ++ replicate (16 - length s) 0))

-- "The high four bits of a record's fourth byte hold it": the voice (document 02, U4). "The low four bits of the fourth byte give the words played" (U5).
abbrev pub fourth_byte : Playback → ℕ
fourth_byte p = 16 * p.voice + p.played

-- "writes record K + 1 in full with next = old head, sets head and K to K + 1 [..] No other byte changes."
unfoldable pub appended : (h : List ℕ) (p : Playback) → List ℕ
appended h p =
    let new = suc (records_of h) in
    overwritten (overwritten (overwritten h (record_at new) (record_bytes (head_of h) (fourth_byte p) p.words)) 0 (two_bytes new)) 2 (two_bytes new)
