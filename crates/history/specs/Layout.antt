-- The bytes of a history (document 01: diary, section 'Diary bytes'). A history is here the list of its bytes, slack included.
-- Assumes nothing: these are definitions.
use Rattle.std.specs.Prelude.{List, ℕ, ◌+◌, ◌-◌, ◌*◌, ◌/◌, ◌%◌, get_or, take, drop}
use Rattle.history.specs.Playback.{Playback, playback}

-- "Two-byte fields have the low byte first."
unfoldable pub two_at : List ℕ → ℕ → ℕ
two_at h i = get_or h i 0 + 256 * get_or h (i + 1) 0

-- "Two bytes K (0 to 1,000 records), two bytes head, then records of 20 bytes numbered from 1"
abbrev pub records_of : List ℕ → ℕ
records_of h = two_at h 0

abbrev pub head_of : List ℕ → ℕ
head_of h = two_at h 2

-- so record r stands at 4 + 20 (r - 1)
abbrev pub record_at : ℕ → ℕ
record_at r = 20 * r - 16

-- "two bytes next, one byte length (1 to 16), one byte [..], sixteen word bytes, zero beyond the length"
abbrev pub next_of : List ℕ → ℕ → ℕ
next_of h r = two_at h (record_at r)

abbrev pub length_of : List ℕ → ℕ → ℕ
length_of h r = get_or h (record_at r + 2) 0

abbrev pub fourth_of : List ℕ → ℕ → ℕ
fourth_of h r = get_or h (record_at r + 3) 0

-- "The high four bits of a record's fourth byte hold it": the voice (document 02, U4)
abbrev pub voice_of : List ℕ → ℕ → ℕ
voice_of h r = fourth_of h r / 16

-- "The low four bits of the fourth byte give the words played; 0 means all." (document 02, U5)
abbrev pub played_of : List ℕ → ℕ → ℕ
played_of h r = fourth_of h r % 16

-- the words of record r: a sentence
unfoldable pub record_words : List ℕ → ℕ → List ℕ
record_words h r = take (length_of h r) (drop (record_at r + 4) h)

-- what record r tells of
abbrev pub playback_of : List ℕ → ℕ → Playback
playback_of h r = playback (record_words h r) (voice_of h r) (played_of h r)
