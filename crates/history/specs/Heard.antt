-- The sentences of a history, and which sentences are heard in a voice (document 01, section 'Diary bytes'; document 02, U4 and U5).
-- Assumes nothing: these are definitions.
use Rattle.std.specs.Prelude.{Bool, ◌&&◌, List, map, ℕ}
use Rattle.lists.specs.Searched.{some_to, same, keep}
use Rattle.history.specs.Playback.{heard_in}
use Rattle.history.specs.Layout.{records_of, record_words, playback_of}
use Rattle.history.specs.Chain.{numbers}

-- which records make their sentence heard, in the voice v
unfoldable pub makes_heard : (h : List ℕ) (v r : ℕ) → Bool
makes_heard h v r = heard_in (playback_of h r) v

-- "The sentences of a diary are read off through the diary's own bytes, one after another along the chain." Those of these records.
abbrev pub sentences_in : (h : List ℕ) (v : ℕ) → List (List ℕ)
sentences_in h v = map (record_words h) (keep (makes_heard h v) (numbers h))

-- record r is one of these, and has the sentence's length and words
abbrev pub has_sentence : (h : List ℕ) (v r : ℕ) (s : List ℕ) → Bool
has_sentence h v r s = makes_heard h v r && same (record_words h r) s

-- "A sentence is heard if a record has its length and words."
unfoldable pub heard : (h : List ℕ) (v : ℕ) (s : List ℕ) → Bool
heard h v s = some_to (λ r. has_sentence h v r s) (records_of h)
