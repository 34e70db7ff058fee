-- A playback: a sentence, as its words; the voice it was played in (document 02, U4); and how many of its words were played, where 0 means all (U5).
-- *Log* is handed one beside the history, and each record of a history tells of one.
-- Assumes nothing: these are definitions.
use Rattle.std.specs.Prelude.{Bool, ◌&&◌, List, ℕ, length, leb, eqb}

pub record Playback : Type 0 where
  pub words : List ℕ
  pub voice : ℕ
  pub played : ℕ

abbrev pub playback : (s : List ℕ) (v p : ℕ) → Playback
playback s v p = record { words = s; voice = v; played = p }

-- it makes its sentence heard in the voice v: "A sentence is heard only if words and voice both agree" (U4), and "Only a record played in full makes a
-- sentence heard" (U5)
abbrev pub heard_in : (p : Playback) (v : ℕ) → Bool
heard_in p v = eqb p.voice v && eqb p.played 0

-- "23, log's figure is the sentence's length or more" (U5)
abbrev pub bad_played : Playback → Bool
bad_played p = leb (length p.words) p.played
