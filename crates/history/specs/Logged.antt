-- What an accepted *Log* does to a history's meaning, by the bytes that it leaves.
-- Assumes nothing: these are definitions.
use Rattle.std.specs.Prelude.{◌≡◌, true, cond, ◌&&◌, ◌||◌, List, ◌∷◌, ℕ, suc, ◌+◌, ◌≤◌, ◌<◌, get_or}
use Rattle.lists.specs.Searched.{same}
use Rattle.history.specs.Layout.{records_of, record_at, playback_of}
use Rattle.history.specs.Chain.{numbers}
use Rattle.history.specs.Refusals.{Accepted}
use Rattle.history.specs.Playback.{Playback, heard_in}
use Rattle.history.specs.Heard.{sentences_in, heard}
use Rattle.history.specs.Writing.{appended}

pub record Logged (h : List ℕ) (p : Playback) : Type 0 where
  -- an accepted history, with one record more, which tells of the playback; played in full or broken off, it stands on the chain, before the old ones
  pub accepted : Accepted (appended h p)
  pub count : records_of (appended h p) ≡ suc (records_of h)
  pub tells : playback_of (appended h p) (suc (records_of h)) ≡ p
  pub chain : numbers (appended h p) ≡ suc (records_of h) ∷ numbers h
  -- every old record keeps its bytes, broken off or not
  pub kept : (r i : ℕ) → 1 ≤ r → r ≤ records_of h → i < 20 → get_or (appended h p) (record_at r + i) 0 ≡ get_or h (record_at r + i) 0
  -- if it was played in full, the sentence comes first of those in its voice; in every other voice, and if it was broken off, they are as they were
  pub sentences : (v : ℕ) → sentences_in (appended h p) v ≡ cond (heard_in p v) (p.words ∷ sentences_in h v) (sentences_in h v)
  -- so a sentence is heard in a voice then exactly if both are the logged ones, played in full, or it was heard before
  pub after : (v : ℕ) (s : List ℕ) → heard (appended h p) v s ≡ ((heard_in p v && same p.words s) || heard h v s)
  -- the sentence is heard in its voice, if it was played in full, and what was heard in any voice still is
  pub new : p.played ≡ 0 → heard (appended h p) p.voice p.words ≡ true
  pub still : (v : ℕ) (s : List ℕ) → heard h v s ≡ true → heard (appended h p) v s ≡ true
