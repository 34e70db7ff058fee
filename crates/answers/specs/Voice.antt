-- The talker's voice (document 02, U4: "a voice from 0 to 15").
-- Assumes nothing: these are definitions.
use Rattle.std.specs.Prelude.{Bool, ℕ, ltb}

-- "22, the voice is above 15"
abbrev pub bad_voice : ℕ → Bool
bad_voice v = ltb 15 v
