-- The length of a sentence (document 01: "A sentence is 1 to 16 words; its length is how many").
-- Assumes nothing: these are definitions.
use Rattle.std.specs.Prelude.{Bool, not, ℕ}
use Rattle.lists.specs.Searched.{within}

-- "9. The length, or the sentence's length, is not 1 to 16."
unfoldable pub bad_length : ℕ → Bool
bad_length n = not (within 1 16 n)
