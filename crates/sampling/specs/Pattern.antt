-- Patterns: "Left and draw shall also take a pattern of 1 to 16 bytes. Byte 255 is a blank and any other byte is that word." (document 02, U1)
-- Assumes nothing: these are definitions.
use Rattle.std.specs.Prelude.{Bool, true, false, not, ◌&&◌, ◌||◌, List, [], ◌∷◌, ℕ, leb, eqb}
use Rattle.lists.specs.Searched.{some_of}

abbrev pub blank : ℕ
blank = 255

-- the sentence fits the pattern, word by word; where there is no pattern every sentence does
abbrev pub matches : (pattern sentence : List ℕ) → Bool
matches [] s = true
matches (x ∷ p) [] = false
matches (x ∷ p) (w ∷ s) = (eqb x blank || eqb x w) && matches p s

-- "21, a pattern byte other than 255 is W or more"
abbrev pub neither : (W x : ℕ) → Bool
neither W x = not (eqb x blank) && leb W x

unfoldable pub bad_pattern : (W : ℕ) (pattern : List ℕ) → Bool
bad_pattern W pattern = some_of (neither W) pattern
