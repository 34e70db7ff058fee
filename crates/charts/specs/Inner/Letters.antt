-- The letters of a map: what it asks of the word at each position (counting's specs/Inner/Letters.antt).
-- Assumes nothing: these are definitions.
use Rattle.std.specs.Prelude.{Bool, true, cond, ◌&&◌, ◌||◌, List, [], ◌∷◌, ℕ, suc, leb, eqb}
use Rattle.lists.specs.Inner.Tables.{entry}
use Rattle.counting.specs.Inner.Letters.{any, by_letter}

-- the letter of a map at the position p
abbrev pub letter_at : List (List ℕ) → ℕ → ℕ
letter_at map p = entry map 0 p

-- the weight of a map: by its letters
abbrev pub weight_by : (rules map : List (List ℕ)) → ℕ → ℕ → ℕ
weight_by rules map p w = by_letter rules (letter_at map p) w

-- the letter of a byte, where the byte `blank` lets any word stand
abbrev pub letter_of : (blank x : ℕ) → ℕ
letter_of blank x = cond (eqb x blank) any x

-- the letter asks for the word w, or for any, by its weight or not
abbrev pub admits : (letter w : ℕ) → Bool
admits x w = leb any x || eqb x w

-- each word from the position p on is one that its letter asks for
abbrev pub stands : (map : List (List ℕ)) (p : ℕ) → List ℕ → Bool
stands map p [] = true
stands map p (w ∷ u) = admits (letter_at map p) w && stands map (suc p) u
