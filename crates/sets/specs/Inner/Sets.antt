-- A number as the set of the places of its binary digits that are 1: the digit at a is 1 just where a is a member.
-- Assumes nothing: these are definitions.
use Rattle.std.specs.Prelude.{Bool, List, ℕ, ◌/◌, ◌%◌, ◌^◌, eqb}
use Rattle.lists.specs.Joined.{up_from}
use Rattle.lists.specs.Searched.{keep}

-- a is in the set s
unfoldable pub member : (s a : ℕ) → Bool
member s a = eqb (s / 2 ^ a % 2) 1

-- the members below 32, rising
unfoldable pub members : ℕ → List ℕ
members s = keep (member s) (up_from 0 32)
