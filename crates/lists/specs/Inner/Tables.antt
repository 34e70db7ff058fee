-- Tables: lists of rows, each row a list of numbers. What stands in one, and what a store leaves of it.
-- Assumes nothing: these are definitions.
use Rattle.std.specs.Prelude.{◌≡◌, List, [], ℕ, ◌≤◌, ◌<◌, length, get_or, set}

-- what stands in the row r at i; 0 outside
abbrev pub entry : List (List ℕ) → ℕ → ℕ → ℕ
entry t r i = get_or (get_or t r []) i 0

-- the table with v in the row r at i
abbrev pub put : List (List ℕ) → (r i v : ℕ) → List (List ℕ)
put t r i v = set t r (set (get_or t r []) i v)

-- every row has w entries
pub record Wide (t : List (List ℕ)) (w : ℕ) : Type 0 where
  pub row : (r : ℕ) → r < length t → length (get_or t r []) ≡ w

-- the table is as large as it was, and the rows from `first` on are what they were
pub record Kept (first width : ℕ) (before after : List (List ℕ)) : Type 0 where
  pub long : length after ≡ length before
  pub wide : Wide after width
  pub rest : (r : ℕ) → first ≤ r → get_or after r [] ≡ get_or before r []

-- the first n rows of `from` are now those of a table, and its others as they were
pub record CopiedAs (n : ℕ) (from before after : List (List ℕ)) : Type 0 where
  pub long : length after ≡ length before
  pub rows : (r : ℕ) → r < n → get_or after r [] ≡ get_or from r []
  pub rest : (r : ℕ) → n ≤ r → get_or after r [] ≡ get_or before r []
