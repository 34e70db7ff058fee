-- Chains of links: things numbered from 1 to `last`, each with the number of its next; 0, or any number that no thing has, ends a walk.
-- Assumes nothing: these are definitions.
use Rattle.std.specs.Prelude.{◌≡◌, Bool, cond, ◌&&◌, List, [], ◌∷◌, ℕ, zero, suc, ◌≤◌, leb}

-- r is the number of a thing
abbrev pub is_number : (last r : ℕ) → Bool
is_number last r = leb 1 r && leb r last

-- the numbers that a walk from r meets, the first n of them
unfoldable pub met_from : (next : ℕ → ℕ) (last n r : ℕ) → List ℕ
met_from next last zero r = []
met_from next last (suc n) r = cond (is_number last r) (r ∷ met_from next last n (next r)) []

-- A walk from r that ends at 0, and the numbers that it meets. There is no bound on its length.
pub data Walk (next : ℕ → ℕ) (last : ℕ) : ℕ → List ℕ → Type 0 where
  ends : {r : ℕ} → r ≡ 0 → Walk next last r []
  goes : {r : ℕ} {l : List ℕ} → 1 ≤ r → r ≤ last → Walk next last (next r) l → Walk next last r (r ∷ l)
