-- Lists that are made of lists, sums over a list, and what stands in a list at a place.
-- Assumes nothing: these are definitions.
use Rattle.std.specs.Prelude.{◌≡◌, ℕ, zero, suc, ◌+◌}
use mathlib.Core.List.{List, [], ◌∷◌, ◌++◌, map, Memᴰ}

module _ {X : Type 0} where
  infix 40 ◌∈◌
  -- x stands somewhere in the list
  abbrev pub ◌∈◌ : X → List X → Type 0
  x ∈ l = Memᴰ x l

  -- x stands in the list at the place i, counted from 0
  abbrev pub At : List X → ℕ → X → Type 0
  At [] i x = ⊥
  At (y ∷ l) zero x = x ≡ y
  At (y ∷ l) (suc i) x = At l i x

  -- the sum of the f x
  abbrev pub sum_over : (X → ℕ) → List X → ℕ
  sum_over f [] = 0
  sum_over f (x ∷ l) = f x + sum_over f l

module _ {X Y : Type 0} where
  -- the lists f x, one after another
  abbrev pub concat_map : (X → List Y) → List X → List Y
  concat_map f [] = []
  concat_map f (x ∷ l) = f x ++ concat_map f l

module _ {X Y Z : Type 0} where
  -- every f x y: for the first x all the y, then for the next x
  abbrev pub combine : (X → Y → Z) → List X → List Y → List Z
  combine f [] ys = []
  combine f (x ∷ xs) ys = map (f x) ys ++ combine f xs ys

-- the n numbers k, k + 1, ..
abbrev pub up_from : ℕ → ℕ → List ℕ
up_from k zero = []
up_from k (suc n) = k ∷ up_from (suc k) n
