-- Tests on numbers and over lists: whether a number is within bounds, how many elements pass, the place of the first that does, those that do,
-- whether some number below a bound does.
-- Assumes nothing: these are definitions.
use Rattle.std.specs.Prelude.{Bool, true, false, cond, ◌&&◌, ◌||◌, List, [], ◌∷◌, ℕ, zero, suc, leb, eqb}
use Rattle.lists.specs.Joined.{sum_over}

-- x is from lo to hi
abbrev pub within : (lo hi x : ℕ) → Bool
within lo hi x = leb lo x && leb x hi

-- 1 where the test passes, and else 0
abbrev pub bit : Bool → ℕ
bit b = cond b 1 0

module _ {X : Type 0} where
  -- how many elements pass
  abbrev pub how_many : (X → Bool) → List X → ℕ
  how_many P l = sum_over (λ x. bit (P x)) l

  -- how many elements stand before the first that passes
  abbrev pub first_place : (X → Bool) → List X → ℕ
  first_place P [] = 0
  first_place P (x ∷ l) = cond (P x) 0 (suc (first_place P l))

  -- the elements that pass, in their order
  abbrev pub keep : (X → Bool) → List X → List X
  keep P [] = []
  keep P (x ∷ l) = cond (P x) (x ∷ keep P l) (keep P l)

  -- some element passes
  abbrev pub some_of : (X → Bool) → List X → Bool
  some_of P [] = false
  some_of P (x ∷ l) = P x || some_of P l

-- how often r stands in a list of numbers
abbrev pub times : ℕ → List ℕ → ℕ
times r l = how_many (eqb r) l

-- some number stands in it twice
abbrev pub repeats : List ℕ → Bool
repeats [] = false
repeats (x ∷ l) = some_of (eqb x) l || repeats l

-- some number below n passes
unfoldable pub some_below : (ℕ → Bool) → ℕ → Bool
some_below f zero = false
some_below f (suc n) = f n || some_below f n

-- some number from 1 to n passes
abbrev pub some_to : (ℕ → Bool) → ℕ → Bool
some_to f n = some_below (λ i. f (suc i)) n

-- two lists of numbers are the same
abbrev pub same : List ℕ → List ℕ → Bool
same [] [] = true
same [] (y ∷ b) = false
same (x ∷ a) [] = false
same (x ∷ a) (y ∷ b) = eqb x y && same a b
