-- What is left of a list when the elements that fail a test are struck, by places: the tickets of elements that weigh 1 each.
-- Assumes nothing: these are definitions.
use Rattle.std.specs.Prelude.{Bool, List, [], ◌∷◌, map, ℕ, suc}
use Rattle.lists.specs.Inner.Tickets.{struck_from}

module _ {X : Type 0} where
  -- the places of the elements that fail, rising
  abbrev pub struck : (X → Bool) → List X → List ℕ
  struck P l = map (λ (e : ℕ × ℕ). e.0) (struck_from P (λ x. 1) 0 l)

  -- each element with its place, the first of them at k
  abbrev pub numbered : ℕ → List X → List (ℕ × X)
  numbered k [] = []
  numbered k (x ∷ l) = (k, x) ∷ numbered (suc k) l
