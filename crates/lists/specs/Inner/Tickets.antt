-- Tickets. The elements of a list weigh v, and each in turn owns as many tickets as it weighs, numbered from 0: first those of the first
-- element, then those of the next. A ticket thus tells its owner, what the elements before the owner measure together by a second weight u,
-- and which of the owner's tickets it is. Where every element weighs 1, a ticket is a place; where just those that pass a test do, it
-- numbers the ones that pass (Searched, Struck).
-- Assumes nothing: these are definitions.
use Rattle.std.specs.Prelude.{◌≡◌, Bool, false, cond, ◌||◌, List, [], ◌∷◌, ◌++◌, ℕ, ◌+◌, ◌*◌, ◌-◌, ◌≤◌, ◌<◌, leb, ltb, eqb, length, get_or, replicate, take}
use Rattle.lists.specs.Joined.{◌∈◌, sum_over, concat_map}

module _ {X : Type 0} where
  -- ---- owners

  -- the elements before the owner of the ticket t; all of them, where t has no owner
  abbrev pub ahead : (v : X → ℕ) → List X → ℕ → List X
  ahead v [] t = []
  ahead v (x ∷ l) t = cond (ltb t (v x)) [] (x ∷ ahead v l (t - v x))

  -- the owner of t; z where it has none
  abbrev pub owner : (v : X → ℕ) → List X → ℕ → X → X
  owner v l t z = get_or l (length (ahead v l t)) z

  -- the owner's place by u: what the elements before it measure
  abbrev pub place : (v u : X → ℕ) → List X → ℕ → ℕ
  place v u l t = sum_over u (ahead v l t)

  -- how many of the owner's own tickets come before t
  abbrev pub offset : (v : X → ℕ) → List X → ℕ → ℕ
  offset v l t = t - sum_over v (ahead v l t)

  -- x owns t; n is its place by u, and o of its own tickets come before t
  pub record Owns (v u : X → ℕ) (l : List X) (t : ℕ) (x : X) (n o : ℕ) : Type 0 where
    pub before : List X
    pub after : List X
    pub list : l ≡ before ++ x ∷ after
    pub ticket : t ≡ sum_over v before + o
    pub own : o < v x
    pub place : n ≡ sum_over u before

  -- the first ticket of the first element that passes: what the elements before it weigh
  abbrev pub first_ticket : (v : X → ℕ) (P : X → Bool) → List X → ℕ
  first_ticket v P [] = 0
  first_ticket v P (x ∷ l) = cond (P x) 0 (v x + first_ticket v P l)

  -- the ticket list: each element as often as it weighs
  abbrev pub tickets : (v : X → ℕ) → List X → List X
  tickets v l = concat_map (λ x. replicate (v x) x) l

  -- ---- struck elements: those that fail a test weigh nothing

  abbrev pub unstruck : (P : X → Bool) (v : X → ℕ) → X → ℕ
  unstruck P v x = cond (P x) (v x) 0

  -- the first ticket and the weight of each element that fails, in order, where the list's first ticket is k
  abbrev pub struck_from : (P : X → Bool) (v : X → ℕ) (k : ℕ) → List X → List (ℕ × ℕ)
  struck_from P v k [] = []
  struck_from P v k (x ∷ l) = cond (P x) (struck_from P v (k + v x) l) ((k, v x) ∷ struck_from P v (k + v x) l)

  -- those of the elements that fail and weigh something
  abbrev pub spans : (P : X → Bool) (v : X → ℕ) → List X → List (ℕ × ℕ)
  spans P v l = struck_from (λ x. P x || eqb (v x) 0) v 0 l

  -- e is the first ticket and the weight of an element that fails
  pub record StruckAs (P : X → Bool) (v : X → ℕ) (l : List X) (e : ℕ × ℕ) : Type 0 where
    pub before : List X
    pub at : X
    pub after : List X
    pub list : l ≡ before ++ at ∷ after
    pub fails : P at ≡ false
    pub entry : e ≡ (sum_over v before, v at)

-- t, moved up by the weight of each struck element that begins at or before the ticket reached
abbrev pub skip_over : ℕ → List (ℕ × ℕ) → ℕ
skip_over t [] = t
skip_over t (h ∷ bad) = cond (leb h.0 t) (skip_over (t + h.1) bad) t

-- a ends before b begins
abbrev pub Apart : ℕ × ℕ → ℕ × ℕ → Type 0
Apart a b = a.0 + a.1 ≤ b.0

-- what the first k struck elements weigh
abbrev pub gone : ℕ → List (ℕ × ℕ) → ℕ
gone k l = sum_over (λ (e : ℕ × ℕ). e.1) (take k l)

-- ---- combinations

-- what g makes of a combination is the product of what gl and gr make of its parts
pub record Product {X Y Z : Type 0} (f : X → Y → Z) (g : Z → ℕ) (gl : X → ℕ) (gr : Y → ℕ) (l : List X) (r : List Y) : Type 0 where
  pub each : (x : X) → x ∈ l → (y : Y) → y ∈ r → g (f x y) ≡ gl x * gr y
