-- A loop over a set, `for a in sets::each(s)`: what one turn does to the members that are left, where `next` gives a, the first of them, and
-- leaves the others. The same by hand, `while left != 0 { let a = lowest(left); ..; left = after_lowest(left); }``. And what the contracts of
-- the operations say of single members: one more, two sets together, a set moved; none, and some.
-- Assumes nothing.
use mathlib.Core.Path.{◌≡◌, refl, sym, ap, ◌∙◌}
use mathlib.Core.Bool.{true, false, ◌||◌, ◌&&◌, false≢true}
use mathlib.Core.List.Memᴰ
use mathlib.Core.List.{List, [], ◌∷◌}
use mathlib.Core.Logic.{◌⊎◌, inl, inr}
use Prim.Native.Nat.{ℕ, ◌<◌, ◌+◌, ◌-◌, ◌≤◌}
use native.Mathlib.Omega.{arith}
use native.Mathlib.Decide.{ℕ_discrete}
use borrow.Author.Tests.{eq-eqb, ne_eqb, eqb-true, le-leb, leb-true}
use lib.Dec.{eqb, leb}
use lib.ListN.{length, drop}
use Rattle.lists.specs.Joined.{◌∈◌}
use Rattle.lists.proofs.Tests.{or_true, both_ways, and_left, and_right, or_first, or_cases}
use Rattle.sets.specs.Inner.Sets.{member, members}
use Rattle.sets.proofs.Lists.{members_none, members_∈, ∈_members}
use Rattle.sets.proofs.Digits.{member_none}

-- ---- a turn: a is the lowest of `left`, which becomes `next`

pub lowest_low : (left a : ℕ) {l : List ℕ} → members left ≡ a ∷ l → a < 32
lowest_low left a first = (members_∈ left a (rw first (Memᴰ.head refl))).0

module _ (left a : ℕ) (first : members left ≡ a ∷ drop 1 (members left)) where
  module _ (next : ℕ) (rest : members next ≡ drop 1 (members left)) where
    pub turn : members left ≡ a ∷ members next
    turn = first ∙ ap (λ (l : List ℕ). a ∷ l) (sym rest)

    -- the measure
    pub turn_less : length (members next) < length (members left)
    turn_less = omega (arith, ap length turn)

-- ---- the same by membership

module _ (left a next : ℕ) (t : members left ≡ a ∷ members next) where
  turn_member : (b : ℕ) → b < 32 → member left b ≡ (eqb a b || member next b)
  turn_member b h = both_ways (member left b) (eqb a b || member next b) (λ e. there (rw t at (∈_members left b h e))) back
    where
      there : b ∈ (a ∷ members next) → (eqb a b || member next b) ≡ true
      there (Memᴰ.head e) = rw (eq-eqb a b (sym e))
      there (Memᴰ.tail m) = or_true (eqb a b) (member next b) (members_∈ next b m).1

      here : b ∈ (a ∷ members next) → member left b ≡ true
      here m = (members_∈ left b (rw t m)).1

      back : (eqb a b || member next b) ≡ true → member left b ≡ true
      back e =
          elim (ℕ_discrete b a) [
            | yes q ↦ here (Memᴰ.head q)
            | no n ↦ here (Memᴰ.tail (∈_members next b h (rw (ne_eqb a b (λ q. n (sym q))) at e)))
          ]

  -- what is left is among what was; and what isn't left any more is a, or wasn't left before
  pub turn_among : (b : ℕ) → b < 32 → member next b ≡ true → member left b ≡ true
  turn_among b h e = turn_member b h ∙ or_true (eqb a b) (member next b) e

  pub turn_out : (b : ℕ) → b < 32 → member next b ≡ false → (b ≡ a → ⊥) → member left b ≡ false
  turn_out b h o n = turn_member b h ∙ rw (ne_eqb a b (λ e. n (sym e)), o)

-- ---- nothing is left

pub over : (left : ℕ) → left ≡ 0 → members left ≡ []
over left e = ap members e ∙ members_none

-- r is s and a
module _ (s a r : ℕ) (w : (b : ℕ) → member r b ≡ (member s b || eqb a b)) where
  pub with_more : (b : ℕ) → member s b ≡ true → member r b ≡ true
  with_more b h = w b ∙ or_first (member s b) (eqb a b) h

  pub with_new : (b : ℕ) → b ≡ a → member r b ≡ true
  with_new b e = w b ∙ or_true (member s b) (eqb a b) (eq-eqb a b (sym e))

  pub with_only : (b : ℕ) → member r b ≡ true → (member s b ≡ true) ⊎ (a ≡ b)
  with_only b h =
      elim (or_cases (member s b) (eqb a b) (sym (w b) ∙ h)) [
        | inl l ↦ inl l
        | inr e ↦ inr (eqb-true a b e)
      ]

-- r is s and t
module _ (s t r : ℕ) (e : (b : ℕ) → member r b ≡ (member s b || member t b)) where
  pub either_left : (b : ℕ) → member s b ≡ true → member r b ≡ true
  either_left b h = e b ∙ or_first (member s b) (member t b) h

  pub either_right : (b : ℕ) → member t b ≡ true → member r b ≡ true
  either_right b h = e b ∙ or_true (member s b) (member t b) h

  pub either_cases : (b : ℕ) → member r b ≡ true → (member s b ≡ true) ⊎ (member t b ≡ true)
  either_cases b h = or_cases (member s b) (member t b) (sym (e b) ∙ h)

-- r is s, moved by k
module _ (s k r : ℕ) (e : (b : ℕ) → b < 32 → member r b ≡ (leb k b && member s (b - k))) where
  pub moved_there : (b : ℕ) → b + k < 32 → member s b ≡ true → member r (b + k) ≡ true
  moved_there b h t =
      let q : b + k - k ≡ b = omega arith in
      e (b + k) h ∙ rw (le-leb k (b + k) (omega arith), q) t

  pub moved_back : (b : ℕ) → b < 32 → member r b ≡ true → (k ≤ b) × (member s (b - k) ≡ true)
  moved_back b h t =
      let q = sym (e b h) ∙ t in
      (leb-true k b (and_left (leb k b) (member s (b - k)) q), and_right (leb k b) (member s (b - k)) q)

-- s is empty
pub none_member : (s a : ℕ) → members s ≡ [] → a < 32 → member s a ≡ true → ⊥
none_member s a e h t = Memᴰ.not-nil (rw e at (∈_members s a h t))

pub none_out : (s a : ℕ) → members s ≡ [] → a < 32 → member s a ≡ false
none_out s a e h = both_ways (member s a) false (λ t. absurd (none_member s a e h t)) (λ z. absurd (false≢true z))

-- a set with a member isn't 0
pub some_member : (s a : ℕ) → member s a ≡ true → s ≡ 0 → ⊥
some_member s a t e = false≢true (sym (member_none a) ∙ rw e at t)

pub first_member : (s a : ℕ) (l : List ℕ) → members s ≡ a ∷ l → member s a ≡ true
first_member s a l e = (members_∈ s a (rw e (Memᴰ.head refl))).1
