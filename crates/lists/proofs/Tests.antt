-- Tests: what a conjunction or disjunction says of its parts, a test over the elements of a list, and a test over the numbers below
-- a bound as a loop meets it.
-- Assumes nothing.
use mathlib.Core.Path.{◌≡◌, refl, sym, ap, ◌∙◌}
use mathlib.Core.Bool.{Bool, true, false, cond, not, ◌&&◌, ◌||◌, or-false, false≢true}
use mathlib.Core.Logic.{◌⊎◌, inl, inr, ◌≢◌}
use mathlib.Core.List.Memᴰ
use mathlib.Core.List.{List, [], ◌∷◌, map}
use Prim.Native.Nat.{ℕ, zero, suc, ◌-◌, ◌*◌, ◌≤◌, ◌<◌}
use native.Mathlib.Omega.{arith}
use native.Mathlib.Decide.{ℕ_discrete}
use borrow.Author.Tests.{leb-true, le-leb, lt-leb, eqb-true, eqb-false, eq-eqb, ne_eqb, not-false}
use lib.Dec.{leb, eqb}
use lib.ListN.{length, get_or, set}
use lib.Seq.{get_or-set_same, get_or-set_other}
use Rattle.lists.specs.Joined.{◌∈◌, At}
use Rattle.lists.specs.Searched.{within, bit, some_of, repeats, some_below, some_to, same}
use Rattle.lists.proofs.Members.{At_∈}

pub bit_le : (b : Bool) → bit b ≤ 1
bit_le true = omega arith
bit_le false = omega arith

pub bit_true : (b : Bool) → 0 < bit b → b ≡ true
bit_true true h = refl
bit_true false h = absurd (omega arith)

pub bit_and : (a b : Bool) → bit (a && b) ≡ bit a * bit b
bit_and true b = omega arith
bit_and false b = omega arith

-- a number that is taken or left, and is 0 anyway
pub cond_none : (b : Bool) (x : ℕ) → x ≡ 0 → cond b x 0 ≡ 0
cond_none true x e = e
cond_none false x e = refl

pub and_left : (a b : Bool) → (a && b) ≡ true → a ≡ true
and_left true b e = refl
and_left false b e = e

pub and_right : (a b : Bool) → (a && b) ≡ true → b ≡ true
and_right true b e = e
and_right false b e = let z : b ≡ true = cc in z

pub and_false : (a b : Bool) → b ≡ false → (a && b) ≡ false
and_false true b e = e
and_false false b e = refl

pub or_left : (a b : Bool) → (a || b) ≡ false → a ≡ false
or_left true b e = e
or_left false b e = refl

pub or_right : (a b : Bool) → (a || b) ≡ false → b ≡ false
or_right true b e = let z : b ≡ false = cc in z
or_right false b e = e

pub or_first : (a b : Bool) → a ≡ true → (a || b) ≡ true
or_first a b e = rw e

pub or_cases : (a b : Bool) → (a || b) ≡ true → (a ≡ true) ⊎ (b ≡ true)
or_cases true b e = inl refl
or_cases false b e = inr e

pub or_true : (a b : Bool) → b ≡ true → (a || b) ≡ true
or_true true b e = refl
or_true false b e = e

-- two tests that pass together are equal
pub both_ways : (a b : Bool) → (a ≡ true → b ≡ true) → (b ≡ true → a ≡ true) → a ≡ b
both_ways true b f g = sym (f refl)
both_ways false true f g = g refl
both_ways false false f g = refl

-- and so are two that fail together
pub both_fail : (a b : Bool) → (a ≡ false → b ≡ false) → (b ≡ false → a ≡ false) → a ≡ b
both_fail false b f g = sym (f refl)
both_fail true false f g = g refl
both_fail true true f g = refl

-- ---- a number within bounds

pub within_facts : (lo hi x : ℕ) → not (within lo hi x) ≡ false → (lo ≤ x) × (x ≤ hi)
within_facts lo hi x e =
    let t = not-false (within lo hi x) e in
    (leb-true lo x (and_left (leb lo x) (leb x hi) t), leb-true x hi (and_right (leb lo x) (leb x hi) t))

pub within_low : (lo hi x : ℕ) → x < lo → not (within lo hi x) ≡ true
within_low lo hi x h = rw (lt-leb lo x h)

pub within_high : (lo hi x : ℕ) → hi < x → not (within lo hi x) ≡ true
within_high lo hi x h = rw (and_false (leb lo x) (leb x hi) (lt-leb x hi h))

pub within_both : (lo hi x : ℕ) → lo ≤ x → x ≤ hi → not (within lo hi x) ≡ false
within_both lo hi x h k = rw (le-leb lo x h, le-leb x hi k)

-- ---- some element of a list

or_swap : (a b c d : Bool) → ((a || b) || (c || d)) ≡ ((a || c) || (b || d))
or_swap true b c d = refl
or_swap false true c d = sym (or_true c true refl)
or_swap false false c d = refl

module _ {X : Type 0} where
  pub some_ext : (P Q : X → Bool) (l : List X) → ((x : X) → x ∈ l → P x ≡ Q x) → some_of P l ≡ some_of Q l
  some_ext P Q [] h = refl
  some_ext P Q (x ∷ l) h = rw (h x (Memᴰ.head refl), some_ext P Q l (λ y m. h y (Memᴰ.tail m)))

  pub some_never : (P : X → Bool) (l : List X) → ((x : X) → P x ≡ false) → some_of P l ≡ false
  some_never P [] h = refl
  some_never P (x ∷ l) h = rw (h x) (some_never P l h)

  -- one that passes is enough, and where some element passes, one can be shown
  pub some_∈ : (P : X → Bool) (x : X) (l : List X) → x ∈ l → P x ≡ true → some_of P l ≡ true
  some_∈ P x [] x3 h = elim x3 [ ]
  some_∈ P x (y ∷ l) (Memᴰ.head e) h = rw (← e, h)
  some_∈ P x (y ∷ l) (Memᴰ.tail m) h = or_true (P y) (some_of P l) (some_∈ P x l m h)

  pub ∈_some : (P : X → Bool) (l : List X) → some_of P l ≡ true → (x : X) × (x ∈ l) × (P x ≡ true)
  ∈_some P [] e = absurd (false≢true e)
  ∈_some P (y ∷ l) e = go (P y) refl (∈_some P l) e
    where
      go : (b : Bool) → P y ≡ b → (some_of P l ≡ true → (x : X) × (x ∈ l) × (P x ≡ true)) → (b || some_of P l) ≡ true
          → (x : X) × (x ∈ (y ∷ l)) × (P x ≡ true)
      go true p ih q = (y, Memᴰ.head refl, p)
      go false p ih q = let r = ih q in (r.0, Memᴰ.tail r.1, r.2)

  -- where none passes, each fails
  pub none_∈ : (P : X → Bool) (l : List X) → some_of P l ≡ false → (x : X) → x ∈ l → P x ≡ false
  none_∈ P [] e x x4 = elim x4 [ ]
  none_∈ P (y ∷ l) e x (Memᴰ.head p) = ap P p ∙ or_left (P y) (some_of P l) e
  none_∈ P (y ∷ l) e x (Memᴰ.tail m) = none_∈ P l (or_right (P y) (some_of P l) e) x m

  pub some_clear : (P : X → Bool) (l : List X) → ((x : X) → x ∈ l → P x ≡ false) → some_of P l ≡ false
  some_clear P l h = some_ext P (λ x. false) l h ∙ some_never (λ x. false) l (λ x. refl)

  pub some_or : (P Q : X → Bool) (l : List X) → some_of (λ x. P x || Q x) l ≡ (some_of P l || some_of Q l)
  some_or P Q [] = refl
  some_or P Q (x ∷ l) = rw (some_or P Q l) (or_swap (P x) (Q x) (some_of P l) (some_of Q l))

  -- once s is stamped too, the elements whose place has the stamp are those whose place had it, and those whose place is s
  pub some_stamped : (place : X → ℕ) (stamps : List ℕ) (s stamp : ℕ) (l : List X) → s < length stamps
      → some_of (λ x. eqb (get_or (set stamps s stamp) (place x) 0) stamp) l
      ≡ (some_of (λ x. eqb (get_or stamps (place x) 0) stamp) l || some_of (λ x. eqb s (place x)) l)
  some_stamped place stamps s stamp l h =
      some_ext _ _ l (λ x m. at (place x)) ∙ some_or (λ x. eqb (get_or stamps (place x) 0) stamp) (λ x. eqb s (place x)) l
    where
      at : (p : ℕ) → eqb (get_or (set stamps s stamp) p 0) stamp ≡ (eqb (get_or stamps p 0) stamp || eqb s p)
      at p =
          elim (ℕ_discrete p s) [
            | yes e ↦
                rw (e, get_or-set_same stamps s stamp 0 h, eq-eqb stamp stamp refl, eq-eqb s s refl) (sym (or_true (eqb (get_or stamps s 0) stamp) true refl))
            | no n ↦ rw (get_or-set_other stamps s p stamp 0 n, ne_eqb s p (λ e. n (sym e))) (sym (or-false (eqb (get_or stamps p 0) stamp)))
          ]

-- ---- marks that don't repeat

module _ {X : Type 0} where
  not_there : (f : X → ℕ) (l : List X) (n i : ℕ) (x : X) → some_of (eqb n) (map f l) ≡ false → At l i x → f x ≡ n → ⊥
  not_there f l n i x e a h = eqb-false n (f x) (none_∈ (eqb n) (map f l) e (f x) (Memᴰ.map f (At_∈ l i a))) (sym h)

  -- where no two elements have one mark, elements with one mark stand at one place
  pub one_place : (f : X → ℕ) (l : List X) (i j : ℕ) (x y : X) → repeats (map f l) ≡ false → At l i x → At l j y → f x ≡ f y → i ≡ j
  one_place f [] i j x y e a b h = absurd a
  one_place f (z ∷ l) zero zero x y e a b h = refl
  one_place f (z ∷ l) zero (suc j) x y e a b h =
      absurd (not_there f l (f z) j y (or_left (some_of (eqb (f z)) (map f l)) (repeats (map f l)) e) b (sym h ∙ ap f a))
  one_place f (z ∷ l) (suc i) zero x y e a b h =
      absurd (not_there f l (f z) i x (or_left (some_of (eqb (f z)) (map f l)) (repeats (map f l)) e) a (h ∙ ap f b))
  one_place f (z ∷ l) (suc i) (suc j) x y e a b h =
      ap suc (one_place f l i j x y (or_right (some_of (eqb (f z)) (map f l)) (repeats (map f l)) e) a b h)

-- ---- some number below a bound

module _ (f : ℕ → Bool) where
  -- a loop that counts down from n meets the tests so
  pub below_step : (n : ℕ) → 0 < n → some_below f n ≡ (f (n - 1) || some_below f (n - 1))
  unfolding some_below
  below_step zero h = absurd (omega arith)
  below_step (suc n) h = let e : suc n - 1 ≡ n = omega arith in rw e

  pub below_hit : (n : ℕ) → 0 < n → f (n - 1) ≡ true → some_below f n ≡ true
  below_hit n h e = below_step n h ∙ ap (λ (b : Bool). b || some_below f (n - 1)) e

  pub below_miss : (n : ℕ) → 0 < n → f (n - 1) ≡ false → some_below f n ≡ some_below f (n - 1)
  below_miss n h e = below_step n h ∙ ap (λ (b : Bool). b || some_below f (n - 1)) e

  pub below_none : (n : ℕ) → n ≤ 0 → some_below f n ≡ false
  unfolding some_below
  below_none zero h = refl
  below_none (suc n) h = absurd (omega arith)

  -- where no number below n passes, none does
  pub below_at : (n i : ℕ) → some_below f n ≡ false → i < n → f i ≡ false
  unfolding some_below
  below_at zero i e h = absurd (omega arith)
  below_at (suc n) i e h =
      elim (ℕ_discrete i n) [
        | yes p ↦ rw p (or_left (f n) (some_below f n) e)
        | no p ↦ below_at n i (or_right (f n) (some_below f n) e) (omega arith)
      ]

  pub below_clear : (n : ℕ) → ((i : ℕ) → i < n → f i ≡ false) → some_below f n ≡ false
  unfolding some_below
  below_clear zero h = refl
  below_clear (suc n) h = rw (h n (omega arith)) (below_clear n (λ i l. h i (omega arith)))

  -- one that passes is enough
  pub below_some : (n i : ℕ) → i < n → f i ≡ true → some_below f n ≡ true
  unfolding some_below
  below_some zero i h e = absurd (omega arith)
  below_some (suc n) i h e =
      elim (ℕ_discrete i n) [
        | yes p ↦ let q : f n ≡ true = rw p at e in rw q
        | no p ↦ or_true (f n) (some_below f n) (below_some n i (omega arith) e)
      ]

  -- the same for the numbers from 1 to n
  pub to_step : (n : ℕ) → 0 < n → some_to f n ≡ (f n || some_to f (n - 1))
  unfolding some_below
  to_step zero h = absurd (omega arith)
  to_step (suc n) h = let e : suc n - 1 ≡ n = omega arith in rw e

  pub to_hit : (n : ℕ) → 0 < n → f n ≡ true → some_to f n ≡ true
  to_hit n h e = to_step n h ∙ ap (λ (b : Bool). b || some_to f (n - 1)) e

  pub to_miss : (n : ℕ) → 0 < n → f n ≡ false → some_to f n ≡ some_to f (n - 1)
  to_miss n h e = to_step n h ∙ ap (λ (b : Bool). b || some_to f (n - 1)) e

-- tests that agree below the bound
pub below_within : (f g : ℕ → Bool) (n : ℕ) → ((i : ℕ) → i < n → f i ≡ g i) → some_below f n ≡ some_below g n
unfolding some_below
below_within f g zero h = refl
below_within f g (suc n) h = rw (h n (omega arith), below_within f g n (λ i l. h i (omega arith)))

-- ---- the same list

pub same_eq : (a b : List ℕ) → same a b ≡ true → a ≡ b
same_eq [] [] e = refl
same_eq [] (y ∷ b) e = absurd (false≢true e)
same_eq (x ∷ a) [] e = absurd (false≢true e)
same_eq (x ∷ a) (y ∷ b) e = rw (eqb-true x y (and_left (eqb x y) (same a b) e), same_eq a b (and_right (eqb x y) (same a b) e))

pub same_ne : (a b : List ℕ) → a ≢ b → same a b ≡ false
same_ne a b n = go (same a b) (same_eq a b)
  where
    go : (t : Bool) → (t ≡ true → a ≡ b) → t ≡ false
    go true e = absurd (n (e refl))
    go false e = refl

pub same_refl : (a : List ℕ) → same a a ≡ true
same_refl [] = refl
same_refl (x ∷ a) = rw (eq-eqb x x refl) (same_refl a)

pub to_clear : (f : ℕ → Bool) (n : ℕ) → ((i : ℕ) → 1 ≤ i → i ≤ n → f i ≡ false) → some_to f n ≡ false
to_clear f n h = below_clear (λ i. f (suc i)) n (λ i l. h (suc i) (omega arith) (omega arith))

pub to_some : (f : ℕ → Bool) (n i : ℕ) → 1 ≤ i → i ≤ n → f i ≡ true → some_to f n ≡ true
to_some f n zero h k e = absurd (omega arith)
to_some f n (suc i) h k e = below_some (λ j. f (suc j)) n i (omega arith) e

-- where no number from 1 to n passes, none does
pub to_at : (f : ℕ → Bool) (n r : ℕ) → some_to f n ≡ false → 1 ≤ r → r ≤ n → f r ≡ false
to_at f n zero e h k = absurd (omega arith)
to_at f n (suc r) e h k = below_at (λ i. f (suc i)) n r e k

-- where some number from 1 to n passes, there is one
pub below_found : (f : ℕ → Bool) (n : ℕ) → some_below f n ≡ true → (i : ℕ) × (i < n) × (f i ≡ true)
unfolding some_below
below_found f zero e = absurd (false≢true e)
below_found f (suc n) e = go (f n) refl (below_found f n) e
  where
    go : (b : Bool) → f n ≡ b → (some_below f n ≡ true → (i : ℕ) × (i < n) × (f i ≡ true)) → (b || some_below f n) ≡ true
        → (i : ℕ) × (i < suc n) × (f i ≡ true)
    go true p ih q = (n, omega arith, p)
    go false p ih q = let r = ih q in (r.0, omega (arith, r.1), r.2)

pub to_found : (f : ℕ → Bool) (n : ℕ) → some_to f n ≡ true → (r : ℕ) × (1 ≤ r) × (r ≤ n) × (f r ≡ true)
to_found f n e = let q = below_found (λ i. f (suc i)) n e in (suc q.0, omega arith, omega (arith, q.1), q.2)
