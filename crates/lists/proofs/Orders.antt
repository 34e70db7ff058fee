-- Lists in order: what is made of lists in order is in order, two lists in order with the same elements are equal,
-- and the first d elements are just those that stand before the element at d. And lists without repetition.
-- Assumes nothing.
use mathlib.Core.Path.{◌≡◌, refl, sym, ◌∙◌}
use mathlib.Core.Logic.{inl, inr, ◌≢◌}
use mathlib.Core.List.Memᴰ
use mathlib.Core.List.{List, [], ◌∷◌, ◌++◌, map}
use Prim.Native.Nat.{ℕ, zero, suc, ◌≤◌, ◌<◌}
use native.Mathlib.Omega.{arith}
use native.Mathlib.Decide.{dec_lt}
use lib.ListN.{length, get_or, take}
use lib.Seq.{length-take-le}
use Rattle.lists.specs.Joined.{◌∈◌, concat_map, combine, up_from}
use Rattle.lists.specs.Ordered.{Pairwise, none, more, Distinct, Exactly}
use Rattle.lists.proofs.Members.{get_or_∈, concat_∈, combine_∈, up_from_∈}

module _ {X : Type 0} where
  pub pairwise_append : (R : X → X → Type 0) (a b : List X) → Pairwise R a → Pairwise R b
      → ((x : X) → x ∈ a → (y : X) → y ∈ b → R x y) → Pairwise R (a ++ b)
  pairwise_append R [] b sa sb h = sb
  pairwise_append R (x ∷ a) b (more f sa) sb h =
      more {x = x}
      (λ y m. elim (Memᴰ.append_cases a {t = b} m) [ inl p ↦ f y p | inr q ↦ h x (Memᴰ.head refl) y q ])
      (pairwise_append R a b sa sb (λ z m. h z (Memᴰ.tail m)))

  pub pairwise_one : (R : X → X → Type 0) (x : X) → Pairwise R (x ∷ [])
  pairwise_one R x = more (λ y m. absurd (Memᴰ.not-nil m)) none

  -- what stands in R to each other is distinct
  pub pairwise_distinct : (R : X → X → Type 0) → ((x y : X) → R x y → x ≢ y) → (l : List X) → Pairwise R l → Distinct l
  pairwise_distinct R irr [] none = none
  pairwise_distinct R irr (x ∷ l) (more f s) = more (λ y m. irr x y (f y m)) (pairwise_distinct R irr l s)

  pub pairwise_take : (R : X → X → Type 0) (n : ℕ) (l : List X) → Pairwise R l → Pairwise R (take n l)
  pairwise_take R zero l s = none
  pairwise_take R (suc n) [] s = none
  pairwise_take R (suc n) (x ∷ l) (more f s) = more (λ y m. f y (take_∈ n l y m)) (pairwise_take R n l s)
    where
      take_∈ : (n : ℕ) (l : List X) (y : X) → y ∈ take n l → y ∈ l
      take_∈ zero l y m = absurd (Memᴰ.not-nil m)
      take_∈ (suc n) [] y m = absurd (Memᴰ.not-nil m)
      take_∈ (suc n) (x ∷ l) y (Memᴰ.head e) = Memᴰ.head e
      take_∈ (suc n) (x ∷ l) y (Memᴰ.tail m) = Memᴰ.tail (take_∈ n l y m)

  pub pairwise_at : (R : X → X → Type 0) (l : List X) (i j : ℕ) (d : X) → Pairwise R l → i < j → j < length l → R (get_or l i d) (get_or l j d)
  pairwise_at R [] i j d s h h' = absurd (omega arith)
  pairwise_at R (x ∷ l) i zero d s h h' = absurd (omega arith)
  pairwise_at R (x ∷ l) zero (suc j) d (more f s) h h' = f (get_or l j d) (get_or_∈ l j d (omega arith))
  pairwise_at R (x ∷ l) (suc i) (suc j) d (more f s) h h' = pairwise_at R l i j d s (omega arith) (omega arith)

  -- an element that stands once has one place
  pub distinct_place : (l : List X) (i j : ℕ) (d : X) → Distinct l → i < length l → j < length l → get_or l i d ≡ get_or l j d → i ≡ j
  distinct_place l i j d s h k e =
      elim (dec_lt i j) [
        | yes b ↦ absurd (pairwise_at ◌≢◌ l i j d s b k e)
        | no a ↦
            elim (dec_lt j i) [
              | yes b ↦ absurd (pairwise_at ◌≢◌ l j i d s b h (sym e))
              | no b ↦ omega arith
            ]
      ]

  -- in a list of fewer than two elements all are equal, and a list without repetition whose elements are all equal has fewer than two
  pub few_same : (l : List X) → length l < 2 → (x y : X) → x ∈ l → y ∈ l → x ≡ y
  few_same [] h x y m k = elim m [ ]
  few_same (z ∷ []) h x y m k = Memᴰ.eq_of_singleton m ∙ sym (Memᴰ.eq_of_singleton k)
  few_same (z ∷ w ∷ l) h x y m k = absurd (omega arith)

  pub same_few : (l : List X) → Distinct l → ((x y : X) → x ∈ l → y ∈ l → x ≡ y) → length l < 2
  same_few [] d f = omega arith
  same_few (x ∷ []) d f = omega arith
  same_few (x ∷ y ∷ l) (more h d) f = absurd (h y (Memᴰ.head refl) (f x y (Memᴰ.head refl) (Memᴰ.tail (Memᴰ.head refl))))

  -- ---- how many

  -- a list without one of its elements still has every other
  without : {x : X} (l : List X) → x ∈ l → (r : List X) × (length l ≡ suc (length r)) × ((y : X) → y ∈ l → y ≢ x → y ∈ r)
  without {x = x} [] x'' = elim x'' [ ]
  without {x} (z ∷ l) (Memᴰ.head e) = (l, refl, λ y m n. go y n m)
    where
      go : (y : X) → y ≢ x → y ∈ (z ∷ l) → y ∈ l
      go y n (Memᴰ.head f) = absurd (n (f ∙ sym e))
      go y n (Memᴰ.tail m) = m
  without {x} (z ∷ l) (Memᴰ.tail k) = let q = without l k in (z ∷ q.0, omega (arith, q.1), λ y m n. go q.0 y (λ m. q.2 y m n) m)
    where
      go : (r : List X) (y : X) → (y ∈ l → y ∈ r) → y ∈ (z ∷ l) → y ∈ (z ∷ r)
      go r y f (Memᴰ.head e) = Memᴰ.head e
      go r y f (Memᴰ.tail m) = Memᴰ.tail (f m)

  pub distinct_le : (l r : List X) → Distinct l → ((x : X) → x ∈ l → x ∈ r) → length l ≤ length r
  distinct_le [] r d f = omega arith
  distinct_le (x ∷ l) r (more h d) f =
      let q = without r (f x (Memᴰ.head refl)) in
      omega (arith, q.1, distinct_le l q.0 d (λ y m. q.2 y (f y (Memᴰ.tail m)) (λ e. h y m (sym e))))

  pub exactly_unique : {P : X → Type 0} {m n : ℕ} → Exactly m P → Exactly n P → m ≡ n
  exactly_unique a b =
      omega (
        arith,
        a.many,
        b.many,
        distinct_le a.listed b.listed a.once (λ x i. (b.all x).0 ((a.all x).1 i)),
        distinct_le b.listed a.listed b.once (λ x i. (a.all x).0 ((b.all x).1 i)),
      )

module _ {X Y : Type 0} where
  pub pairwise_concat : (S : X → X → Type 0) (R : Y → Y → Type 0) (f : X → List Y) (l : List X) → Pairwise S l
      → ((x : X) → x ∈ l → Pairwise R (f x))
      → ((x x' : X) → S x x' → (y : Y) → y ∈ f x → (y' : Y) → y' ∈ f x' → R y y')
      → Pairwise R (concat_map f l)
  pairwise_concat S R f [] s h c = none
  pairwise_concat S R f (x ∷ l) (more g s) h c =
      pairwise_append R (f x) (concat_map f l) (h x (Memᴰ.head refl)) (pairwise_concat S R f l s (λ z m. h z (Memᴰ.tail m)) c)
      (λ y m y' m'. let q = concat_∈ f l m' in c x q.0 (g q.0 q.1) y m y' q.2)

  pub pairwise_map : (S : X → X → Type 0) (R : Y → Y → Type 0) (f : X → Y) (l : List X) → Pairwise S l
      → ((x x' : X) → S x x' → R (f x) (f x')) → Pairwise R (map f l)
  pairwise_map S R f [] s h = none
  pairwise_map S R f (x ∷ l) (more g s) h =
      more {x = f x} (λ y m. let q = Memᴰ.of_map f l m in rw (← q.2) (h x q.0 (g q.0 q.1))) (pairwise_map S R f l s h)

module _ {X Y Z : Type 0} where
  pub pairwise_combine : (S : X → X → Type 0) (S' : Y → Y → Type 0) (R : Z → Z → Type 0) (f : X → Y → Z) (l : List X) (r : List Y)
      → Pairwise S l → Pairwise S' r
      → ((x : X) (y y' : Y) → S' y y' → R (f x y) (f x y'))
      → ((x x' : X) → x ∈ l → x' ∈ l → S x x' → (y y' : Y) → R (f x y) (f x' y'))
      → Pairwise R (combine f l r)
  pairwise_combine S S' R f [] r sl sr h c = none
  pairwise_combine S S' R f (x ∷ l) r (more g sl) sr h c =
      pairwise_append R (map (f x) r) (combine f l r) (pairwise_map S' R (f x) r sr (h x))
      (pairwise_combine S S' R f l r sl sr h (λ z z' m m'. c z z' (Memᴰ.tail m) (Memᴰ.tail m')))
      (λ a ma b mb.
      let p = Memᴰ.of_map (f x) r ma in
      let q = combine_∈ f l r mb in
      rw (← p.2, ← q.4) (c x q.0 (Memᴰ.head refl) (Memᴰ.tail q.2) (g q.0 q.2) p.0 q.1))

pub up_from_rising : (k n : ℕ) → Pairwise ◌<◌ (up_from k n)
up_from_rising k zero = none
up_from_rising k (suc n) = more {x = k} (λ y m. (up_from_∈ (suc k) n m).0) (up_from_rising (suc k) n)

-- an order in which nothing stands before itself, and no two before each other
module _ {X : Type 0} (R : X → X → Type 0) (asym : (x y : X) → R x y → R y x → ⊥) (irrefl : (x y : X) → R x y → x ≢ y) where
  take_before : (l : List X) (d : ℕ) (z u : X) → Pairwise R l → d < length l → u ∈ take d l → (u ∈ l) × R u (get_or l d z)
  take_before [] d z u s h m = absurd (omega arith)
  take_before (x ∷ l) zero z u s h m = absurd (Memᴰ.not-nil m)
  take_before (x ∷ l) (suc d) z u (more f s) h (Memᴰ.head e) =
      (Memᴰ.head e, rw e (f (get_or l d z) (get_or_∈ l d z (omega arith))))
  take_before (x ∷ l) (suc d) z u (more f s) h (Memᴰ.tail m) =
      let q = take_before l d z u s (omega arith) m in (Memᴰ.tail q.0, q.1)

  before_take : (l : List X) (d : ℕ) (z u : X) → Pairwise R l → d < length l → u ∈ l → R u (get_or l d z) → u ∈ take d l
  before_take [] d z u s h m r = absurd (omega arith)
  before_take (x ∷ l) zero z u (more f s) h (Memᴰ.head e) r = absurd (irrefl u x r e)
  before_take (x ∷ l) zero z u (more f s) h (Memᴰ.tail m) r = absurd (asym u x r (f u m))
  before_take (x ∷ l) (suc d) z u (more f s) h (Memᴰ.head e) r = Memᴰ.head e
  before_take (x ∷ l) (suc d) z u (more f s) h (Memᴰ.tail m) r = Memᴰ.tail (before_take l d z u s (omega arith) m r)

  -- exactly the d first elements stand before the element at d
  pub exactly_before : (l : List X) (d : ℕ) (z : X) → Pairwise R l → d < length l → Exactly d (λ u. (u ∈ l) × R u (get_or l d z))
  exactly_before l d z s h =
      record {
        listed = take d l;
        many = length-take-le d l (omega arith);
        once = pairwise_distinct R irrefl (take d l) (pairwise_take R d l s);
        all = λ u. (λ q. before_take l d z u s h q.0 q.1, take_before l d z u s h);
      }

  -- two lists in order with the same elements are equal
  pub order_unique : (a b : List X) → Pairwise R a → Pairwise R b → ((x : X) → x ∈ a → x ∈ b) → ((x : X) → x ∈ b → x ∈ a) → a ≡ b
  order_unique [] [] sa sb f g = refl
  order_unique [] (y ∷ b) sa sb f g = absurd (Memᴰ.not-nil (g y (Memᴰ.head refl)))
  order_unique (x ∷ a) [] sa sb f g = absurd (Memᴰ.not-nil (f x (Memᴰ.head refl)))
  order_unique (x ∷ a) (y ∷ b) (more ha sa) (more hb sb) f g =
      rw (
        same,
        order_unique a b sa sb
            (λ z m. elim (Memᴰ.cases_cons (f z (Memᴰ.tail m))) [ inl e ↦ absurd (irrefl x z (ha z m) (rw (e, same))) | inr n ↦ n ])
            (λ z m. elim (Memᴰ.cases_cons (g z (Memᴰ.tail m))) [ inl e ↦ absurd (irrefl y z (hb z m) (rw (e, ← same))) | inr n ↦ n ]),
      )
    where
      same : x ≡ y
      same = elim (Memᴰ.cases_cons (f x (Memᴰ.head refl))) [
        | inl e ↦ e
        | inr m ↦ elim (Memᴰ.cases_cons (g y (Memᴰ.head refl))) [
          | inl e ↦ sym e
          | inr n ↦ absurd (asym x y (ha y n) (hb x m))
        ]
      ]
