-- How many elements pass a test, and the places of those that do: what the laws of owners (Owners) say where an element owns one ticket if it
-- passes, and else none. And counting a list of numbers by its values.
-- Assumes nothing.
use mathlib.Core.Path.{◌≡◌, refl, sym, ap, ◌∙◌}
use mathlib.Core.Bool.{Bool, true, false, cond}
use mathlib.Core.List.Memᴰ
use mathlib.Core.List.{List, [], ◌∷◌, ◌++◌, map}
use Prim.Native.Nat.{ℕ, zero, suc, ◌+◌, ◌-◌, ◌≤◌, ◌<◌}
use native.Mathlib.Omega.{arith}
use native.Mathlib.Decide.{ℕ_discrete, dec_le}
use borrow.Author.Tests.{eq-eqb, ne_eqb}
use lib.Dec.{eqb, ltb}
use lib.ListN.{length, get_or, set, take, drop}
use lib.Seq.{get_or-set_same, get_or-set_other, split_at, length-take-le}
use Rattle.lists.specs.Joined.{◌∈◌, sum_over, concat_map, up_from}
use Rattle.lists.specs.Ordered.{Distinct, none, more}
use Rattle.lists.specs.Inner.Tickets.{ahead, owner, place, first_ticket, Owns}
use Rattle.lists.specs.Searched.{bit, how_many, first_place, times}
use Rattle.lists.proofs.Sums.{sum_append, sum_plus, sum_const, sum_one, sum_le, sum_single, length_up_from}
use Rattle.lists.proofs.Tests.{bit_true, bit_le}
use Rattle.lists.proofs.Owners.{owned, owns_place, place_inside, owns_only, owns_ext, owner_at}

-- ---- how many

module _ {X : Type 0} where
  -- an element that passes is one of them
  pub many_at : (P : X → Bool) (l : List X) (i : ℕ) (z : X) → i < length l → P (get_or l i z) ≡ true → 1 ≤ how_many P l
  many_at P [] i z h e = absurd (omega arith)
  many_at P (x ∷ l) zero z h e = rw e (omega arith)
  many_at P (x ∷ l) (suc i) z h e = omega (arith, many_at P l i z (omega arith) e)

-- ---- the place of one that passes

module _ {X : Type 0} (P : X → Bool) where
  -- its first ticket by u is the place, by u, of the owner of ticket 0, where each that passes has a ticket
  first_place_lem : (u : X → ℕ) (l : List X) → place (λ x. bit (P x)) u l 0 ≡ first_ticket u P l
  first_place_lem u [] = refl
  first_place_lem u (x ∷ l) = go (P x) (first_place_lem u l)
    where
      go : (b : Bool) → place (λ x. bit (P x)) u l 0 ≡ first_ticket u P l
          → sum_over u (cond (ltb 0 (bit b)) [] (x ∷ ahead (λ x. bit (P x)) l (0 - bit b))) ≡ cond b 0 (u x + first_ticket u P l)
      go true e = refl
      go false e = omega (arith, e)

  -- where every element weighs 1, a ticket is a place
  pub first_one : (l : List X) → first_ticket (λ x. 1) P l ≡ first_place P l
  first_one [] = refl
  first_one (x ∷ l) = rw (first_one l) (go (P x))
    where
      go : (b : Bool) → cond b 0 (1 + first_place P l) ≡ cond b 0 (suc (first_place P l))
      go true = refl
      go false = omega arith

  place_first : (l : List X) → place (λ x. bit (P x)) (λ x. 1) l 0 ≡ first_place P l
  place_first l = first_place_lem (λ x. 1) l ∙ first_one l

  -- weights that are equal on the list
  pub first_ext : (u v : X → ℕ) (l : List X) → ((x : X) → x ∈ l → u x ≡ v x) → first_ticket u P l ≡ first_ticket v P l
  first_ext u v [] h = refl
  first_ext u v (x ∷ l) h = rw (h x (Memᴰ.head refl), first_ext u v l (λ y m. h y (Memᴰ.tail m)))

  pub place_lt : (l : List X) → 0 < how_many P l → first_place P l < length l
  place_lt [] h = absurd (omega arith)
  place_lt (x ∷ l) h =
      let r = owned {v = λ y. bit (P y)} {u = λ y. 1} (x ∷ l) 0 x h in
      omega (arith, place_inside r, sum_one l, place_first (x ∷ l))

  -- what stands there passes
  pub place_hit : (l : List X) (z : X) → 0 < how_many P l → P (get_or l (first_place P l) z) ≡ true
  place_hit l z h =
      let r = owned {v = λ x. bit (P x)} {u = λ x. 1} l 0 z h in
      ap (λ (n : ℕ). P (get_or l n z)) (sym (place_first l))
      ∙ ap P (sym (owner_at (λ x. bit (P x)) l 0 z))
      ∙ bit_true (P (owner (λ x. bit (P x)) l 0 z)) (omega (arith, r.own))

  -- nothing before it does
  pub place_least : (l : List X) (i : ℕ) (z : X) → i < length l → P (get_or l i z) ≡ true → first_place P l ≤ i
  place_least [] i z h e = omega arith
  place_least (x ∷ l) zero z h e = rw e (omega arith)
  place_least (x ∷ l) (suc i) z h e = go (P x) (place_least l i z (omega arith) e)
    where
      go : (b : Bool) → first_place P l ≤ i → cond b 0 (suc (first_place P l)) ≤ suc i
      go true k = omega arith
      go false k = omega arith

  -- where just one element passes, that is its place
  pub place_only : (l : List X) (i : ℕ) (z : X) → how_many P l ≡ 1 → i < length l → P (get_or l i z) ≡ true → i ≡ first_place P l
  place_only l i z o h e =
      let b : bit (P (get_or l i z)) ≡ 1 = ap bit e in
      let r = owns_only {v = λ x. bit (P x)} {u = λ x. 1} (take i l) (get_or l i z) (drop (suc i) l) (split_at l i z h) (omega arith) (omega arith) in
      omega (arith, owns_place r, sum_one (take i l), length-take-le i l (omega arith), place_first l)

pub place_map : {X Y : Type 0} (P : Y → Bool) (f : X → Y) (l : List X) → first_place P (map f l) ≡ first_place (λ x. P (f x)) l
place_map P f [] = refl
place_map P f (x ∷ l) = rw (place_map P f l)

pub first_map : {X Y : Type 0} (u : Y → ℕ) (P : Y → Bool) (f : X → Y) (l : List X) → first_ticket u P (map f l) ≡ first_ticket (λ x. u (f x)) (λ x. P (f x)) l
first_map u P f [] = refl
first_map u P f (x ∷ l) = rw (first_map u P f l)

-- ---- owners where an element weighs 1 if it passes, and else 0

module _ {X : Type 0} {v u : X → ℕ} {l : List X} {x : X} {n o : ℕ} (r : Owns v u l 0 x n o) (P : X → Bool) (h : (y : X) → y ∈ l → v y ≡ bit (P y)) where
  -- the owner of ticket 0 is the first that passes: its place is its first ticket
  pub by_first : n ≡ first_ticket u P l
  by_first = sym (owns_place (owns_ext (λ y. bit (P y)) u h (λ y m. refl) r)) ∙ first_place_lem P u l

-- ---- a list of numbers, counted by its values

same_bit : (r : ℕ) → bit (eqb r r) ≡ 1
same_bit r = ap bit (eq-eqb r r refl)

other_bit : (r x : ℕ) → (r ≡ x → ⊥) → bit (eqb r x) ≡ 0
other_bit r x h = ap bit (ne_eqb r x h)

-- the values' counts add up to the length
pub times_sum : (k n : ℕ) (l : List ℕ) → ((x : ℕ) → x ∈ l → (k ≤ x) × (x < k + n)) → sum_over (λ r. times r l) (up_from k n) ≡ length l
times_sum k n [] h = omega (arith, sum_const 0 (up_from k n))
times_sum k n (x ∷ l) h =
    let q = h x (Memᴰ.head refl) in
    omega (
      arith,
      sum_plus (λ r. bit (eqb r x)) (λ r. times r l) (up_from k n),
      sum_single (λ r. eqb r x) (λ r. 1) (eq-eqb x x refl) (λ r e. ne_eqb r x e) k n q.0 q.1,
      times_sum k n l (λ y m. h y (Memᴰ.tail m)),
    )

-- n values, none of them twice, make a list of at most n
pub times_few : (k n : ℕ) (l : List ℕ) → ((x : ℕ) → x ∈ l → (k ≤ x) × (x < k + n)) → ((r : ℕ) → r ∈ up_from k n → times r l ≤ 1) → length l ≤ n
times_few k n l h f =
    omega (arith, times_sum k n l h, sum_le (λ r. times r l) (λ r. 1) (up_from k n) f, sum_const 1 (up_from k n), length_up_from k n)

-- n values, each of them there, make a list of at least n
pub times_many : (k n : ℕ) (l : List ℕ) → ((x : ℕ) → x ∈ l → (k ≤ x) × (x < k + n)) → ((r : ℕ) → r ∈ up_from k n → 1 ≤ times r l) → n ≤ length l
times_many k n l h f =
    omega (arith, times_sum k n l h, sum_le (λ r. 1) (λ r. times r l) (up_from k n) f, sum_const 1 (up_from k n), length_up_from k n)

-- a sum of n numbers, none above 1, is at most n; where it is n, each of them is 1
sum_most : (f : ℕ → ℕ) (l : List ℕ) → ((x : ℕ) → x ∈ l → f x ≤ 1) → sum_over f l ≤ length l
sum_most f l h = omega (arith, sum_le f (λ x. 1) l h, sum_const 1 l)

sum_full : (f : ℕ → ℕ) (l : List ℕ) → ((x : ℕ) → x ∈ l → f x ≤ 1) → sum_over f l ≡ length l → (x : ℕ) → x ∈ l → f x ≡ 1
sum_full f [] h e x x5 = elim x5 [ ]
sum_full f (y ∷ l) h e x (Memᴰ.head p) =
    rw p (omega (arith, h y (Memᴰ.head refl), sum_most f l (λ z m. h z (Memᴰ.tail m))))
sum_full f (y ∷ l) h e x (Memᴰ.tail q) =
    sum_full f l (λ z m. h z (Memᴰ.tail m)) (omega (arith, h y (Memᴰ.head refl), sum_most f l (λ z m. h z (Memᴰ.tail m)))) x q

-- a list of n out of n values, none of them twice, has each of them once
pub times_full : (k n : ℕ) (l : List ℕ) → ((x : ℕ) → x ∈ l → (k ≤ x) × (x < k + n)) → ((r : ℕ) → r ∈ up_from k n → times r l ≤ 1)
    → length l ≡ n → (r : ℕ) → r ∈ up_from k n → times r l ≡ 1
times_full k n l h f e = sum_full (λ r. times r l) (up_from k n) f (omega (arith, times_sum k n l h, length_up_from k n))

pub times_∈ : (r : ℕ) (l : List ℕ) → r ∈ l → 1 ≤ times r l
times_∈ r [] x' = elim x' [ ]
times_∈ r (x ∷ l) (Memᴰ.head e) = let b : bit (eqb r x) ≡ 1 = ap bit (eq-eqb r x e) in omega arith
times_∈ r (x ∷ l) (Memᴰ.tail m) = omega (arith, times_∈ r l m)

pub ∈_times : (r : ℕ) (l : List ℕ) → 1 ≤ times r l → r ∈ l
∈_times r [] h = absurd (omega arith)
∈_times r (x ∷ l) h =
    elim (ℕ_discrete r x) [
      | yes e ↦ Memᴰ.head e
      | no ne ↦ Memᴰ.tail (∈_times r l (omega (arith, other_bit r x ne)))
    ]

pub times_append : (r : ℕ) (a b : List ℕ) → times r (a ++ b) ≡ times r a + times r b
times_append r a b = sum_append (λ x. bit (eqb r x)) a b

-- a mark more at x does for the x in front of a list
pub times_mark : (marks : List ℕ) (x : ℕ) (l : List ℕ) (r : ℕ) → x < length marks
    → get_or (set marks x (get_or marks x 0 + 1)) r 0 + times r l ≡ get_or marks r 0 + times r (x ∷ l)
times_mark marks x l r h =
    elim (ℕ_discrete r x) [
      | yes e ↦
          let b : bit (eqb r x) ≡ 1 = ap bit (eq-eqb r x e) in
          let m : get_or (set marks x (get_or marks x 0 + 1)) r 0 ≡ get_or marks r 0 + 1 = rw (e, get_or-set_same marks x (get_or marks x 0 + 1) 0 h) in
          omega arith
      | no ne ↦ omega (arith, other_bit r x ne, get_or-set_other marks x r (get_or marks x 0 + 1) 0 ne)
    ]

-- a list without a value twice is distinct
pub times_distinct : (l : List ℕ) → ((r : ℕ) → r ∈ l → times r l ≤ 1) → Distinct l
times_distinct [] f = none
times_distinct (x ∷ l) f =
    more {x = x}
    (λ y m e. let b = same_bit x in let q = times_∈ y l m in let g = f x (Memᴰ.head refl) in omega (arith, ap (λ (z : ℕ). times z l) e))
    (times_distinct l (λ r m. omega (arith, f r (Memᴰ.tail m))))

-- and the other way round
pub distinct_times : (l : List ℕ) → Distinct l → (r : ℕ) → times r l ≤ 1
distinct_times [] none r = omega arith
distinct_times (x ∷ l) (more f s) r =
    elim (ℕ_discrete r x) [
      | yes e ↦ let z : times r l ≡ 0 = absent (λ m. f r m (sym e)) in omega (arith, bit_le (eqb r x))
      | no ne ↦ omega (arith, other_bit r x ne, distinct_times l s r)
    ]
  where
    absent : (r ∈ l → ⊥) → times r l ≡ 0
    absent n =
        elim (dec_le 1 (times r l)) [
          | yes h ↦ absurd (n (∈_times r l h))
          | no k ↦ omega arith
        ]

module _ {X : Type 0} where
  -- a value stands in all the lists together at least as often as in one of them
  pub times_concat : (r : ℕ) (f : X → List ℕ) (x : X) (l : List X) → x ∈ l → times r (f x) ≤ times r (concat_map f l)
  times_concat r f x [] x'' = elim x'' [ ]
  times_concat r f x (y ∷ l) (Memᴰ.head e) =
      omega (arith, sum_append (λ z. bit (eqb r z)) (f y) (concat_map f l), ap (λ (z : X). times r (f z)) e)
  times_concat r f x (y ∷ l) (Memᴰ.tail m) =
      omega (arith, sum_append (λ z. bit (eqb r z)) (f y) (concat_map f l), times_concat r f x l m)
