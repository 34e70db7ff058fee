-- Tickets of combinations, where what a combination weighs is the product of what its parts weigh. The quotient by the right list's total is a
-- ticket of the left list, and tells the left part; the rest of it, by what the left part weighs, is a ticket of the right list, and tells the
-- right part. Measures that are products tell the place in the same way.
-- Assumes nothing.
use mathlib.Core.Path.{◌≡◌, refl, sym, ap, ◌∙◌}
use mathlib.Core.List.{List, [], ◌∷◌, ◌++◌, map, append_assoc}
use Prim.Native.Nat.{ℕ, zero, suc, ◌+◌, ◌*◌, ◌/◌, ◌%◌, ◌<◌}
use native.Mathlib.Omega.{arith}
use native.Mathlib.Nat.{div-add-mod', mod-lt, div-lt_iff_lt-mul, mul-le-mul_right}
use Rattle.lists.specs.Joined.{◌∈◌, sum_over, combine}
use Rattle.lists.specs.Inner.Tickets.{Owns, Product}
use Rattle.lists.proofs.Sums.{sum_append, sum_ext, sum_map, sum_scale, sum_combine, map_append}
use Rattle.lists.proofs.Owners.{owns_∈, before_∈}

-- ---- the two tickets, where c is the right list's total

pub product_some : (a c t : ℕ) → t < a * c → 0 < c
product_some a zero t h = absurd (omega arith)
product_some a (suc c) t h = omega arith

-- the first is one of the left list's
pub product_left : (a c t : ℕ) → t < a * c → t / c < a
product_left a c t h = (div-lt_iff_lt-mul (product_some a c t h)).1 h

module _ {X : Type 0} {v u : X → ℕ} {l : List X} {q : ℕ} {x : X} {n o : ℕ} (r : Owns v u l q x n o) where
  -- the second is one of the right list's
  pub product_right : (c t : ℕ) → 0 < c → (o * c + t % c) / v x < c
  product_right c t h =
      let w : 0 < v x = omega (arith, r.own) in
      (div-lt_iff_lt-mul w).1 (omega (arith, mod-lt t h, mul-le-mul_right c r.own))

-- ---- the owner

module _ {X Y Z : Type 0} where
  combine_append : (f : X → Y → Z) (a b : List X) (r : List Y) → combine f (a ++ b) r ≡ combine f a r ++ combine f b r
  combine_append f [] b r = refl
  combine_append f (x ∷ a) b r = rw (combine_append f a b r) (sym (append_assoc (map (f x) r) (combine f a r) (combine f b r)))

module _ {X Y Z : Type 0} {f : X → Y → Z} {l : List X} {r : List Y} where
  -- what stands before a combination: all that begin with an earlier left part, and those with this one and an earlier right part
  before_sum : {g : Z → ℕ} {gl : X → ℕ} {gr : Y → ℕ} → Product f g gl gr l r → (x : X) → x ∈ l
      → (bl : List X) → ((z : X) → z ∈ bl → z ∈ l) → (br : List Y) → ((z : Y) → z ∈ br → z ∈ r)
      → sum_over g (combine f bl r ++ map (f x) br) ≡ sum_over gl bl * sum_over gr r + gl x * sum_over gr br
  before_sum {g} {gl} {gr} h x m bl ml br mr =
      sum_append g (combine f bl r) (map (f x) br)
      ∙ rw (
        sum_combine f g gl gr bl r (λ z i y j. h.each z (ml z i) y j),
        sum_map (f x) g br,
        sum_ext (λ y. g (f x y)) (λ y. gl x * gr y) br (λ y j. h.each x m y (mr y j)),
        sum_scale (gl x) gr br,
      )

module _ {X Y Z : Type 0} {f : X → Y → Z} {v u : Z → ℕ} {vl ul : X → ℕ} {vr ur : Y → ℕ} {l : List X} {r : List Y}
    (hv : Product f v vl vr l r) (hu : Product f u ul ur l r) (t : ℕ) {x : X} {y : Y} {n o n' o' : ℕ} (a : Owns vl ul l (t / sum_over vr r) x n o)
    (b : Owns vr ur r ((o * sum_over vr r + t % sum_over vr r) / vl x) y n' o') where
  pub product_weight : v (f x y) ≡ vl x * vr y
  product_weight = hv.each x (owns_∈ a) y (owns_∈ b)

  pub product_measure : u (f x y) ≡ ul x * ur y
  product_measure = hu.each x (owns_∈ a) y (owns_∈ b)

  pub product_owns : Owns v u (combine f l r) t (f x y) (n * sum_over ur r + ul x * n') (o' * vl x + (o * sum_over vr r + t % sum_over vr r) % vl x)
  product_owns =
      let w : 0 < vl x = omega (arith, a.own) in
      let left : t ≡ (sum_over vl a.before + o) * sum_over vr r + t % sum_over vr r
      = sym (div-add-mod' t (sum_over vr r)) ∙ ap (λ (q : ℕ). q * sum_over vr r + t % sum_over vr r) a.ticket in
      let right : o * sum_over vr r + t % sum_over vr r ≡ (sum_over vr b.before + o') * vl x + (o * sum_over vr r + t % sum_over vr r) % vl x
      = sym (div-add-mod' (o * sum_over vr r + t % sum_over vr r) (vl x)) ∙ ap (λ (q : ℕ). q * vl x + (o * sum_over vr r + t % sum_over vr r) % vl x) b.ticket in
      record {
        before = combine f a.before r ++ map (f x) b.before;
        after = map (f x) b.after ++ combine f a.after r;
        list =
            ap (λ (c : List X). combine f c r) a.list
            ∙ combine_append f a.before (x ∷ a.after) r
            ∙ ap (λ (c : List Y). combine f a.before r ++ (map (f x) c ++ combine f a.after r)) b.list
            ∙ ap (λ (c : List Z). combine f a.before r ++ (c ++ combine f a.after r)) (map_append (f x) b.before (y ∷ b.after))
            ∙ ap (λ (c : List Z). combine f a.before r ++ c) (append_assoc (map (f x) b.before) (f x y ∷ map (f x) b.after) (combine f a.after r))
            ∙ sym (append_assoc (combine f a.before r) (map (f x) b.before) (f x y ∷ (map (f x) b.after ++ combine f a.after r)));
        ticket = omega (arith, before_sum hv x (owns_∈ a) a.before (before_∈ a) b.before (before_∈ b));
        own = omega (arith, product_weight, mod-lt (o * sum_over vr r + t % sum_over vr r) w, mul-le-mul_right (vl x) b.own);
        place =
            ap (λ (q : ℕ). q * sum_over ur r + ul x * n') a.place
            ∙ ap (λ (q : ℕ). sum_over ul a.before * sum_over ur r + ul x * q) b.place
            ∙ sym (before_sum hu x (owns_∈ a) a.before (before_∈ a) b.before (before_∈ b));
      }
