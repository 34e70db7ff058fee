-- Sums, lengths and maps over `++`, concat_map and combine. Each by induction on the list.
-- Assumes nothing.
use mathlib.Core.Path.{◌≡◌, refl, sym, ap, ◌∙◌}
use mathlib.Core.Bool.{Bool, true, false, cond}
use mathlib.Core.List.Memᴰ
use mathlib.Core.List.{List, [], ◌∷◌, ◌++◌, map, append_assoc}
use Prim.Native.Nat.{ℕ, zero, suc, ◌+◌, ◌*◌, ◌≤◌, ◌<◌}
use native.Mathlib.Omega.{arith}
use native.Mathlib.Decide.{ℕ_discrete}
use lib.ListN.{length, length-append, length-map}
use Rattle.lists.specs.Joined.{◌∈◌, sum_over, concat_map, combine, up_from}

module _ {X : Type 0} where
  pub sum_append : (f : X → ℕ) (a b : List X) → sum_over f (a ++ b) ≡ sum_over f a + sum_over f b
  sum_append f [] b = omega arith
  sum_append f (x ∷ a) b = omega (arith, sum_append f a b)

  pub sum_ext : (f g : X → ℕ) (l : List X) → ((x : X) → x ∈ l → f x ≡ g x) → sum_over f l ≡ sum_over g l
  sum_ext f g [] h = refl
  sum_ext f g (x ∷ l) h = omega (arith, h x (Memᴰ.head refl), sum_ext f g l (λ y m. h y (Memᴰ.tail m)))

  pub sum_le : (f g : X → ℕ) (l : List X) → ((x : X) → x ∈ l → f x ≤ g x) → sum_over f l ≤ sum_over g l
  sum_le f g [] h = omega arith
  sum_le f g (x ∷ l) h = omega (arith, h x (Memᴰ.head refl), sum_le f g l (λ y m. h y (Memᴰ.tail m)))

  pub sum_scale : (c : ℕ) (f : X → ℕ) (l : List X) → sum_over (λ x. c * f x) l ≡ c * sum_over f l
  sum_scale c f [] = omega arith
  sum_scale c f (x ∷ l) = omega (arith, sum_scale c f l)

  pub sum_plus : (f g : X → ℕ) (l : List X) → sum_over (λ x. f x + g x) l ≡ sum_over f l + sum_over g l
  sum_plus f g [] = refl
  sum_plus f g (x ∷ l) = omega (arith, sum_plus f g l)

  -- a sum of the same number
  pub sum_const : (c : ℕ) (l : List X) → sum_over (λ x. c) l ≡ length l * c
  sum_const c [] = omega arith
  sum_const c (x ∷ l) = omega (arith, sum_const c l)

  -- a sum of nothing
  pub sum_none : (f : X → ℕ) (l : List X) → ((x : X) → x ∈ l → f x ≡ 0) → sum_over f l ≡ 0
  sum_none f l h = omega (arith, sum_ext f (λ x. 0) l h, sum_const 0 l)

  -- no part is more than the whole
  pub sum_part : (f : X → ℕ) {x : X} (l : List X) → x ∈ l → f x ≤ sum_over f l
  sum_part f [] x'' = elim x'' [ ]
  sum_part f (y ∷ l) (Memᴰ.head e) = omega (arith, ap f e)
  sum_part f (y ∷ l) (Memᴰ.tail m) = omega (arith, sum_part f l m)

  pub sum_one : (l : List X) → sum_over (λ x. 1) l ≡ length l
  sum_one l = omega (arith, sum_const 1 l)

module _ {X Y : Type 0} where
  pub sum_map : (f : X → Y) (g : Y → ℕ) (l : List X) → sum_over g (map f l) ≡ sum_over (λ x. g (f x)) l
  sum_map f g [] = refl
  sum_map f g (x ∷ l) = omega (arith, sum_map f g l)

  pub map_ext : (f g : X → Y) (l : List X) → ((x : X) → x ∈ l → f x ≡ g x) → map f l ≡ map g l
  map_ext f g [] h = refl
  map_ext f g (x ∷ l) h = rw (h x (Memᴰ.head refl), map_ext f g l (λ y m. h y (Memᴰ.tail m)))

  pub concat_ext : (f g : X → List Y) (l : List X) → ((x : X) → x ∈ l → f x ≡ g x) → concat_map f l ≡ concat_map g l
  concat_ext f g [] h = refl
  concat_ext f g (x ∷ l) h =
      let e = concat_ext f g l (λ y m. h y (Memᴰ.tail m)) in
      rw (h x (Memᴰ.head refl), e)

  pub sum_concat : (f : X → List Y) (g : Y → ℕ) (l : List X) → sum_over g (concat_map f l) ≡ sum_over (λ x. sum_over g (f x)) l
  sum_concat f g [] = refl
  sum_concat f g (x ∷ l) = omega (arith, sum_append g (f x) (concat_map f l), sum_concat f g l)

  -- a sum of sums, the other way round
  pub sum_swap : (f : X → Y → ℕ) (l : List X) (k : List Y) → sum_over (λ x. sum_over (f x) k) l ≡ sum_over (λ y. sum_over (λ x. f x y) l) k
  sum_swap f [] k = sym (sum_none (λ y. 0) k (λ y m. refl))
  sum_swap f (x ∷ l) k = omega (arith, sum_swap f l k, sum_plus (f x) (λ y. sum_over (λ z. f z y) l) k)

  pub length_concat : (f : X → List Y) (l : List X) → length (concat_map f l) ≡ sum_over (λ x. length (f x)) l
  length_concat f [] = refl
  length_concat f (x ∷ l) = omega (arith, length-append (f x) (concat_map f l), length_concat f l)

  pub concat_append : (f : X → List Y) (a b : List X) → concat_map f (a ++ b) ≡ concat_map f a ++ concat_map f b
  concat_append f [] b = refl
  concat_append f (x ∷ a) b = rw (concat_append f a b) (sym (append_assoc (f x) (concat_map f a) (concat_map f b)))

  pub map_append : (f : X → Y) (a b : List X) → map f (a ++ b) ≡ map f a ++ map f b
  map_append f [] b = refl
  map_append f (x ∷ a) b = rw (map_append f a b)

-- map over lists that are made of lists
module _ {X Y Z : Type 0} where
  pub map_concat : (h : Y → Z) (f : X → List Y) (g : X → List Z) → ((x : X) → map h (f x) ≡ g x) → (l : List X)
      → map h (concat_map f l) ≡ concat_map g l
  map_concat h f g e [] = refl
  map_concat h f g e (x ∷ l) = map_append h (f x) (concat_map f l) ∙ rw (e x, map_concat h f g e l)

module _ {X Y Z X' Y' Z' : Type 0} where
  pub map_combine : (f : X → Y → Z) (g : X' → Y' → Z') (a : X → X') (b : Y → Y') (h : Z → Z') → ((x : X) (y : Y) → h (f x y) ≡ g (a x) (b y))
      → (l : List X) (r : List Y) → map h (combine f l r) ≡ combine g (map a l) (map b r)
  map_combine f g a b h e [] r = refl
  map_combine f g a b h e (x ∷ l) r = map_append h (map (f x) r) (combine f l r) ∙ rw (row r, map_combine f g a b h e l r)
    where
      row : (r : List Y) → map h (map (f x) r) ≡ map (g (a x)) (map b r)
      row [] = refl
      row (y ∷ r) = rw (e x y, row r)

module _ {X Y Z : Type 0} where
  pub length_combine : (f : X → Y → Z) (l : List X) (r : List Y) → length (combine f l r) ≡ length l * length r
  length_combine f [] r = omega arith
  length_combine f (x ∷ l) r =
      omega (arith, length-append (map (f x) r) (combine f l r), length-map r (f x), length_combine f l r)

  -- where g of a combination is a product, so is its sum
  pub sum_combine : (f : X → Y → Z) (g : Z → ℕ) (a : X → ℕ) (b : Y → ℕ) (l : List X) (r : List Y)
      → ((x : X) → x ∈ l → (y : Y) → y ∈ r → g (f x y) ≡ a x * b y) → sum_over g (combine f l r) ≡ sum_over a l * sum_over b r
  sum_combine f g a b [] r h = omega arith
  sum_combine f g a b (x ∷ l) r h =
      omega (
        arith,
        sum_append g (map (f x) r) (combine f l r),
        sum_map (f x) g r,
        sum_ext (λ y. g (f x y)) (λ y. a x * b y) r (h x (Memᴰ.head refl)),
        sum_scale (a x) b r,
        sum_combine f g a b l r (λ z m. h z (Memᴰ.tail m)),
      )

-- a sum over a run of numbers, where only one of them counts
module _ (t : ℕ → Bool) (h : ℕ → ℕ) {c : ℕ} (here : t c ≡ true) (other : (r : ℕ) → (r ≡ c → ⊥) → t r ≡ false) where
  single_past : (k n : ℕ) → c < k → sum_over (λ r. cond (t r) (h r) 0) (up_from k n) ≡ 0
  single_past k zero u = refl
  single_past k (suc n) u = rw (other k (λ e. omega arith)) (omega (arith, single_past (suc k) n (omega arith)))

  pub sum_single : (k n : ℕ) → k ≤ c → c < k + n → sum_over (λ r. cond (t r) (h r) 0) (up_from k n) ≡ h c
  sum_single k zero l u = absurd (omega arith)
  sum_single k (suc n) l u =
      elim (ℕ_discrete k c) [
        | yes e ↦ rw (e, here) (omega (arith, single_past (suc c) n (omega arith)))
        | no e ↦ rw (other k e) (omega (arith, sum_single (suc k) n (omega arith) (omega arith)))
      ]

pub length_up_from : (k n : ℕ) → length (up_from k n) ≡ n
length_up_from k zero = refl
length_up_from k (suc n) = omega (arith, length_up_from (suc k) n)
