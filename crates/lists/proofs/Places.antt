-- The entry at an index of `++`, replicate, set, map, a run of numbers and a list without one of its entries; and where equal lists part.
-- Assumes nothing.
use mathlib.Core.Path.{◌≡◌, refl, sym, ap, ◌∙◌}
use mathlib.Core.List.{List, [], ◌∷◌, ◌++◌, map}
use Prim.Native.Nat.{ℕ, zero, suc, ◌+◌, ◌-◌, ◌≤◌, ◌<◌}
use native.Mathlib.Omega.{arith}
use native.Mathlib.Numerals.{add-one}
use lib.Seq.{get_or-append-add, get_or-take, get_or-drop, length-take-le, take_at, drop_at}
use lib.ListN.{length, get_or, set, take, drop, replicate, length-map, length-append, length-drop, get_or-append}
use Rattle.lists.specs.Joined.{up_from}
use Rattle.lists.proofs.Sums.{length_up_from}

module _ {X : Type 0} where
  pub get_or_left : (a b : List X) (n : ℕ) (d : X) → n < length a → get_or (a ++ b) n d ≡ get_or a n d
  get_or_left a b n d h = get_or-append a b d n h

  pub get_or_right : (a b : List X) (n : ℕ) (d : X) → length a ≤ n → get_or (a ++ b) n d ≡ get_or b (n - length a) d
  get_or_right a b n d h =
      let e : n ≡ length a + (n - length a) = omega arith in
      ap (λ (k : ℕ). get_or (a ++ b) k d) e ∙ get_or-append-add a b (n - length a) d

  -- within a list it is all one what stands past the end
  pub get_or_within : (l : List X) (i : ℕ) (d e : X) → i < length l → get_or l i d ≡ get_or l i e
  get_or_within [] i d e h = absurd (omega arith)
  get_or_within (x ∷ l) zero d e h = refl
  get_or_within (x ∷ l) (suc i) d e h = get_or_within l i d e (omega arith)

  -- n times the element that stands past the end
  pub get_or_same : (n i : ℕ) (x : X) → get_or (replicate n x) i x ≡ x
  get_or_same zero i x = refl
  get_or_same (suc n) zero x = refl
  get_or_same (suc n) (suc i) x = get_or_same n i x

module _ {X Y : Type 0} where
  pub get_d_map : (f : X → Y) (l : List X) (n : ℕ) (x : X) (y : Y) → n < length l → get_or (map f l) n y ≡ f (get_or l n x)
  get_d_map f [] n x y h = absurd (omega arith)
  get_d_map f (a ∷ l) zero x y h = refl
  get_d_map f (a ∷ l) (suc n) x y h = get_d_map f l n x y (omega arith)

pub get_or_up_from : (k n i d : ℕ) → i < n → get_or (up_from k n) i d ≡ k + i
get_or_up_from k zero i d h = absurd (omega arith)
get_or_up_from k (suc n) zero d h = omega arith
get_or_up_from k (suc n) (suc i) d h = omega (arith, get_or_up_from (suc k) n i d (omega arith))

-- what f makes of a run of numbers
module _ {Y : Type 0} (f : ℕ → Y) (k n : ℕ) where
  pub run_length : length (map f (up_from k n)) ≡ n
  run_length = length-map (up_from k n) f ∙ length_up_from k n

  pub run_at : (i : ℕ) (d : Y) → i < n → get_or (map f (up_from k n)) i d ≡ f (k + i)
  run_at i d h = get_d_map f (up_from k n) i 0 d (omega (arith, length_up_from k n)) ∙ ap f (get_or_up_from k n i 0 h)

module _ {X Y : Type 0} where
  -- what f makes of the places of a list, where it is what g makes of the elements there
  pub map_up_from : (f : ℕ → Y) (g : X → Y) (k : ℕ) (l : List X) (z : X) → ((i : ℕ) → i < length l → f (k + i) ≡ g (get_or l i z))
      → map f (up_from k (length l)) ≡ map g l
  map_up_from f g k [] z h = refl
  map_up_from f g k (x ∷ l) z h =
      let e : k + 0 ≡ k = omega arith in
      rw (
        rw e at (h 0 (omega arith)),
        map_up_from f g (suc k) l z (λ i b. let s : suc k + i ≡ k + suc i = omega arith in rw s (h (suc i) (omega arith))),
      )

-- a loop that counts up to n meets the numbers so
pub up_from_step : (k n : ℕ) → k < n → up_from k (n - k) ≡ k ∷ up_from (k + 1) (n - (k + 1))
up_from_step k n h = let e : n - k ≡ suc (n - (k + 1)) = omega arith in rw (e, add-one k)

-- a run of numbers in two parts
pub up_from_split : (k m n : ℕ) → up_from k (m + n) ≡ up_from k m ++ up_from (k + m) n
up_from_split k zero n = let e : k + 0 ≡ k = omega arith in let z : 0 + n ≡ n = omega arith in rw (e, z)
up_from_split k (suc m) n =
    let e : k + suc m ≡ suc k + m = omega arith in
    let s : suc m + n ≡ suc (m + n) = omega arith in
    rw (e, s, up_from_split (suc k) m n)

-- no entry above b is put among entries that are at most b
pub set_le : (l : List ℕ) (i v b : ℕ) → v ≤ b → ((q : ℕ) → get_or l q 0 ≤ b) → (q : ℕ) → get_or (set l i v) q 0 ≤ b
set_le [] i v b h k q = k q
set_le (x ∷ l) zero v b h k zero = h
set_le (x ∷ l) zero v b h k (suc q) = k (suc q)
set_le (x ∷ l) (suc i) v b h k zero = k 0
set_le (x ∷ l) (suc i) v b h k (suc q) = set_le l i v b h (λ j. k (suc j)) q

-- equal lists part at n into equal lists
pub parted : {X : Type 0} (n : ℕ) (a b c d : List X) → length a ≡ n → length c ≡ n → a ++ b ≡ c ++ d → (a ≡ c) × (b ≡ d)
parted n a b c d h k e =
    (sym (take_at a b n h) ∙ ap (take n) e ∙ take_at c d n k, sym (drop_at a b n h) ∙ ap (drop n) e ∙ drop_at c d n k)

-- the list without its entry q
module _ {X : Type 0} (l : List X) (q : ℕ) (inside : q < length l) where
  front_length : length (take q l) ≡ q
  front_length = length-take-le q l (omega arith)

  pub without_length : length l ≡ suc (length (take q l ++ drop (suc q) l))
  without_length = omega (arith, length-append (take q l) (drop (suc q) l), front_length, length-drop (suc q) l)

  pub without_below : (j : ℕ) (z : X) → j < q → get_or (take q l ++ drop (suc q) l) j z ≡ get_or l j z
  without_below j z h = get_or_left (take q l) (drop (suc q) l) j z (omega (arith, front_length)) ∙ get_or-take q l j z h

  pub without_from : (j : ℕ) (z : X) → q ≤ j → get_or (take q l ++ drop (suc q) l) j z ≡ get_or l (suc j) z
  without_from j z h =
      let e : suc q + (j - length (take q l)) ≡ suc j = omega (arith, front_length) in
      get_or_right (take q l) (drop (suc q) l) j z (omega (arith, front_length))
      ∙ get_or-drop (suc q) l (j - length (take q l)) z
      ∙ ap (λ (k : ℕ). get_or l k z) e
