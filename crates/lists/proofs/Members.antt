-- What stands in a list that is made of lists, and where. Each by induction on the list.
-- Assumes nothing.
use mathlib.Core.Path.{◌≡◌, refl, sym, ap}
use mathlib.Core.Logic.{◌⊎◌, inl, inr}
use mathlib.Core.List.Memᴰ
use mathlib.Core.List.{List, [], ◌∷◌, map}
use Prim.Native.Nat.{ℕ, zero, suc, ◌+◌, ◌≤◌, ◌<◌}
use native.Mathlib.Omega.{arith}
use native.Mathlib.Decide.{ℕ_discrete}
use lib.ListN.{length, get_or}
use Rattle.lists.specs.Joined.{◌∈◌, At, concat_map, combine, up_from}

module _ {X : Type 0} where
  pub get_or_∈ : (l : List X) (i : ℕ) (d : X) → i < length l → get_or l i d ∈ l
  get_or_∈ [] i d h = absurd (omega arith)
  get_or_∈ (x ∷ l) zero d h = Memᴰ.head refl
  get_or_∈ (x ∷ l) (suc i) d h = Memᴰ.tail (get_or_∈ l i d (omega arith))

  -- what stands in a list stands at a place of it
  pub ∈_place : {x : X} (l : List X) → x ∈ l → (i : ℕ) × (i < length l) × At l i x
  ∈_place [] x'' = elim x'' [ ]
  ∈_place (y ∷ l) (Memᴰ.head e) = (0, omega arith, e)
  ∈_place (y ∷ l) (Memᴰ.tail m) = let q = ∈_place l m in (suc q.0, omega arith, q.2)

  pub At_∈ : {x : X} (l : List X) (i : ℕ) → At l i x → x ∈ l
  At_∈ [] i h = absurd h
  At_∈ (y ∷ l) zero h = Memᴰ.head h
  At_∈ (y ∷ l) (suc i) h = Memᴰ.tail (At_∈ l i h)

  pub At_get_or : (l : List X) (i : ℕ) (x d : X) → At l i x → get_or l i d ≡ x
  At_get_or [] i x d h = absurd h
  At_get_or (y ∷ l) zero x d h = sym h
  At_get_or (y ∷ l) (suc i) x d h = At_get_or l i x d h

  pub At_inside : (l : List X) (i : ℕ) (x : X) → At l i x → i < length l
  At_inside [] i x h = absurd h
  At_inside (y ∷ l) zero x h = omega arith
  At_inside (y ∷ l) (suc i) x h = omega (arith, At_inside l i x h)

module _ {X Y : Type 0} where
  pub ∈_concat : {y : Y} (f : X → List Y) (x : X) (l : List X) → x ∈ l → y ∈ f x → y ∈ concat_map f l
  ∈_concat {y = y} f x [] x3 m = elim x3 [ ]
  ∈_concat f x (z ∷ l) (Memᴰ.head e) m = Memᴰ.append_left (concat_map f l) (rw e at m)
  ∈_concat f x (z ∷ l) (Memᴰ.tail h) m = Memᴰ.append_right (f z) (∈_concat f x l h m)

  pub concat_∈ : {y : Y} (f : X → List Y) (l : List X) → y ∈ concat_map f l → (x : X) × x ∈ l × y ∈ f x
  concat_∈ f [] m = absurd (Memᴰ.not-nil m)
  concat_∈ {y} f (x ∷ l) m = go (λ r. concat_∈ f l r) (Memᴰ.append_cases (f x) m)
    where
      go : (y ∈ concat_map f l → (z : X) × z ∈ l × y ∈ f z) → y ∈ f x ⊎ y ∈ concat_map f l → (z : X) × z ∈ (x ∷ l) × y ∈ f z
      go below (inl h) = (x, Memᴰ.head refl, h)
      go below (inr h) = let r = below h in (r.0, Memᴰ.tail r.1, r.2)

module _ {X Y Z : Type 0} where
  pub ∈_combine : {x : X} {y : Y} (f : X → Y → Z) (l : List X) (r : List Y) → x ∈ l → y ∈ r → f x y ∈ combine f l r
  ∈_combine {y = y} f [] r x3 m = elim x3 [ ]
  ∈_combine {y = y} f (z ∷ l) r (Memᴰ.head e) m =
      Memᴰ.append_left (combine f l r) (Memᴰ.cast (ap (λ (q : X). f q y) e) (Memᴰ.map (f z) m))
  ∈_combine f (z ∷ l) r (Memᴰ.tail h) m = Memᴰ.append_right (map (f z) r) (∈_combine f l r h m)

  pub combine_∈ : {z : Z} (f : X → Y → Z) (l : List X) (r : List Y) → z ∈ combine f l r
      → (x : X) × (y : Y) × x ∈ l × y ∈ r × (f x y ≡ z)
  combine_∈ f [] r m = absurd (Memᴰ.not-nil m)
  combine_∈ {z} f (x ∷ l) r m = go (λ h. combine_∈ f l r h) (Memᴰ.append_cases (map (f x) r) m)
    where
      go : (z ∈ combine f l r → (x : X) × (y : Y) × x ∈ l × y ∈ r × (f x y ≡ z))
          → z ∈ map (f x) r ⊎ z ∈ combine f l r → (w : X) × (y : Y) × w ∈ (x ∷ l) × y ∈ r × (f w y ≡ z)
      go below (inl h) = let q = Memᴰ.of_map (f x) r h in (x, q.0, Memᴰ.head refl, q.1, q.2)
      go below (inr h) = let q = below h in (q.0, q.1, Memᴰ.tail q.2, q.3, q.4)

-- the numbers k, k + 1, .. are those from k to below k + n
pub up_from_∈ : {i : ℕ} (k n : ℕ) → i ∈ up_from k n → (k ≤ i) × (i < k + n)
up_from_∈ k zero m = absurd (Memᴰ.not-nil m)
up_from_∈ k (suc n) (Memᴰ.head e) = omega arith
up_from_∈ k (suc n) (Memᴰ.tail m) = let q = up_from_∈ (suc k) n m in omega arith

pub ∈_up_from : (i k n : ℕ) → k ≤ i → i < k + n → i ∈ up_from k n
∈_up_from i k zero h h' = absurd (omega arith)
∈_up_from i k (suc n) h h' =
    elim (ℕ_discrete i k) [
      | yes e ↦ Memᴰ.head e
      | no ne ↦ Memᴰ.tail (∈_up_from i (suc k) n (omega arith) (omega arith))
    ]
