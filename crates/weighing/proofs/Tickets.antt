-- The ticket list of a list whose elements stand once. Its tickets stand in the elements' order. An element owns consecutive ones: the split of the
-- list at the element tells the owner of each ticket from what the elements before it weigh together on, and as the element stands once, the split
-- that a ticket of its own gives is the same.
-- Assumes nothing.
use mathlib.Core.Path.{◌≡◌, refl, sym, ap, ◌∙◌}
use mathlib.Core.Logic.{◌↔◌, ◌⊎◌, inl, inr}
use mathlib.Core.List.Memᴰ
use mathlib.Core.List.{List, [], ◌∷◌, ◌++◌}
use Prim.Native.Nat.{ℕ, zero, suc, ◌+◌, ◌-◌, ◌≤◌, ◌<◌}
use native.Mathlib.Omega.{arith}
use lib.ListN.{length, get_or, take, drop, replicate, length-append}
use lib.Seq.{split_at, take_at, get_or-append_seam}
use Rattle.lists.specs.Joined.{◌∈◌, At, sum_over}
use Rattle.lists.specs.Ordered.{Pairwise, none, more, Distinct}
use Rattle.lists.specs.Inner.Tickets.{tickets, owner, place, offset, Owns}
use Rattle.lists.proofs.Members.{At_get_or, At_inside, concat_∈}
use Rattle.lists.proofs.Orders.{pairwise_at, pairwise_concat, distinct_place}
use Rattle.lists.proofs.Owners.{owned, owns_owner, owns_inside, tickets_length, tickets_at_lem}

module _ {X : Type 0} where
  -- what is read at an index stands there
  get_or_At : (l : List X) (i : ℕ) (d : X) → i < length l → At l i (get_or l i d)
  get_or_At [] i d h = absurd (omega arith)
  get_or_At (x ∷ l) zero d h = refl
  get_or_At (x ∷ l) (suc i) d h = get_or_At l i d (omega arith)

  -- n times the same
  replicate_∈ : {y : X} (n : ℕ) (x : X) → y ∈ replicate n x → y ≡ x
  replicate_∈ zero x m = absurd (Memᴰ.not-nil m)
  replicate_∈ (suc n) x (Memᴰ.head e) = e
  replicate_∈ (suc n) x (Memᴰ.tail m) = replicate_∈ n x m

  replicate_same : (R : X → X → Type 0) (n : ℕ) (x : X) → R x x → Pairwise R (replicate n x)
  replicate_same R zero x r = none
  replicate_same R (suc n) x r = more {x = x} (λ y m. rw (replicate_∈ n x m) r) (replicate_same R n x r)

module _ {X : Type 0} (v : X → ℕ) where
  -- what owns a ticket is an element
  pub tickets_∈ : {x : X} (l : List X) → x ∈ tickets v l → x ∈ l
  tickets_∈ l m =
      let q = concat_∈ (λ y. replicate (v y) y) l m in
      rw (replicate_∈ (v q.0) q.0 q.2) q.1

  -- ---- in the elements' order

  pub tickets_ordered : (R : X → X → Type 0) (l : List X) → Pairwise R l → Pairwise (λ x y. (x ≡ y) ⊎ R x y) (tickets v l)
  tickets_ordered R l s =
      pairwise_concat R (λ x y. (x ≡ y) ⊎ R x y) (λ x. replicate (v x) x) l s
      (λ x m. replicate_same (λ x y. (x ≡ y) ⊎ R x y) (v x) x (inl refl))
      (λ x x' r y m y' m'. inr (rw (replicate_∈ (v x) x m, replicate_∈ (v x') x' m') r))

  pub ordered_at : (R : X → X → Type 0) (l : List X) → Pairwise R l → (t u : ℕ) (x y : X) → At (tickets v l) t x → At (tickets v l) u y → t < u → (x ≡ y) ⊎ R x y
  ordered_at R l s t u x y a b h =
      let q = pairwise_at (λ x y. (x ≡ y) ⊎ R x y) (tickets v l) t u x (tickets_ordered R l s) h (At_inside (tickets v l) u y b) in
      rw (At_get_or (tickets v l) t x x a, At_get_or (tickets v l) u y x b) at q

  -- ---- consecutive ones

  -- what the elements before the place i weigh together
  abbrev pub first_at : (l : List X) (i : ℕ) → ℕ
  first_at l i = sum_over v (take i l)

  -- an element that stands once, at the place i
  module _ (l : List X) (once : Distinct l) (x : X) (i : ℕ) (at : At l i x) where
    split : l ≡ take i l ++ x ∷ drop (suc i) l
    split = rw (At_get_or l i x x at) at (split_at l i x (At_inside l i x at))

    from_first : (t : ℕ) → first_at l i ≤ t → t < first_at l i + v x → At (tickets v l) t x
    from_first t h k =
        let r : Owns v v l t x (first_at l i) (t - first_at l i)
        = record { before = take i l; after = drop (suc i) l; list = split; ticket = omega arith; own = omega arith; place = refl } in
        let e : get_or (tickets v l) t x ≡ x = tickets_at_lem v l t x ∙ owns_owner r x in
        rw e at (get_or_At (tickets v l) t x (omega (arith, owns_inside r, tickets_length v l)))

    -- every split of the list at the element is this one
    split_once : (b a : List X) → l ≡ b ++ x ∷ a → b ≡ take i l
    split_once b a e =
        let here : get_or l (length b) x ≡ x = ap (λ (m : List X). get_or m (length b) x) e ∙ get_or-append_seam b x a x in
        let inside : length b < length l = omega (arith, ap length e, length-append b (x ∷ a)) in
        let same : length b ≡ i = distinct_place l (length b) i x once inside (At_inside l i x at) (here ∙ sym (At_get_or l i x x at)) in
        sym (ap (take i) e ∙ take_at b (x ∷ a) i same)

    of_first : (t : ℕ) → At (tickets v l) t x → (first_at l i ≤ t) × (t < first_at l i + v x)
    of_first t h =
        let e : owner v l t x ≡ x = sym (tickets_at_lem v l t x) ∙ At_get_or (tickets v l) t x x h in
        let inside : t < sum_over v l = omega (arith, At_inside (tickets v l) t x h, tickets_length v l) in
        let r : Owns v v l t x (place v v l t) (offset v l t) = rw e at (owned {v = v} {u = v} l t x inside) in
        omega (arith, r.ticket, r.own, ap (sum_over v) (split_once r.before r.after r.list))

    pub own_tickets : (t : ℕ) → At (tickets v l) t x ↔ ((first_at l i ≤ t) × (t < first_at l i + v x))
    own_tickets t = (of_first t, λ q. from_first t q.0 q.1)
