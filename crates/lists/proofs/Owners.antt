-- Every ticket below the list's total has just one owner, the one that the definitions find: the elements ahead of it are passed one by one,
-- and the ticket left over falls short of what the next one weighs. Then owners in `++`, in map and by other weights; weights of 1, by which
-- a place is an index; and the ticket list, whose entry t is the owner of t.
-- Assumes nothing.
use mathlib.Core.Path.{◌≡◌, refl, sym, ap, ◌∙◌}
use mathlib.Core.Bool.{Bool, true, false, cond}
use mathlib.Core.List.Memᴰ
use mathlib.Core.List.{List, [], ◌∷◌, ◌++◌, map, append_assoc}
use Prim.Native.Nat.{ℕ, zero, suc, ◌+◌, ◌-◌, ◌≤◌, ◌<◌}
use native.Mathlib.Omega.{arith}
use native.Mathlib.Decide.{dec_lt}
use borrow.Author.Tests.{lt-ltb, le-ltb}
use lib.Dec.{ltb}
use lib.ListN.{length, get_or, replicate, length-replicate, get_or-replicate}
use lib.Seq.{get_or-append_seam}
use Rattle.lists.specs.Joined.{◌∈◌, sum_over}
use Rattle.lists.specs.Inner.Tickets.{ahead, owner, place, offset, tickets, Owns}
use Rattle.lists.proofs.Sums.{sum_append, sum_ext, sum_one, sum_map, length_concat, map_append}
use Rattle.lists.proofs.Places.{get_or_left, get_or_right}

-- ---- each ticket has an owner

module _ {X : Type 0} {v u : X → ℕ} where
  pub owned : (l : List X) (t : ℕ) (z : X) → t < sum_over v l → Owns v u l t (owner v l t z) (place v u l t) (offset v l t)
  owned [] t z h = absurd (omega arith)
  owned (x ∷ l) t z h =
      elim (dec_lt t (v x)) [
        | yes k ↦
            rw (lt-ltb t (v x) k)
            (record { before = []; after = l; list = refl; ticket = omega arith; own = omega arith; place = refl })
        | no k ↦
            let q = owned l (t - v x) z (omega arith) in
            rw (le-ltb t (v x) (omega arith))
            (record {
              before = x ∷ q.before;
              after = q.after;
              list = ap (λ (r : List X). x ∷ r) q.list;
              ticket = omega (arith, q.ticket, q.own);
              own = omega (arith, q.ticket, q.own);
              place = omega (arith, q.place);
            })
      ]

-- ---- and just that one

module _ {X : Type 0} (v : X → ℕ) where
  ahead_split : (b : List X) (x : X) (a : List X) (o : ℕ) → o < v x → ahead v (b ++ x ∷ a) (sum_over v b + o) ≡ b
  ahead_split [] x a o h = rw (lt-ltb (0 + o) (v x) (omega arith))
  ahead_split (y ∷ b) x a o h =
      let e : v y + sum_over v b + o - v y ≡ sum_over v b + o = omega arith in
      rw (le-ltb (v y + sum_over v b + o) (v y) (omega arith), e, ahead_split b x a o h)

module _ {X : Type 0} {v u : X → ℕ} {l : List X} {t : ℕ} {x : X} {n o : ℕ} (r : Owns v u l t x n o) where
  pub owns_ahead : ahead v l t ≡ r.before
  owns_ahead = rw (r.list, r.ticket) (ahead_split v r.before x r.after o r.own)

  pub owns_owner : (z : X) → owner v l t z ≡ x
  owns_owner z = rw owns_ahead (rw r.list (get_or-append_seam r.before x r.after z))

  pub owns_place : place v u l t ≡ n
  owns_place = ap (sum_over u) owns_ahead ∙ sym r.place

  -- ---- what an owner is

  pub owns_∈ : x ∈ l
  owns_∈ = rw r.list (Memᴰ.append_right r.before (Memᴰ.head refl))

  pub before_∈ : (y : X) → y ∈ r.before → y ∈ l
  before_∈ y m = rw r.list (Memᴰ.append_left (x ∷ r.after) m)

  -- its tickets, and its share of the measure, lie within the list's
  pub owns_inside : t + (v x - o) ≤ sum_over v l
  owns_inside = rw r.list (omega (arith, r.ticket, r.own, sum_append v r.before (x ∷ r.after)))

  pub place_inside : n + u x ≤ sum_over u l
  place_inside = rw r.list (omega (arith, r.place, sum_append u r.before (x ∷ r.after)))

module _ {X : Type 0} {v u : X → ℕ} {l : List X} where
  -- an element that weighs all owns the first ticket
  pub owns_only : (b : List X) (x : X) (a : List X) → l ≡ b ++ x ∷ a → sum_over v l ≡ v x → 0 < v x → Owns v u l 0 x (sum_over u b) 0
  owns_only b x a e h s =
      record {
        before = b;
        after = a;
        list = e;
        ticket = omega (arith, ap (sum_over v) e, sum_append v b (x ∷ a));
        own = s;
        place = refl;
      }

-- ---- two lists one after the other

module _ {X : Type 0} {v u : X → ℕ} {t : ℕ} {x : X} {n o : ℕ} where
  -- a ticket of the first list has its owner there
  pub owns_left : (a b : List X) → Owns v u a t x n o → Owns v u (a ++ b) t x n o
  owns_left a b r =
      record {
        before = r.before;
        after = r.after ++ b;
        list = ap (λ (l : List X). l ++ b) r.list ∙ append_assoc r.before (x ∷ r.after) b;
        ticket = r.ticket;
        own = r.own;
        place = r.place;
      }

  -- another, less the first list's total, has it in the second, past all that the first measures
  pub owns_right : (a b : List X) → sum_over v a ≤ t → Owns v u b (t - sum_over v a) x n o → Owns v u (a ++ b) t x (sum_over u a + n) o
  owns_right a b h r =
      record {
        before = a ++ r.before;
        after = r.after;
        list = ap (λ (l : List X). a ++ l) r.list ∙ sym (append_assoc a r.before (x ∷ r.after));
        ticket = omega (arith, r.ticket, sum_append v a r.before);
        own = r.own;
        place = omega (arith, r.place, sum_append u a r.before);
      }

-- ---- map

module _ {X Y : Type 0} (f : X → Y) where
  pub ahead_map : (v : Y → ℕ) (l : List X) (t : ℕ) → ahead v (map f l) t ≡ map f (ahead (λ x. v (f x)) l t)
  ahead_map v [] t = refl
  ahead_map v (x ∷ l) t = go (ltb t (v (f x))) (ahead_map v l (t - v (f x)))
    where
      go : (b : Bool) → ahead v (map f l) (t - v (f x)) ≡ map f (ahead (λ y. v (f y)) l (t - v (f x)))
          → cond b [] (f x ∷ ahead v (map f l) (t - v (f x))) ≡ map f (cond b [] (x ∷ ahead (λ y. v (f y)) l (t - v (f x))))
      go true e = refl
      go false e = ap (λ (m : List Y). f x ∷ m) e

  pub owns_map : {v u : Y → ℕ} {l : List X} {t : ℕ} {x : X} {n o : ℕ} → Owns (λ x. v (f x)) (λ x. u (f x)) l t x n o → Owns v u (map f l) t (f x) n o
  owns_map {v} {u} {x = x} r =
      record {
        before = map f r.before;
        after = map f r.after;
        list = ap (map f) r.list ∙ map_append f r.before (x ∷ r.after);
        ticket = omega (arith, r.ticket, sum_map f v r.before);
        own = r.own;
        place = omega (arith, r.place, sum_map f u r.before);
      }

-- ---- weights and measures that are equal on the list

module _ {X : Type 0} where
  pub ahead_ext : (v v' : X → ℕ) (l : List X) (t : ℕ) → ((x : X) → x ∈ l → v x ≡ v' x) → ahead v l t ≡ ahead v' l t
  ahead_ext v v' [] t h = refl
  ahead_ext v v' (x ∷ l) t h = rw (h x (Memᴰ.head refl), ahead_ext v v' l (t - v' x) (λ y m. h y (Memᴰ.tail m)))

module _ {X : Type 0} {v u : X → ℕ} {l : List X} {t : ℕ} {x : X} {n o : ℕ} where
  pub owns_ext : (v' u' : X → ℕ) → ((y : X) → y ∈ l → v y ≡ v' y) → ((y : X) → y ∈ l → u y ≡ u' y) → Owns v u l t x n o → Owns v' u' l t x n o
  owns_ext v' u' hv hu r =
      record {
        before = r.before;
        after = r.after;
        list = r.list;
        ticket = omega (arith, r.ticket, sum_ext v v' r.before (λ y m. hv y (before_∈ r y m)));
        own = omega (arith, r.own, hv x (owns_∈ r));
        place = omega (arith, r.place, sum_ext u u' r.before (λ y m. hu y (before_∈ r y m)));
      }

-- ---- a place as an index

module _ {X : Type 0} where
  -- where every element measures 1, what stands at the place is the owner
  pub owner_at : (v : X → ℕ) (l : List X) (t : ℕ) (z : X) → owner v l t z ≡ get_or l (place v (λ x. 1) l t) z
  owner_at v l t z = ap (λ (i : ℕ). get_or l i z) (sym (sum_one (ahead v l t)))

-- ---- the ticket list

module _ {X : Type 0} (v : X → ℕ) where
  pub tickets_length : (l : List X) → length (tickets v l) ≡ sum_over v l
  tickets_length l =
      length_concat (λ x. replicate (v x) x) l
      ∙ sum_ext (λ x. length (replicate (v x) x)) v l (λ x m. length-replicate (v x) x)

  -- entry t is the owner of t
  pub tickets_at_lem : (l : List X) (t : ℕ) (z : X) → get_or (tickets v l) t z ≡ owner v l t z
  tickets_at_lem [] t z = refl
  tickets_at_lem (x ∷ l) t z =
      let n = length-replicate (v x) x in
      elim (dec_lt t (v x)) [
        | yes k ↦
            rw (lt-ltb t (v x) k)
            (get_or_left (replicate (v x) x) (tickets v l) t z (omega arith) ∙ get_or-replicate (v x) t x z k)
        | no k ↦
            rw (le-ltb t (v x) (omega arith))
            (get_or_right (replicate (v x) x) (tickets v l) t z (omega arith) ∙ rw n (tickets_at_lem l (t - v x) z))
      ]

module _ {X : Type 0} where
  -- where every element weighs 1, it is the list itself
  pub tickets_plain : (l : List X) → tickets (λ x. 1) l ≡ l
  tickets_plain [] = refl
  tickets_plain (x ∷ l) = rw (tickets_plain l)

module _ {X Y : Type 0} (f : X → Y) where
  map_replicate : (n : ℕ) (x : X) → replicate n (f x) ≡ map f (replicate n x)
  map_replicate zero x = refl
  map_replicate (suc n) x = ap (λ (l : List Y). f x ∷ l) (map_replicate n x)

  -- the tickets stay where each element is turned into another
  pub tickets_map : (v : Y → ℕ) (l : List X) → tickets v (map f l) ≡ map f (tickets (λ x. v (f x)) l)
  tickets_map v [] = refl
  tickets_map v (x ∷ l) =
      ap (λ (m : List Y). replicate (v (f x)) (f x) ++ m) (tickets_map v l)
      ∙ ap (λ (m : List Y). m ++ map f (tickets (λ y. v (f y)) l)) (map_replicate (v (f x)) x)
      ∙ sym (map_append f (replicate (v (f x)) x) (tickets (λ y. v (f y)) l))
