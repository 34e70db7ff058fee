-- Struck elements own no tickets. A ticket among the unstruck, skipped over the struck, is a ticket among all, with the same owner, place
-- and offset: of each struck element the skip passes all tickets as soon as it reaches the first. So the ticket list of what is kept is found
-- in the ticket list of all, and what the draws 0, 1, .. find, each with its place, is that list. Then the struck entries themselves: just the
-- elements that fail, rising; and the skip as a search by halves meets it.
-- Assumes nothing.
use mathlib.Core.Path.{◌≡◌, refl, sym, ap, ◌∙◌}
use mathlib.Core.Logic.{◌↔◌, inl, inr}
use mathlib.Core.Bool.{Bool, true, false, cond, ◌||◌}
use mathlib.Core.List.Memᴰ
use mathlib.Core.List.{List, [], ◌∷◌, ◌++◌, map}
use Prim.Native.Nat.{ℕ, zero, suc, ◌+◌, ◌-◌, ◌≤◌, ◌<◌}
use native.Mathlib.Omega.{arith}
use native.Mathlib.Decide.{dec_lt, ℕ_discrete}
use borrow.Author.Tests.{le-leb, lt-leb, ne_eqb}
use lib.Dec.{eqb}
use lib.ListN.{length, get_or, replicate, length-map, get_or-eq_default}
use Rattle.lists.specs.Joined.{◌∈◌, At, sum_over}
use Rattle.lists.specs.Ordered.{Pairwise, none, more}
use Rattle.lists.specs.Inner.Tickets.{ahead, owner, tickets, Owns, unstruck, struck_from, spans, skip_over, StruckAs, Apart, gone}
use Rattle.lists.specs.Searched.{bit, keep}
use Rattle.lists.specs.Inner.Struck.{numbered}
use Rattle.lists.proofs.Sums.{sum_one, sum_map, concat_ext}
use Rattle.lists.proofs.Members.{get_or_∈}
use Rattle.lists.proofs.Orders.{pairwise_map, order_unique}
use Rattle.lists.proofs.Owners.{owned, owns_owner, owns_place, owns_inside, place_inside, owns_ext, ahead_map, tickets_length, tickets_at_lem}

-- ---- the skip

module _ {X : Type 0} (P : X → Bool) (v : X → ℕ) where
  -- what begins above t is not passed
  skip_none : (t k : ℕ) (l : List X) → t < k → skip_over t (struck_from P v k l) ≡ t
  skip_none t k [] h = refl
  skip_none t k (x ∷ l) h = go (P x) (skip_none t (k + v x) l (omega arith))
    where
      go : (b : Bool) → skip_over t (struck_from P v (k + v x) l) ≡ t
          → skip_over t (cond b (struck_from P v (k + v x) l) ((k, v x) ∷ struck_from P v (k + v x) l)) ≡ t
      go true e = e
      go false e = rw (lt-leb k t h)

  -- past the unstruck it is past all
  skip_past : (t k : ℕ) (l : List X) → k + sum_over (unstruck P v) l ≤ t → k + sum_over v l ≤ skip_over t (struck_from P v k l)
  skip_past t k [] h = h
  skip_past t k (x ∷ l) h = go (P x) h (λ s. skip_past s (k + v x) l)
    where
      go : (b : Bool) → k + (cond b (v x) 0 + sum_over (unstruck P v) l) ≤ t
          → ((s : ℕ) → k + v x + sum_over (unstruck P v) l ≤ s → k + v x + sum_over v l ≤ skip_over s (struck_from P v (k + v x) l))
          → k + (v x + sum_over v l) ≤ skip_over t (cond b (struck_from P v (k + v x) l) ((k, v x) ∷ struck_from P v (k + v x) l))
      go true e ih = omega (arith, ih t (omega arith))
      go false e ih = rw (le-leb k t (omega arith)) (omega (arith, ih (t + v x) (omega arith)))

  -- ticket o of x, which stands behind b, among the unstruck and among all
  skip_split : (t k : ℕ) (b : List X) (x : X) (a : List X) (o : ℕ) → t ≡ k + (sum_over (unstruck P v) b + o) → o < unstruck P v x
      → (skip_over t (struck_from P v k (b ++ x ∷ a)) ≡ k + (sum_over v b + o)) × (o < v x)
  skip_split t k [] x a o e h = go (P x) h
    where
      go : (b : Bool) → o < cond b (v x) 0
          → (skip_over t (cond b (struck_from P v (k + v x) a) ((k, v x) ∷ struck_from P v (k + v x) a)) ≡ k + (0 + o)) × (o < v x)
      go true h = (skip_none t (k + v x) a (omega arith) ∙ e, h)
      go false h = absurd (omega arith)
  skip_split t k (y ∷ b) x a o e h = go (P y) e (λ s q. skip_split s (k + v y) b x a o q h)
    where
      rest : List (ℕ × ℕ)
      rest = struck_from P v (k + v y) (b ++ x ∷ a)

      go : (c : Bool) → t ≡ k + (cond c (v y) 0 + sum_over (unstruck P v) b + o)
          → ((s : ℕ) → s ≡ k + v y + (sum_over (unstruck P v) b + o) → (skip_over s rest ≡ k + v y + (sum_over v b + o)) × (o < v x))
          → (skip_over t (cond c rest ((k, v y) ∷ rest)) ≡ k + (v y + sum_over v b + o)) × (o < v x)
      go true e ih = let q = ih t (omega arith) in (omega (arith, q.0), q.1)
      go false e ih = let q = ih (t + v y) (omega arith) in rw (le-leb k t (omega arith)) (omega (arith, q.0), q.1)

  -- the owner of t among the unstruck owns the skip of t among all
  pub struck_owns : {u : X → ℕ} {l : List X} {t : ℕ} {x : X} {n o : ℕ} → Owns (unstruck P v) u l t x n o → Owns v u l (skip_over t (struck_from P v 0 l)) x n o
  struck_owns {t = t} {x = x} {o = o} r =
      let q = skip_split t 0 r.before x r.after o (omega (arith, r.ticket)) r.own in
      record {
        before = r.before;
        after = r.after;
        list = r.list;
        ticket = ap (λ (c : List X). skip_over t (struck_from P v 0 c)) r.list ∙ q.0 ∙ omega arith;
        own = q.1;
        place = r.place;
      }

  pub skip_over_lt : (l : List X) (t : ℕ) → t < sum_over (unstruck P v) l → skip_over t (struck_from P v 0 l) < sum_over v l
  skip_over_lt [] t h = absurd (omega arith)
  skip_over_lt (x ∷ l) t h = let r = struck_owns (owned {u = v} (x ∷ l) t x h) in omega (arith, owns_inside r, r.own)

  -- what is struck and what is not make the whole
  pub unstruck_sum : (k : ℕ) (l : List X) → sum_over (unstruck P v) l + sum_over (λ (e : ℕ × ℕ). e.1) (struck_from P v k l) ≡ sum_over v l
  unstruck_sum k [] = refl
  unstruck_sum k (x ∷ l) = go (P x) (unstruck_sum (k + v x) l)
    where
      go : (b : Bool) → sum_over (unstruck P v) l + sum_over (λ (e : ℕ × ℕ). e.1) (struck_from P v (k + v x) l) ≡ sum_over v l
          → cond b (v x) 0 + sum_over (unstruck P v) l
          + sum_over (λ (e : ℕ × ℕ). e.1) (cond b (struck_from P v (k + v x) l) ((k, v x) ∷ struck_from P v (k + v x) l))
          ≡ v x + sum_over v l
      go true e = omega arith
      go false e = omega arith

  -- ---- the ticket list of what is kept

  pub tickets_keep : (l : List X) → tickets v (keep P l) ≡ tickets (unstruck P v) l
  tickets_keep [] = refl
  tickets_keep (x ∷ l) = go (P x) (tickets_keep l)
    where
      go : (b : Bool) → tickets v (keep P l) ≡ tickets (unstruck P v) l
          → tickets v (cond b (x ∷ keep P l) (keep P l)) ≡ replicate (cond b (v x) 0) x ++ tickets (unstruck P v) l
      go true e = rw e
      go false e = e

  -- its ticket t is ticket `skip_over t` of all; past the end of one it is past the end of the other
  pub tickets_keep_at : (l : List X) (t : ℕ) (z : X) → get_or (tickets v (keep P l)) t z ≡ get_or (tickets v l) (skip_over t (struck_from P v 0 l)) z
  tickets_keep_at l t z =
      let s = skip_over t (struck_from P v 0 l) in
      rw (tickets_keep l)
      (elim (dec_lt t (sum_over (unstruck P v) l)) [
        | yes h ↦
            tickets_at_lem (unstruck P v) l t z
            ∙ sym (owns_owner (struck_owns (owned {u = v} l t z h)) z)
            ∙ sym (tickets_at_lem v l s z)
        | no h ↦
            get_or-eq_default (tickets (unstruck P v) l) z {n = t} (omega (arith, tickets_length (unstruck P v) l))
            ∙ sym (get_or-eq_default (tickets v l) z {n = s} (omega (arith, tickets_length v l, skip_past t 0 l (omega arith))))
      ])

-- ---- other tests and other lists

module _ {X : Type 0} (P Q : X → Bool) (v : X → ℕ) where
  pub struck_alike : (k : ℕ) (l : List X) → ((x : X) → x ∈ l → P x ≡ Q x) → struck_from P v k l ≡ struck_from Q v k l
  struck_alike k [] h = refl
  struck_alike k (x ∷ l) h = rw (h x (Memᴰ.head refl), struck_alike (k + v x) l (λ y m. h y (Memᴰ.tail m)))

  -- elements that weigh nothing may be struck or not
  pub tickets_alike : (l : List X) → ((x : X) → x ∈ l → unstruck P v x ≡ unstruck Q v x) → tickets v (keep P l) ≡ tickets v (keep Q l)
  tickets_alike l h =
      tickets_keep P v l
      ∙ concat_ext (λ x. replicate (unstruck P v x) x) (λ x. replicate (unstruck Q v x) x) l (λ x m. ap (λ (n : ℕ). replicate n x) (h x m))
      ∙ sym (tickets_keep Q v l)

-- ---- elements that fail and weigh something

module _ {X : Type 0} (P : X → Bool) (v : X → ℕ) where
  -- the test by which the others are struck
  abbrev heavy : X → Bool
  heavy x = P x || eqb (v x) 0

  light : (x : X) → unstruck P v x ≡ unstruck heavy v x
  light x = elim (ℕ_discrete (v x) 0) [
    | yes e ↦ none (P x) (heavy x) e
    | no e ↦ rw (ne_eqb (v x) 0 e) (same (P x))
  ]
    where
      none : (b c : Bool) → v x ≡ 0 → cond b (v x) 0 ≡ cond c (v x) 0
      none true true e = refl
      none true false e = e
      none false true e = sym e
      none false false e = refl

      same : (b : Bool) → cond b (v x) 0 ≡ cond (b || false) (v x) 0
      same true = refl
      same false = refl

  -- ticket t of what is kept is that of all at the skip over them
  pub tickets_spans_at : (l : List X) (t : ℕ) (z : X) → get_or (tickets v (keep P l)) t z ≡ get_or (tickets v l) (skip_over t (spans P v l)) z
  tickets_spans_at l t z =
      ap (λ (m : List X). get_or m t z) (tickets_alike P heavy v l (λ x m. light x))
      ∙ tickets_keep_at heavy v l t z

  -- they and what is kept make the whole
  pub tickets_spans : (l : List X) → length (tickets v (keep P l)) + sum_over (λ (e : ℕ × ℕ). e.1) (spans P v l) ≡ sum_over v l
  tickets_spans l =
      omega (
        arith,
        unstruck_sum heavy v 0 l,
        ap length (tickets_alike P heavy v l (λ x m. light x) ∙ tickets_keep heavy v l),
        tickets_length (unstruck heavy v) l,
      )

  -- so the skip of a ticket of what is kept is one of all
  pub spans_lt : (l : List X) (t : ℕ) → t < length (tickets v (keep P l)) → skip_over t (spans P v l) < sum_over v l
  spans_lt l t h =
      skip_over_lt heavy v l t
      (omega (arith, ap length (tickets_alike P heavy v l (λ x m. light x) ∙ tickets_keep heavy v l), tickets_length (unstruck heavy v) l))

-- weights that are equal on the list
module _ {X : Type 0} (v w : X → ℕ) where
  pub struck_weighs : (P : X → Bool) (k : ℕ) (l : List X) → ((x : X) → x ∈ l → v x ≡ w x) → struck_from P v k l ≡ struck_from P w k l
  struck_weighs P k [] h = refl
  struck_weighs P k (x ∷ l) h = rw (h x (Memᴰ.head refl), struck_weighs P (k + w x) l (λ y m. h y (Memᴰ.tail m)))

  pub spans_ext : (P : X → Bool) (l : List X) → ((x : X) → x ∈ l → v x ≡ w x) → spans P v l ≡ spans P w l
  spans_ext P l h =
      struck_alike (λ x. P x || eqb (v x) 0) (λ x. P x || eqb (w x) 0) v 0 l (λ x m. ap (λ (n : ℕ). P x || eqb n 0) (h x m))
      ∙ struck_weighs (λ x. P x || eqb (w x) 0) 0 l h

  pub tickets_ext : (l : List X) → ((x : X) → x ∈ l → v x ≡ w x) → tickets v l ≡ tickets w l
  tickets_ext l h = concat_ext (λ x. replicate (v x) x) (λ x. replicate (w x) x) l (λ x m. ap (λ (n : ℕ). replicate n x) (h x m))

-- where what fails a second test weighs nothing, they are those among what passes it
module _ {X : Type 0} (P Q : X → Bool) where
  pub spans_keep : (k : ℕ) (l : List X) → struck_from (λ x. P x || eqb (bit (Q x)) 0) (λ x. bit (Q x)) k l ≡ struck_from P (λ x. 1) k (keep Q l)
  spans_keep k [] = refl
  spans_keep k (x ∷ l) = go (Q x) (P x) refl (λ j. spans_keep j l)
    where
      go : (q p : Bool) → P x ≡ p → ((j : ℕ) → struck_from (λ x. P x || eqb (bit (Q x)) 0) (λ x. bit (Q x)) j l ≡ struck_from P (λ x. 1) j (keep Q l))
          → cond (p || eqb (bit q) 0) (struck_from (λ x. P x || eqb (bit (Q x)) 0) (λ x. bit (Q x)) (k + bit q) l) ((k, bit q) ∷ struck_from (λ x. P x || eqb (bit (Q x)) 0) (λ x. bit (Q x)) (k + bit q) l)
          ≡ struck_from P (λ x. 1) k (cond q (x ∷ keep Q l) (keep Q l))
      go true true e ih = rw e (ih (k + 1))
      go true false e ih = rw e (ap (λ (s : List (ℕ × ℕ)). (k, 1) ∷ s) (ih (k + 1)))
      go false true e ih = let z : k + 0 ≡ k = omega arith in rw z (ih k)
      go false false e ih = let z : k + 0 ≡ k = omega arith in rw z (ih k)

module _ {X Y : Type 0} (f : X → Y) (P : Y → Bool) (v : Y → ℕ) where
  pub struck_map : (k : ℕ) (l : List X) → struck_from P v k (map f l) ≡ struck_from (λ x. P (f x)) (λ x. v (f x)) k l
  struck_map k [] = refl
  struck_map k (x ∷ l) = rw (struck_map (k + v (f x)) l)

-- ---- what the draws find

module _ {X : Type 0} where
  -- what stands at a place of a list stands in the list of its places, and nothing else does
  pub numbered_∈ : (k : ℕ) (l : List X) {e : ℕ × X} → e ∈ numbered k l → (k ≤ e.0) × At l (e.0 - k) e.1
  numbered_∈ k [] {e = e} x' = elim x' [ ]
  numbered_∈ k (x ∷ l) {e} (Memᴰ.head f) =
      let z : k - k ≡ 0 = omega arith in rw f (omega arith, rw z refl)
  numbered_∈ k (x ∷ l) {e} (Memᴰ.tail m) =
      let q = numbered_∈ (suc k) l m in
      let z : e.0 - k ≡ suc (e.0 - suc k) = omega (arith, q.0) in
      (omega (arith, q.0), rw z q.1)

  pub ∈_numbered : (k : ℕ) (l : List X) (i : ℕ) (x : X) → At l i x → (k + i, x) ∈ numbered k l
  ∈_numbered k [] i x h = absurd h
  ∈_numbered k (y ∷ l) zero x h = let z : k + 0 ≡ k = omega arith in rw (z, h) (Memᴰ.head refl)
  ∈_numbered k (y ∷ l) (suc i) x h = let z : k + suc i ≡ suc k + i = omega arith in rw z (Memᴰ.tail (∈_numbered (suc k) l i x h))

  pub numbered_at : (k : ℕ) (l : List X) (i : ℕ) (z : X) (e : ℕ × X) → i < length l → get_or (numbered k l) i e ≡ (k + i, get_or l i z)
  numbered_at k [] i z e h = absurd (omega arith)
  numbered_at k (x ∷ l) zero z e h = let q : k + 0 ≡ k = omega arith in rw q
  numbered_at k (x ∷ l) (suc i) z e h =
      let q : k + suc i ≡ suc k + i = omega arith in rw q (numbered_at (suc k) l i z e (omega arith))

  -- without the places it is the list; so its tickets are the list's
  pub unnumbered : (k : ℕ) (l : List X) → map (λ (e : ℕ × X). e.1) (numbered k l) ≡ l
  unnumbered k [] = refl
  unnumbered k (x ∷ l) = rw (unnumbered (suc k) l)

  pub numbered_sum : (v : X → ℕ) (k : ℕ) (l : List X) → sum_over (λ (e : ℕ × X). v e.1) (numbered k l) ≡ sum_over v l
  numbered_sum v k l = sym (sum_map (λ (e : ℕ × X). e.1) v (numbered k l)) ∙ ap (sum_over v) (unnumbered k l)

  numbered_ahead : (v : X → ℕ) (k : ℕ) (l : List X) (t : ℕ) → length (ahead (λ (e : ℕ × X). v e.1) (numbered k l) t) ≡ length (ahead v l t)
  numbered_ahead v k l t =
      sym (length-map (ahead (λ (e : ℕ × X). v e.1) (numbered k l) t) (λ (e : ℕ × X). e.1))
      ∙ ap length (sym (ahead_map (λ (e : ℕ × X). e.1) v (numbered k l) t))
      ∙ ap (λ (m : List X). length (ahead v m t)) (unnumbered k l)

-- the places stay where each element is turned into another
pub numbered_map : {X Y : Type 0} (f : X → Y) (k : ℕ) (l : List X) → numbered k (map f l) ≡ map (λ (e : ℕ × X). (e.0, f e.1)) (numbered k l)
numbered_map f k [] = refl
numbered_map f k (x ∷ l) = rw (numbered_map f (suc k) l)

module _ {X : Type 0} {v u : X → ℕ} {l : List X} {t : ℕ} {x : X} {n o : ℕ} where
  -- where each element measures 1, the owner of t with its place is entry t of the ticket list
  pub owns_ticket : Owns v u l t x n o → ((y : X) → y ∈ l → u y ≡ 1) → (z : X) → get_or (tickets (λ (e : ℕ × X). v e.1) (numbered 0 l)) t (0, z) ≡ (n, x)
  owns_ticket r k z =
      let q = owns_ext v (λ y. 1) (λ y m. refl) k r in
      let i : length (ahead v l t) < length l = omega (arith, owns_place q, place_inside q, sum_one l, sum_one (ahead v l t)) in
      let e : 0 + length (ahead v l t) ≡ n = omega (arith, sum_one (ahead v l t), owns_place q) in
      tickets_at_lem (λ (e : ℕ × X). v e.1) (numbered 0 l) t (0, z)
      ∙ ap (λ (j : ℕ). get_or (numbered 0 l) j (0, z)) (numbered_ahead v 0 l t)
      ∙ numbered_at 0 l (length (ahead v l t)) z (0, z) i
      ∙ ap (λ (j : ℕ). (j, owner v l t z)) e
      ∙ ap (λ (y : X). (n, y)) (owns_owner q z)

-- ---- the struck entries

-- a begins before b, and ends before it
abbrev pub Below : ℕ × ℕ → ℕ × ℕ → Type 0
Below a b = (a.0 < b.0) × (a.0 + a.1 < b.0 + b.1)

apart_below : (l : List (ℕ × ℕ)) → Pairwise Apart l → ((e : ℕ × ℕ) → e ∈ l → 0 < e.1) → Pairwise Below l
apart_below [] s h = none
apart_below (x ∷ l) (more f s) h =
    more {x = x} {l = l}
    (λ y m. (omega (arith, f y m, h x (Memᴰ.head refl)), omega (arith, f y m, h y (Memᴰ.tail m))))
    (apart_below l s (λ e m. h e (Memᴰ.tail m)))

module _ {X : Type 0} (P : X → Bool) (v : X → ℕ) where
  -- an element that fails, in a list whose first ticket is k
  abbrev From : ℕ → List X → ℕ × ℕ → Type 0
  From k l e = (b : List X) × (x : X) × (a : List X) × (l ≡ b ++ x ∷ a) × (P x ≡ false) × (e ≡ (k + sum_over v b, v x))

  struck_from_lem : (k : ℕ) (l : List X) (e : ℕ × ℕ) → e ∈ struck_from P v k l → From k l e
  struck_from_lem k [] e m = absurd (Memᴰ.not-nil m)
  struck_from_lem k (x ∷ l) e m = go (P x) refl (struck_from_lem (k + v x) l e) m
    where
      later : From (k + v x) l e → From k (x ∷ l) e
      later q =
          let s : k + v x + sum_over v q.0 ≡ k + (v x + sum_over v q.0) = omega arith in
          (x ∷ q.0, q.1, q.2, ap (λ (c : List X). x ∷ c) q.3, q.4, rw s at q.5)

      go : (b : Bool) → P x ≡ b → (e ∈ struck_from P v (k + v x) l → From (k + v x) l e)
          → e ∈ cond b (struck_from P v (k + v x) l) ((k, v x) ∷ struck_from P v (k + v x) l) → From k (x ∷ l) e
      go true p ih n = later (ih n)
      go false p ih n =
          elim (Memᴰ.cases_cons n) [
            | inl q ↦ let s : k + 0 ≡ k = omega arith in ([], x, l, refl, p, rw s q)
            | inr q ↦ later (ih q)
          ]

  from_struck : (k : ℕ) (b : List X) (x : X) (a : List X) → P x ≡ false → (k + sum_over v b, v x) ∈ struck_from P v k (b ++ x ∷ a)
  from_struck k [] x a p = let s : k + 0 ≡ k = omega arith in rw (p, s) (Memᴰ.head refl)
  from_struck k (y ∷ b) x a p = let s : k + (v y + sum_over v b) ≡ k + v y + sum_over v b = omega arith in rw s (go (P y) (from_struck (k + v y) b x a p))
    where
      go : (c : Bool) → (k + v y + sum_over v b, v x) ∈ struck_from P v (k + v y) (b ++ x ∷ a)
          → (k + v y + sum_over v b, v x) ∈ cond c (struck_from P v (k + v y) (b ++ x ∷ a)) ((k, v y) ∷ struck_from P v (k + v y) (b ++ x ∷ a))
      go true m = m
      go false m = Memᴰ.tail m

  -- they are just the elements that fail
  pub struck_∈ : (l : List X) (e : ℕ × ℕ) → e ∈ struck_from P v 0 l ↔ StruckAs P v l e
  struck_∈ l e = (
    (λ m.
        let q = struck_from_lem 0 l e m in
        let s : 0 + sum_over v q.0 ≡ sum_over v q.0 = omega arith in
        record { before = q.0; at = q.1; after = q.2; list = q.3; fails = q.4; entry = rw s at q.5 }),
    (λ r.
        let s : 0 + sum_over v r.before ≡ sum_over v r.before = omega arith in
        rw (r.list, r.entry) (rw s at (from_struck 0 r.before r.at r.after r.fails))),
  )

  pub struck_at_∈ : {l : List X} {e : ℕ × ℕ} (r : StruckAs P v l e) → r.at ∈ l
  struck_at_∈ r = rw r.list (Memᴰ.append_right r.before (Memᴰ.head refl))

  -- no two overlap, and those with some weight rise
  pub struck_apart : (k : ℕ) (l : List X) → Pairwise Apart (struck_from P v k l)
  struck_apart k [] = none
  struck_apart k (x ∷ l) = go (P x) (struck_apart (k + v x) l)
    where
      go : (b : Bool) → Pairwise Apart (struck_from P v (k + v x) l)
          → Pairwise Apart (cond b (struck_from P v (k + v x) l) ((k, v x) ∷ struck_from P v (k + v x) l))
      go true s = s
      go false s = more {x = (k, v x)} (λ e m. let q = struck_from_lem (k + v x) l e m in omega (arith, ap (λ (c : ℕ × ℕ). c.0) q.5)) s

  pub struck_below : (l : List X) → ((x : X) → x ∈ l → P x ≡ false → 0 < v x) → Pairwise Below (struck_from P v 0 l)
  struck_below l some = apart_below (struck_from P v 0 l) (struck_apart 0 l) (λ e m. positive e ((struck_∈ l e).0 m))
    where
      positive : (e : ℕ × ℕ) → StruckAs P v l e → 0 < e.1
      positive e q = omega (arith, some q.at (struck_at_∈ q) q.fails, ap (λ (c : ℕ × ℕ). c.1) q.entry)

  -- any rising list of just what is told of them is the list of that: of their first tickets, or of where they end
  pub struck_told : (tell : ℕ × ℕ → ℕ) → ((a b : ℕ × ℕ) → Below a b → tell a < tell b)
      → (l : List X) (bad : List ℕ) → ((x : X) → x ∈ l → P x ≡ false → 0 < v x) → Pairwise ◌<◌ bad
      → ((d : ℕ) → d ∈ bad → (e : ℕ × ℕ) × StruckAs P v l e × (tell e ≡ d)) → ((e : ℕ × ℕ) → StruckAs P v l e → tell e ∈ bad)
      → bad ≡ map tell (struck_from P v 0 l)
  struck_told tell rises l bad some rising from into =
      order_unique ◌<◌ (λ x y a b. omega arith) (λ x y a e. omega arith) bad (map tell (struck_from P v 0 l)) rising
      (pairwise_map Below ◌<◌ tell (struck_from P v 0 l) (struck_below l some) rises)
      (λ d m. let q = from d m in rw (← q.2) (Memᴰ.map tell ((struck_∈ l q.0).1 q.1)))
      (λ d m. let q = Memᴰ.of_map tell (struck_from P v 0 l) m in rw (← q.2) (into q.0 ((struck_∈ l q.0).0 q.1)))

-- an owner that fails is struck, by the measure
module _ {X : Type 0} {v u : X → ℕ} {l : List X} {t : ℕ} {x : X} {n o : ℕ} where
  pub by_strike : (P : X → Bool) → P x ≡ false → Owns v u l t x n o → StruckAs P u l (n, u x)
  by_strike P e r = record { before = r.before; at = x; after = r.after; list = r.list; fails = e; entry = rw r.place }

-- ---- the skip, as a search by halves meets it

-- the first tickets, each less what the entries before it weigh, rise
pub apart_gap : (l : List (ℕ × ℕ)) (z : ℕ × ℕ) (i j : ℕ) → Pairwise Apart l → i ≤ j → j < length l → (get_or l i z).0 + gone j l ≤ (get_or l j z).0 + gone i l
apart_gap [] z i j s h k = absurd (omega arith)
apart_gap (x ∷ l) z zero zero s h k = omega arith
apart_gap (x ∷ l) z zero (suc zero) (more f s) h k = omega (arith, f (get_or l 0 z) (get_or_∈ l 0 z (omega arith)))
apart_gap (x ∷ l) z zero (suc (suc j)) (more f s) h k =
    omega (arith, f (get_or l 0 z) (get_or_∈ l 0 z (omega arith)), apart_gap l z 0 (suc j) s (omega arith) (omega arith))
apart_gap (x ∷ l) z (suc i) zero s h k = absurd (omega arith)
apart_gap (x ∷ l) z (suc i) (suc j) (more f s) h k = omega (arith, apart_gap l z i j s (omega arith) (omega arith))

-- where they are at most t for the first k entries, and above t for the next, the skip passes just these k
pub skip_over_at : (l : List (ℕ × ℕ)) (z : ℕ × ℕ) (t k : ℕ) → k ≤ length l → ((i : ℕ) → i < k → (get_or l i z).0 ≤ t + gone i l)
    → (k < length l → t + gone k l < (get_or l k z).0) → skip_over t l ≡ t + gone k l
skip_over_at [] z t zero h f g = omega arith
skip_over_at [] z t (suc k) h f g = absurd (omega arith)
skip_over_at (x ∷ l) z t zero h f g = rw (lt-leb x.0 t (omega (arith, g (omega arith)))) (omega arith)
skip_over_at (x ∷ l) z t (suc k) h f g =
    rw (le-leb x.0 t (omega (arith, f 0 (omega arith))))
    (omega (
      arith,
      skip_over_at l z (t + x.1) k (omega arith) (λ i m. omega (arith, f (suc i) (omega arith))) (λ m. omega (arith, g (omega arith))),
    ))
