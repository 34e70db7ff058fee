-- Struck places: what the laws of struck elements (Struck) say where every element weighs 1. A struck entry is then a place with the weight 1,
-- and the ticket list of what is kept is what is kept. First what is kept at all, by induction on the list.
-- Assumes nothing.
use mathlib.Core.Path.{◌≡◌, refl, sym, ap, ◌∙◌}
use mathlib.Core.Logic.{◌≢◌}
use mathlib.Core.Bool.{Bool, true, false, cond, ◌&&◌}
use mathlib.Core.List.Memᴰ
use mathlib.Core.List.{List, [], ◌∷◌, ◌++◌, map}
use Prim.Native.Nat.{ℕ, zero, suc, ◌+◌, ◌<◌}
use native.Mathlib.Omega.{arith}
use lib.Seq.{split_at, get_or_at, length-take-le}
use lib.ListN.{length, get_or, take, drop, length-append}
use Rattle.lists.specs.Joined.{◌∈◌, sum_over, up_from}
use Rattle.lists.specs.Ordered.{Pairwise, more, Distinct, Exactly}
use Rattle.lists.specs.Searched.{bit, how_many, keep}
use Rattle.lists.specs.Inner.Tickets.{struck_from}
use Rattle.lists.specs.Inner.Struck.{struck}
use Rattle.lists.proofs.Sums.{sum_one, sum_map}
use Rattle.lists.proofs.Members.{∈_place, At_get_or}
use Rattle.lists.proofs.Orders.{pairwise_map}
use Rattle.lists.proofs.Owners.{tickets_plain, tickets_length}
use Rattle.lists.proofs.Struck.{unstruck_sum, tickets_keep, struck_alike, Below, struck_∈, struck_below}

abbrev single : ℕ → ℕ × ℕ
single h = (h, 1)

-- ---- what is kept

module _ {X : Type 0} where
  pub keep_∈ : (P : X → Bool) (l : List X) (u : X) → u ∈ keep P l → (u ∈ l) × (P u ≡ true)
  keep_∈ P [] u m = absurd (Memᴰ.not-nil m)
  keep_∈ P (x ∷ l) u m = go (P x) refl (λ n. keep_∈ P l u n) m
    where
      go : (b : Bool) → P x ≡ b → (u ∈ keep P l → (u ∈ l) × (P u ≡ true)) → u ∈ cond b (x ∷ keep P l) (keep P l) → (u ∈ (x ∷ l)) × (P u ≡ true)
      go true e ih (Memᴰ.head q) = (Memᴰ.head q, ap P q ∙ e)
      go true e ih (Memᴰ.tail n) = let r = ih n in (Memᴰ.tail r.0, r.1)
      go false e ih n = let r = ih n in (Memᴰ.tail r.0, r.1)

  pub ∈_keep : (P : X → Bool) (l : List X) (u : X) → u ∈ l → P u ≡ true → u ∈ keep P l
  ∈_keep P [] u m t = absurd (Memᴰ.not-nil m)
  ∈_keep P (x ∷ l) u (Memᴰ.head q) t = rw (sym (ap P q) ∙ t) (Memᴰ.head q)
  ∈_keep P (x ∷ l) u (Memᴰ.tail n) t = go (P x) (∈_keep P l u n t)
    where
      go : (b : Bool) → u ∈ keep P l → u ∈ cond b (x ∷ keep P l) (keep P l)
      go true k = Memᴰ.tail k
      go false k = k

  pub keep_pairwise : (R : X → X → Type 0) (P : X → Bool) (l : List X) → Pairwise R l → Pairwise R (keep P l)
  keep_pairwise R P [] s = s
  keep_pairwise R P (x ∷ l) (more f s) = go (P x) (keep_pairwise R P l s)
    where
      go : (b : Bool) → Pairwise R (keep P l) → Pairwise R (cond b (x ∷ keep P l) (keep P l))
      go true k = more (λ y m. f y (keep_∈ P l y m).0) k
      go false k = k

  pub keep_map : {Y : Type 0} (f : X → Y) (P : Y → Bool) (l : List X) → keep P (map f l) ≡ map f (keep (λ x. P (f x)) l)
  keep_map f P [] = refl
  keep_map f P (x ∷ l) = go (P (f x)) (keep_map f P l)
    where
      go : (b : Bool) → keep P (map f l) ≡ map f (keep (λ x. P (f x)) l)
          → cond b (f x ∷ keep P (map f l)) (keep P (map f l)) ≡ map f (cond b (x ∷ keep (λ x. P (f x)) l) (keep (λ x. P (f x)) l))
      go true e = rw e
      go false e = e

  pub keep_ext : (P Q : X → Bool) (l : List X) → ((x : X) → x ∈ l → P x ≡ Q x) → keep P l ≡ keep Q l
  keep_ext P Q [] h = refl
  keep_ext P Q (x ∷ l) h = rw (h x (Memᴰ.head refl), keep_ext P Q l (λ y m. h y (Memᴰ.tail m)))

  -- what passes two tests, one after the other
  pub keep_keep : (P Q : X → Bool) (l : List X) → keep P (keep Q l) ≡ keep (λ x. Q x && P x) l
  keep_keep P Q [] = refl
  keep_keep P Q (x ∷ l) = go (Q x) (P x) refl (keep_keep P Q l)
    where
      go : (q p : Bool) → P x ≡ p → keep P (keep Q l) ≡ keep (λ x. Q x && P x) l
          → keep P (cond q (x ∷ keep Q l) (keep Q l)) ≡ cond (q && p) (x ∷ keep (λ x. Q x && P x) l) (keep (λ x. Q x && P x) l)
      go true true e ih = rw (e, ih)
      go true false e ih = rw (e, ih)
      go false p e ih = ih

  -- all pass, or none does
  pub keep_all : (P : X → Bool) (l : List X) → ((x : X) → x ∈ l → P x ≡ true) → keep P l ≡ l
  keep_all P [] h = refl
  keep_all P (x ∷ l) h = rw (h x (Memᴰ.head refl), keep_all P l (λ y m. h y (Memᴰ.tail m)))

  pub keep_none : (P : X → Bool) (l : List X) → ((x : X) → x ∈ l → P x ≡ false) → keep P l ≡ []
  keep_none P [] h = refl
  keep_none P (x ∷ l) h = rw (h x (Memᴰ.head refl)) (keep_none P l (λ y m. h y (Memᴰ.tail m)))

  -- all pass but the element at q
  pub keep_but : (P : X → Bool) (l : List X) (q : ℕ) (z : X) → q < length l → P (get_or l q z) ≡ false
      → ((i : ℕ) → i < length l → i ≢ q → P (get_or l i z) ≡ true) → keep P l ≡ take q l ++ drop (suc q) l
  keep_but P [] q z h f t = absurd (omega arith)
  keep_but P (x ∷ l) zero z h f t =
      rw f
      (keep_all P l
      (λ y m. let p = ∈_place l m in ap P (sym (At_get_or l p.0 y z p.2)) ∙ t (suc p.0) (omega (arith, p.1)) (λ e. omega arith)))
  keep_but P (x ∷ l) (suc q) z h f t =
      rw (t 0 (omega arith) (λ e. omega arith))
      (ap (λ (r : List X). x ∷ r) (keep_but P l q z (omega arith) f (λ i k n. t (suc i) (omega arith) (λ e. n (omega arith)))))

  -- a sum of what is 0 where the test fails
  pub sum_keep : (P : X → Bool) (f : X → ℕ) (l : List X) → ((x : X) → x ∈ l → P x ≡ false → f x ≡ 0) → sum_over f (keep P l) ≡ sum_over f l
  sum_keep P f [] h = refl
  sum_keep P f (x ∷ l) h = go (P x) (h x (Memᴰ.head refl)) (sum_keep P f l (λ y m. h y (Memᴰ.tail m)))
    where
      go : (b : Bool) → (b ≡ false → f x ≡ 0) → sum_over f (keep P l) ≡ sum_over f l → sum_over f (cond b (x ∷ keep P l) (keep P l)) ≡ f x + sum_over f l
      go true z e = omega arith
      go false z e = omega (arith, z refl)

  -- as many as pass
  pub keep_many : (P : X → Bool) (l : List X) → length (keep P l) ≡ how_many P l
  keep_many P l =
      ap length (sym (tickets_plain (keep P l)) ∙ tickets_keep P (λ x. 1) l)
      ∙ tickets_length (λ x. bit (P x)) l

  -- as many things of a list without repetition pass as are counted
  pub exactly_many : (P : X → Bool) (l : List X) → Distinct l → Exactly (how_many P l) (λ u. (u ∈ l) × (P u ≡ true))
  exactly_many P l s =
      record {
        listed = keep P l;
        many = keep_many P l;
        once = keep_pairwise ◌≢◌ P l s;
        all = λ u. (λ q. ∈_keep P l u q.0 q.1, keep_∈ P l u);
      }

-- the numbers of a run, each one more
pub keep_later : (P : ℕ → Bool) (k n : ℕ) → keep P (up_from (suc k) n) ≡ map suc (keep (λ a. P (suc a)) (up_from k n))
keep_later P k zero = refl
keep_later P k (suc n) = go (P (suc k)) _ _ (keep_later P (suc k) n)
  where
    go : (b : Bool) (x y : List ℕ) → x ≡ map suc y → cond b (suc k ∷ x) x ≡ map suc (cond b (k ∷ y) y)
    go true x y e = ap (λ (l : List ℕ). suc k ∷ l) e
    go false x y e = e

-- ---- the struck places

module _ {X : Type 0} (P : X → Bool) where
  pub singles : (k : ℕ) (l : List X) → struck_from P (λ x. 1) k l ≡ map single (map (λ (e : ℕ × ℕ). e.0) (struck_from P (λ x. 1) k l))
  singles k [] = refl
  singles k (x ∷ l) = go (P x) (struck_from P (λ y. 1) (k + 1) l) (singles (k + 1) l)
    where
      go : (b : Bool) (s : List (ℕ × ℕ)) → s ≡ map single (map (λ (e : ℕ × ℕ). e.0) s)
          → cond b s (single k ∷ s) ≡ map single (map (λ (e : ℕ × ℕ). e.0) (cond b s (single k ∷ s)))
      go true s e = e
      go false s e = ap (λ (m : List (ℕ × ℕ)). single k ∷ m) e

  -- what is kept and what is struck make the whole
  pub keep_length : (l : List X) → length (keep P l) + length (struck P l) ≡ length l
  keep_length l =
      omega (
        arith,
        keep_many P l,
        unstruck_sum P (λ x. 1) 0 l,
        ap (sum_over (λ (e : ℕ × ℕ). e.1)) (singles 0 l),
        sum_map single (λ (e : ℕ × ℕ). e.1) (struck P l),
        sum_one (struck P l),
        sum_one l,
      )

  pub struck_rising : (l : List X) → Pairwise ◌<◌ (struck P l)
  struck_rising l =
      pairwise_map Below ◌<◌ (λ (e : ℕ × ℕ). e.0) (struck_from P (λ x. 1) 0 l) (struck_below P (λ x. 1) l (λ x m f. omega arith)) (λ a b h. h.0)

  pub struck_fails : (l : List X) (i : ℕ) (z : X) → i ∈ struck P l → (i < length l) × (P (get_or l i z) ≡ false)
  struck_fails l i z m =
      let q = Memᴰ.of_map (λ (e : ℕ × ℕ). e.0) (struck_from P (λ x. 1) 0 l) m in
      let r = (struck_∈ P (λ x. 1) l q.0).0 q.1 in
      let n : length r.before ≡ i = omega (arith, q.2, ap (λ (e : ℕ × ℕ). e.0) r.entry, sum_one r.before) in
      let at : get_or l i z ≡ r.at = ap (λ (c : List X). get_or c i z) r.list ∙ get_or_at r.before r.at r.after z i n in
      (omega (arith, ap length r.list, length-append r.before (r.at ∷ r.after)), ap P at ∙ r.fails)

  pub fails_struck : (l : List X) (i : ℕ) (z : X) → i < length l → P (get_or l i z) ≡ false → i ∈ struck P l
  fails_struck l i z h e =
      let n : sum_over (λ x. 1) (take i l) ≡ i = sum_one (take i l) ∙ length-take-le i l (omega arith) in
      Memᴰ.map (λ (e : ℕ × ℕ). e.0)
      ((struck_∈ P (λ x. 1) l (single i)).1
      (record { before = take i l; at = get_or l i z; after = drop (suc i) l; list = split_at l i z h; fails = e; entry = rw n }))

module _ {X : Type 0} where
  pub struck_ext : (P Q : X → Bool) (l : List X) → ((x : X) → x ∈ l → P x ≡ Q x) → struck P l ≡ struck Q l
  struck_ext P Q l h = ap (map (λ (e : ℕ × ℕ). e.0)) (struck_alike P Q (λ x. 1) 0 l h)
