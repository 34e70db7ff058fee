-- Walks along a chain of links: the equations of a walk up to a bound, and what is known of one that ends within it. Such a walk is
-- the same under every larger bound, goes on to its end from every number that it meets, and meets none twice.
-- Assumes nothing.
use mathlib.Core.Path.{◌≡◌, refl, sym, ap, ◌∙◌}
use mathlib.Core.Bool.{true, false}
use mathlib.Core.List.Memᴰ
use mathlib.Core.List.{List, [], ◌∷◌}
use Prim.Native.Nat.{ℕ, zero, suc, ◌-◌, ◌≤◌, ◌<◌}
use native.Mathlib.Omega.{arith}
use native.Mathlib.Decide.{dec_le}
use borrow.Author.Tests.{leb-true, le-leb, lt-leb}
use lib.Dec.{leb}
use lib.ListN.{length}
use Rattle.lists.specs.Joined.{◌∈◌}
use Rattle.lists.specs.Ordered.{Distinct, none, more}
use Rattle.lists.specs.Linked.{is_number, met_from, Walk, ends, goes}
use Rattle.lists.proofs.Tests.{and_left, and_right, and_false}

-- ---- the numbers of things

module _ (last r : ℕ) where
  pub zero_none : r ≡ 0 → is_number last r ≡ false
  zero_none e = rw (lt-leb 1 r (omega arith))

  pub above_none : last < r → is_number last r ≡ false
  above_none h = and_false (leb 1 r) (leb r last) (lt-leb r last h)

  pub inside_one : 1 ≤ r → r ≤ last → is_number last r ≡ true
  inside_one h k = rw (le-leb 1 r h, le-leb r last k)

  pub one_inside : is_number last r ≡ true → (1 ≤ r) × (r ≤ last)
  one_inside e = (leb-true 1 r (and_left (leb 1 r) (leb r last) e), leb-true r last (and_right (leb 1 r) (leb r last) e))

module _ (next : ℕ → ℕ) (last : ℕ) where
  -- ---- step by step

  -- a walk ends at a number that no thing has: at 0, or above the last; and at its bound
  pub met_none : (n r : ℕ) → is_number last r ≡ false → met_from next last n r ≡ []
  unfolding met_from
  met_none zero r e = refl
  met_none (suc n) r e = rw e

  pub met_zero : (n r : ℕ) → r ≡ 0 → met_from next last n r ≡ []
  met_zero n r e = met_none n r (zero_none last r e)

  pub met_above : (n r : ℕ) → last < r → met_from next last n r ≡ []
  met_above n r h = met_none n r (above_none last r h)

  pub met_out : (n r : ℕ) → n ≤ 0 → met_from next last n r ≡ []
  unfolding met_from
  met_out zero r h = refl
  met_out (suc n) r h = absurd (omega arith)

  -- at a thing it goes on with its next
  pub met_more : (n r : ℕ) → 1 ≤ r → r ≤ last → met_from next last (suc n) r ≡ r ∷ met_from next last n (next r)
  unfolding met_from
  met_more n r h k = rw (inside_one last r h k)

  -- the same, as a loop that counts down meets it
  pub met_step : (n r : ℕ) → 0 < n → 1 ≤ r → r ≤ last → met_from next last n r ≡ r ∷ met_from next last (n - 1) (next r)
  met_step zero r h h₁ h₂ = absurd (omega arith)
  met_step (suc n) r h h₁ h₂ = let e : suc n - 1 ≡ n = omega arith in rw e (met_more n r h₁ h₂)

  -- a number is a thing's, or the walk from it meets nothing
  pub data Place (r : ℕ) : Type 0 where
    at_one : 1 ≤ r → r ≤ last → Place r
    at_end : ((n : ℕ) → met_from next last n r ≡ []) → Place r

  pub place : (r : ℕ) → Place r
  place zero = at_end (λ n. met_zero n 0 refl)
  place (suc r) =
      elim (dec_le (suc r) last) [
        | yes h ↦ at_one (omega arith) h
        | no n ↦ at_end (λ k. met_above k (suc r) (omega arith))
      ]

  -- what is met are things, and no more than the bound
  pub met_inside : (n r : ℕ) {x : ℕ} → x ∈ met_from next last n r → (1 ≤ x) × (x ≤ last)
  met_inside zero r m = absurd (Memᴰ.not-nil (rw (met_out 0 r (omega arith)) at m))
  met_inside (suc n) r {x} m =
      elim (place r) [
        | at_one h k ↦ go h k (λ q. met_inside n (next r) q) (rw (met_more n r h k) at m)
        | at_end e ↦ absurd (Memᴰ.not-nil (rw (e (suc n)) at m))
      ]
    where
      go : 1 ≤ r → r ≤ last → (x ∈ met_from next last n (next r) → (1 ≤ x) × (x ≤ last)) → x ∈ (r ∷ met_from next last n (next r)) → (1 ≤ x) × (x ≤ last)
      go h k ih (Memᴰ.head e) = omega arith
      go h k ih (Memᴰ.tail q) = ih q

  pub met_short : (n r : ℕ) → length (met_from next last n r) ≤ n
  met_short zero r = omega (arith, ap length (met_out 0 r (omega arith)))
  met_short (suc n) r =
      elim (place r) [
        | at_one h k ↦ omega (arith, ap length (met_more n r h k), met_short n (next r))
        | at_end e ↦ omega (arith, ap length (e (suc n)))
      ]

  -- ---- a walk that is shorter than its bound has ended

  -- a larger bound shows no more
  pub met_ended : (f k r : ℕ) → length (met_from next last f r) < f → f ≤ k → met_from next last k r ≡ met_from next last f r
  met_ended zero k r h l = absurd (omega arith)
  met_ended (suc f) zero r h l = absurd (omega arith)
  met_ended (suc f) (suc k) r h l =
      elim (place r) [
        | at_one a b ↦
            let e = met_more f r a b in
            let h' : length (met_from next last f (next r)) < f = omega (arith, ap length e) in
            met_more k r a b ∙ ap (λ (m : List ℕ). r ∷ m) (met_ended f k (next r) h' (omega arith)) ∙ sym e
        | at_end e ↦ e (suc k) ∙ sym (e (suc f))
      ]

  -- from each number that it meets, it goes on to its end
  pub met_within : (f r x : ℕ) → length (met_from next last f r) < f → x ∈ met_from next last f r → (n : ℕ) × (n ≤ f) × (length (met_from next last n x) < n)
  met_within zero r x h m = absurd (omega arith)
  met_within (suc f) r x h m =
      elim (place r) [
        | at_one a b ↦
            let e = met_more f r a b in
            let h' : length (met_from next last f (next r)) < f = omega (arith, ap length e) in
            go a b h' (λ q. met_within f (next r) x h' q) (rw e at m)
        | at_end e ↦ absurd (Memᴰ.not-nil (rw (e (suc f)) at m))
      ]
    where
      go : 1 ≤ r → r ≤ last → length (met_from next last f (next r)) < f
          → (x ∈ met_from next last f (next r) → (n : ℕ) × (n ≤ f) × (length (met_from next last n x) < n))
          → x ∈ (r ∷ met_from next last f (next r)) → (n : ℕ) × (n ≤ suc f) × (length (met_from next last n x) < n)
      go a b h' ih (Memᴰ.head e) = (suc f, omega arith, rw e h)
      go a b h' ih (Memᴰ.tail q) = let w = ih q in (w.0, omega arith, w.2)

  -- so the bound can be left out of a step
  pub met_free : (f r x : ℕ) → length (met_from next last f r) < f → x ∈ met_from next last f r → met_from next last f x ≡ x ∷ met_from next last f (next x)
  met_free f r x h m = let q = met_inside f r m in go q.0 q.1 (met_within f r x h m)
    where
      go : 1 ≤ x → x ≤ last → (n : ℕ) × (n ≤ f) × (length (met_from next last n x) < n) → met_from next last f x ≡ x ∷ met_from next last f (next x)
      go a b (zero, l, s) = absurd (omega arith)
      go a b (suc n, l, s) =
          let e = met_more n x a b in
          let s' : length (met_from next last n (next x)) < n = omega (arith, ap length e) in
          met_ended (suc n) f x s l ∙ e ∙ ap (λ (m : List ℕ). x ∷ m) (sym (met_ended n f (next x) s' (omega arith)))

  -- where no link is above the last number, such a walk ends at 0
  pub met_walk : ((r : ℕ) → 1 ≤ r → r ≤ last → next r ≤ last) → (n r : ℕ) → r ≤ last → length (met_from next last n r) < n
      → Walk next last r (met_from next last n r)
  met_walk nexts zero r k h = absurd (omega arith)
  met_walk nexts (suc n) zero k h = rw (met_zero (suc n) 0 refl) (ends refl)
  met_walk nexts (suc n) (suc r) k h =
      let e = met_more n (suc r) (omega arith) k in
      let h' : length (met_from next last n (next (suc r))) < n = omega (arith, ap length e) in
      rw e (goes {r = suc r} (omega arith) k (met_walk nexts n (next (suc r)) (nexts (suc r) (omega arith) k) h'))

  -- ---- walks that end

  -- there is one walk from a number
  pub walk_unique : {r : ℕ} {a b : List ℕ} → Walk next last r a → Walk next last r b → a ≡ b
  walk_unique (ends e) (ends f) = refl
  walk_unique (ends e) (goes h k w) = absurd (omega arith)
  walk_unique (goes h k w) (ends f) = absurd (omega arith)
  walk_unique {r} (goes h k w) (goes h' k' w') = ap (λ (m : List ℕ). r ∷ m) (walk_unique w w')

  -- the walk from a number that is met is no longer than the whole
  walk_within : {r : ℕ} {l : List ℕ} (x : ℕ) → Walk next last r l → x ∈ l → (m : List ℕ) × Walk next last x m × (length m ≤ length l)
  walk_within x (ends e) q = absurd (Memᴰ.not-nil q)
  walk_within x (goes {r} {l} h k w) (Memᴰ.head e) = (r ∷ l, rw e (goes h k w), omega arith)
  walk_within x (goes {r} {l} h k w) (Memᴰ.tail q) = let s = walk_within x w q in (s.0, s.1, omega (arith, s.2))

  -- no number is met twice
  pub walk_distinct : {r : ℕ} {l : List ℕ} → Walk next last r l → Distinct l
  walk_distinct (ends e) = none
  walk_distinct (goes {r} {l} h k w) =
      more {x = r} {l = l}
      (λ y m e. let s = walk_within r w (rw (← e) at m) in omega (arith, s.2, ap length (walk_unique s.1 (goes h k w))))
      (walk_distinct w)

  -- a bound that is not below its length shows it whole
  pub walk_met : {r : ℕ} {l : List ℕ} → Walk next last r l → (n : ℕ) → length l ≤ n → met_from next last n r ≡ l
  walk_met {r} (ends e) n h = met_zero n r e
  walk_met (goes {r} {l} a b w) zero h = absurd (omega arith)
  walk_met (goes {r} {l} a b w) (suc n) h = met_more n r a b ∙ ap (λ (m : List ℕ). r ∷ m) (walk_met w n (omega arith))

-- a walk is one too where there are more things, as long as each that it meets has its old next
pub walk_more : (next next' : ℕ → ℕ) (last last' : ℕ) → last ≤ last' → ((r : ℕ) → 1 ≤ r → r ≤ last → next' r ≡ next r)
    → {r : ℕ} {l : List ℕ} → Walk next last r l → Walk next' last' r l
walk_more next next' last last' m f (ends e) = ends e
walk_more next next' last last' m f (goes {r} {l} a b w) = goes {l = l} a (omega arith) (rw (f r a b) (walk_more next next' last last' m f w))
