-- The members of a set as a rising list: its first and its rest, by induction on the digits, lowest first; what stands in it; sums over it.
-- Assumes nothing.
use mathlib.Core.Path.{◌≡◌, refl, sym, ap, ap₂, ◌∙◌}
use mathlib.Core.Bool.{Bool, true, false, cond}
use mathlib.Core.List.{List, [], ◌∷◌, map}
use Prim.Native.Nat.{ℕ, zero, suc, ◌+◌, ◌-◌, ◌*◌, ◌/◌, ◌%◌, ◌^◌, ◌≤◌, ◌<◌, min}
use native.Mathlib.Nat.{zero-lt-suc, pow-suc, mul-div_cancel, mul-mod_left, add-zero, div-lt_iff_lt-mul}
use native.Mathlib.Omega.{arith}
use lib.Dec.{eqb}
use lib.ListN.{drop}
use lib.Bits.{bit_and, and_step, and_self}
use lib.Count.{count_trailing_zeros, under}
use Rattle.lists.specs.Joined.{◌∈◌, sum_over, up_from}
use Rattle.lists.specs.Ordered.{Pairwise}
use Rattle.lists.specs.Searched.{keep}
use Rattle.lists.proofs.Members.{up_from_∈, ∈_up_from}
use Rattle.lists.proofs.Orders.{up_from_rising, order_unique}
use Rattle.lists.proofs.Strikes.{keep_∈, ∈_keep, keep_pairwise, keep_ext, keep_later, sum_keep}
use Rattle.sets.specs.Inner.Sets.{member, members}
use Rattle.sets.proofs.Digits.{member_zero, member_suc}

-- ---- the members below n

abbrev below : (n s : ℕ) → List ℕ
below n s = keep (member s) (up_from 0 n)

-- the lowest digit is 0, or 1
abbrev grown : Bool → List ℕ → List ℕ
grown b l = cond b (0 ∷ map suc l) (map suc l)

below_suc : (n s : ℕ) → below (suc n) s ≡ grown (eqb (s % 2) 1) (below n (s / 2))
below_suc n s =
    ap₂ (λ (b : Bool) (l : List ℕ). cond b (0 ∷ l) l) (member_zero s)
    (keep_later (member s) 0 n ∙ ap (map suc) (keep_ext (λ a. member s (suc a)) (member (s / 2)) (up_from 0 n) (λ a m. member_suc s a)))

-- of an even number
below_double : (n q : ℕ) → below (suc n) (q * 2) ≡ map suc (below n q)
below_double n q = below_suc n (q * 2) ∙ ap₂ (λ (r h : ℕ). grown (eqb r 1) (below n h)) (mul-mod_left q 2) (mul-div_cancel q (zero-lt-suc 1))

-- `s & (s - 1)``, by the lowest digit of s
less_odd : (s : ℕ) → s % 2 ≡ 1 → bit_and s (s - 1) ≡ s / 2 * 2
less_odd s o =
    let h : (s - 1) / 2 ≡ s / 2 = omega arith in
    let r : (s - 1) % 2 ≡ 0 = omega arith in
    and_step s (s - 1) ∙ ap₂ (λ (x y : ℕ). bit_and (s / 2) x * 2 + min (s % 2) y) h r ∙ ap (λ (x : ℕ). bit_and (s / 2) (s / 2) * 2 + min x 0) o
    ∙ add-zero (bit_and (s / 2) (s / 2) * 2) ∙ ap (λ (x : ℕ). x * 2) (and_self (s / 2))

less_even : (s : ℕ) → 0 < s → s % 2 ≡ 0 → bit_and s (s - 1) ≡ bit_and (s / 2) (s / 2 - 1) * 2
less_even s p o =
    let h : (s - 1) / 2 ≡ s / 2 - 1 = omega arith in
    let r : (s - 1) % 2 ≡ 1 = omega arith in
    and_step s (s - 1) ∙ ap₂ (λ (x y : ℕ). bit_and (s / 2) x * 2 + min (s % 2) y) h r ∙ ap (λ (x : ℕ). bit_and (s / 2) (s / 2 - 1) * 2 + min x 1) o
    ∙ add-zero (bit_and (s / 2) (s / 2 - 1) * 2)

-- the place of the lowest 1 is the first member, and `s & (s - 1)`` has the others
first_below : (n s : ℕ) → 0 < s → s < 2 ^ n → below n s ≡ count_trailing_zeros n s ∷ below n (bit_and s (s - 1))
unfolding count_trailing_zeros
first_below zero s p h = absurd (omega arith)
first_below (suc n) s p h = go (s % 2) refl (λ q. first_below n (s / 2) q ((div-lt_iff_lt-mul (zero-lt-suc 1)).1 (rw (pow-suc 2 n) at h)))
  where
    go : (r : ℕ) → s % 2 ≡ r → (0 < s / 2 → below n (s / 2) ≡ count_trailing_zeros n (s / 2) ∷ below n (bit_and (s / 2) (s / 2 - 1)))
        → below (suc n) s ≡ under r (count_trailing_zeros n (s / 2)) ∷ below (suc n) (bit_and s (s - 1))
    go zero e ih =
        below_suc n s ∙ ap (λ (r : ℕ). grown (eqb r 1) (below n (s / 2))) e ∙ ap (map suc) (ih (omega arith))
        ∙ ap (λ (l : List ℕ). suc (count_trailing_zeros n (s / 2)) ∷ l) (sym (below_double n (bit_and (s / 2) (s / 2 - 1))) ∙ ap (below (suc n)) (sym (less_even s p e)))
    go (suc zero) e ih =
        below_suc n s ∙ ap (λ (r : ℕ). grown (eqb r 1) (below n (s / 2))) e
        ∙ ap (λ (l : List ℕ). 0 ∷ l) (sym (below_double n (s / 2)) ∙ ap (below (suc n)) (sym (less_odd s e)))
    go (suc (suc r)) e ih = absurd (omega arith)

-- ---- the members below 32

pub members_none : members 0 ≡ []
unfolding members member
members_none = refl

-- where a list is known to begin, so is its rest
begins : (l m : List ℕ) (a : ℕ) → l ≡ a ∷ m → m ≡ drop 1 l
begins l m a e = sym (ap (drop 1) e)

-- `s.trailing_zeros()``
pub members_lowest : (s : ℕ) → 0 < s → s < 2 ^ 32 → members s ≡ count_trailing_zeros 32 s ∷ drop 1 (members s)
unfolding members
members_lowest s p h = let e = first_below 32 s p h in e ∙ ap (λ (l : List ℕ). count_trailing_zeros 32 s ∷ l) (begins _ _ _ e)

-- `s & (s - 1)``
pub members_after : (s : ℕ) → 0 < s → s < 2 ^ 32 → members (bit_and s (s - 1)) ≡ drop 1 (members s)
unfolding members
members_after s p h = begins _ _ _ (first_below 32 s p h)

-- what stands in the list is what is in the set
pub members_∈ : (s a : ℕ) → a ∈ members s → (a < 32) × (member s a ≡ true)
unfolding members
members_∈ s a m = let k = keep_∈ (member s) (up_from 0 32) a m in ((up_from_∈ 0 32 k.0).1, k.1)

pub ∈_members : (s a : ℕ) → a < 32 → member s a ≡ true → a ∈ members s
unfolding members
∈_members s a h t = ∈_keep (member s) (up_from 0 32) a (∈_up_from a 0 32 (omega arith) (omega arith)) t

pub members_rising : (s : ℕ) → Pairwise ◌<◌ (members s)
unfolding members
members_rising s = keep_pairwise ◌<◌ (member s) (up_from 0 32) (up_from_rising 0 32)

-- a sum over the members, where they lie within a run outside which nothing else counts
pub sum_within : (s k n : ℕ) (f : ℕ → ℕ) → k + n ≤ 32 → ((a : ℕ) → a < 32 → member s a ≡ true → (k ≤ a) × (a < k + n))
    → ((a : ℕ) → k ≤ a → a < k + n → member s a ≡ false → f a ≡ 0) → sum_over f (members s) ≡ sum_over f (up_from k n)
sum_within s k n f low inside none =
    ap (sum_over f)
    (order_unique ◌<◌ (λ x y a b. omega arith) (λ x y a e. omega arith) (members s) (keep (member s) (up_from k n)) (members_rising s)
    (keep_pairwise ◌<◌ (member s) (up_from k n) (up_from_rising k n))
    (λ a m.
    let h = members_∈ s a m in
    let w = inside a h.0 h.1 in
    ∈_keep (member s) (up_from k n) a (∈_up_from a k n w.0 w.1) h.1)
    (λ a m.
    let h = keep_∈ (member s) (up_from k n) a m in
    let w = up_from_∈ k n h.0 in
    ∈_members s a (omega arith) h.1))
    ∙ sum_keep (member s) f (up_from k n) (λ a m. let w = up_from_∈ k n m in none a w.0 w.1)

-- a sum of what is 0 outside the set is the sum over all below 32
pub sum_members : (s : ℕ) (f : ℕ → ℕ) → ((a : ℕ) → a < 32 → member s a ≡ false → f a ≡ 0) → sum_over f (members s) ≡ sum_over f (up_from 0 32)
sum_members s f h = sum_within s 0 32 f (omega arith) (λ a l t. omega arith) (λ a l u z. h a u z)
