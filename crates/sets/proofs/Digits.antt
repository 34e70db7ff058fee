-- Each operation on bits, by what it does to membership: digit by digit, with std's laws of single digits and those of lib.Bits and lib.Pow.
-- Assumes nothing.
use mathlib.Core.Path.{◌≡◌, refl, sym, ap, ◌∙◌}
use mathlib.Core.Bool.{Bool, true, false, not, ◌&&◌, ◌||◌}
use Prim.Native.Nat.{ℕ, zero, suc, ◌+◌, ◌-◌, ◌*◌, ◌/◌, ◌%◌, ◌^◌, ◌<◌, min, max}
use native.Mathlib.Nat.{mul-one, one-mul, sub-zero}
use native.Mathlib.Omega.{arith}
use native.Mathlib.Decide.{ℕ_discrete}
use borrow.Author.Tests.{eq-eqb, ne_eqb}
use lib.Dec.{eqb, leb, leb-zero, leb-suc-zero, leb-suc-suc}
use lib.Pow.{shl_exact, field, mod-mod-pow}
use lib.Bits.{bit_and, bit_or, bit_xor, and_mask, shifted_half, shifted_even}
use Rattle.std.specs.Int.{bit_at}
use Rattle.std.proofs.lemmas.Nat.Bits.{bit_at-lt, bit_at_and, bit_at_or, bit_at_xor, bit_at_lowest, bit_at-suc, bit_at-zero, bit_at-pow_same, bit_at-pow_other}
use Rattle.sets.specs.Inner.Sets.{member}

-- ---- two sets, digit by digit

-- an operation on digits by its four cases
digit_by : (f : ℕ → ℕ → ℕ) (g : Bool → Bool → Bool) → eqb (f 0 0) 1 ≡ g false false → eqb (f 0 1) 1 ≡ g false true → eqb (f 1 0) 1 ≡ g true false
    → eqb (f 1 1) 1 ≡ g true true → (x y : ℕ) → x < 2 → y < 2 → eqb (f x y) 1 ≡ g (eqb x 1) (eqb y 1)
digit_by f g a b c d zero zero h k = a
digit_by f g a b c d zero (suc zero) h k = b
digit_by f g a b c d (suc zero) zero h k = c
digit_by f g a b c d (suc zero) (suc zero) h k = d
digit_by f g a b c d (suc (suc x)) y h k = absurd (omega arith)
digit_by f g a b c d zero (suc (suc y)) h k = absurd (omega arith)
digit_by f g a b c d (suc zero) (suc (suc y)) h k = absurd (omega arith)

digit_and : (x y : ℕ) → x < 2 → y < 2 → eqb (min x y) 1 ≡ (eqb x 1 && eqb y 1)
digit_and = digit_by min ◌&&◌ refl refl refl refl

digit_or : (x y : ℕ) → x < 2 → y < 2 → eqb (max x y) 1 ≡ (eqb x 1 || eqb y 1)
digit_or = digit_by max ◌||◌ refl refl refl refl

-- `x ^ (x & y)``
digit_less : (x y : ℕ) → x < 2 → y < 2 → eqb ((x + min x y) % 2) 1 ≡ (eqb x 1 && not (eqb y 1))
digit_less = digit_by (λ x y. (x + min x y) % 2) (λ a b. a && not b) refl refl refl refl

pub member_and : (s t a : ℕ) → member (bit_and s t) a ≡ (member s a && member t a)
unfolding member
member_and s t a = ap (λ (x : ℕ). eqb x 1) (bit_at_and s t a) ∙ digit_and _ _ (bit_at-lt s a) (bit_at-lt t a)

pub member_or : (s t a : ℕ) → member (bit_or s t) a ≡ (member s a || member t a)
unfolding member
member_or s t a = ap (λ (x : ℕ). eqb x 1) (bit_at_or s t a) ∙ digit_or _ _ (bit_at-lt s a) (bit_at-lt t a)

pub member_without : (s t a : ℕ) → member (bit_xor s (bit_and s t)) a ≡ (member s a && not (member t a))
unfolding member
member_without s t a =
    ap (λ (x : ℕ). eqb x 1) (bit_at_xor s (bit_and s t) a ∙ ap (λ (x : ℕ). (bit_at s a + x) % 2) (bit_at_and s t a))
    ∙ digit_less _ _ (bit_at-lt s a) (bit_at-lt t a)

-- ---- one set: its lowest digit, and the others

pub member_zero : (s : ℕ) → member s 0 ≡ eqb (s % 2) 1
unfolding member
member_zero s = ap (λ (x : ℕ). eqb x 1) (bit_at_lowest s)

pub member_suc : (s a : ℕ) → member s (suc a) ≡ member (s / 2) a
unfolding member
member_suc s a = ap (λ (x : ℕ). eqb x 1) (bit_at-suc s a)

-- the empty set has no member
pub member_none : (a : ℕ) → member 0 a ≡ false
unfolding member
member_none a = ap (λ (x : ℕ). eqb x 1) (bit_at-zero a)

-- a power has one member
member_power : (a b : ℕ) → member (2 ^ a) b ≡ eqb a b
unfolding member
member_power a b =
    elim (ℕ_discrete b a) [
      | yes e ↦ rw (e, bit_at-pow_same a, eq-eqb a a refl)
      | no n ↦ rw (bit_at-pow_other a b n, ne_eqb a b (λ e. n (sym e)))
    ]

-- `s | (1 << a)``
pub member_with : (s a b : ℕ) → a < 32 → member (bit_or s (1 * 2 ^ a % 2 ^ 32)) b ≡ (member s b || eqb a b)
member_with s a b h =
    ap (λ (x : ℕ). member (bit_or s x) b) (shl_exact {a = 1} 1 a 32 (omega arith) (omega arith) ∙ one-mul (2 ^ a))
    ∙ member_or s (2 ^ a) b ∙ ap (λ x. member s b || x) (member_power a b)

-- ``(s >> a) & 1 == 1`
pub member_has : (s a : ℕ) → eqb (bit_and (s / 2 ^ a) 1) 1 ≡ member s a
unfolding member
member_has s a = ap (λ (x : ℕ). eqb x 1) (and_mask (s / 2 ^ a) 1)

-- ---- `s << k`

member_raised : (s k b : ℕ) → member (s * 2 ^ k) b ≡ (leb k b && member s (b - k))
member_raised s zero b = rw (leb-zero b, mul-one s, sub-zero b)
member_raised s (suc k) zero = member_zero (s * 2 ^ suc k) ∙ rw (shifted_even s k, leb-suc-zero k)
member_raised s (suc k) (suc b) =
    let e : suc b - suc k ≡ b - k = omega arith in
    member_suc (s * 2 ^ suc k) b ∙ rw (shifted_half s k, leb-suc-suc k b, e) (member_raised s k b)

-- the digits below w are those of the remainder by 2 ^ w
member_cut : (n w b : ℕ) → b < w → member (n % 2 ^ w) b ≡ member n b
unfolding member
member_cut n w b h =
    let j = w - b - 1 in
    let e : w ≡ j + 1 + b = omega arith in
    ap (λ (x : ℕ). eqb (n % 2 ^ x / 2 ^ b % 2) 1) e
    ∙ ap (λ (x : ℕ). eqb (x % 2) 1) (field n (j + 1) b)
    ∙ ap (λ (x : ℕ). eqb x 1) (mod-mod-pow (n / 2 ^ b) j 1)

pub member_moved : (s k b : ℕ) → b < 32 → member (s * 2 ^ k % 2 ^ 32) b ≡ (leb k b && member s (b - k))
member_moved s k b h = member_cut (s * 2 ^ k) 32 b h ∙ member_raised s k b
