-- Sums over a run of numbers: its first number and its last, its parts, and numbers that add nothing.
-- Assumes nothing.
use mathlib.Core.Path.{◌≡◌, ap, ◌∙◌}
use Prim.Native.Nat.{ℕ, ◌+◌, ◌-◌, ◌≤◌, ◌<◌}
use native.Mathlib.Omega.{arith}
use Rattle.lists.specs.Joined.{sum_over, up_from}
use Rattle.lists.proofs.Sums.{sum_append, sum_ext, sum_none, sum_part}
use Rattle.lists.proofs.Members.{up_from_∈, ∈_up_from}
use Rattle.lists.proofs.Places.{up_from_step, up_from_split}

pub run_ext : (f g : ℕ → ℕ) (k n : ℕ) → ((i : ℕ) → k ≤ i → i < k + n → f i ≡ g i) → sum_over f (up_from k n) ≡ sum_over g (up_from k n)
run_ext f g k n h = sum_ext f g (up_from k n) (λ i m. let q = up_from_∈ k n m in h i q.0 q.1)

module _ (f : ℕ → ℕ) where
  -- one number more, as a loop that counts up to n meets it
  pub run_step : (k n : ℕ) → k < n → sum_over f (up_from k (n - k)) ≡ f k + sum_over f (up_from (k + 1) (n - (k + 1)))
  run_step k n h = ap (sum_over f) (up_from_step k n h)

  -- two parts
  run_split : (k m n : ℕ) → sum_over f (up_from k (m + n)) ≡ sum_over f (up_from k m) + sum_over f (up_from (k + m) n)
  run_split k m n = ap (sum_over f) (up_from_split k m n) ∙ sum_append f (up_from k m) (up_from (k + m) n)

  run_rest : (k m n : ℕ) → m ≤ n → sum_over f (up_from k n) ≡ sum_over f (up_from k m) + sum_over f (up_from (k + m) (n - m))
  run_rest k m n h = let e : m + (n - m) ≡ n = omega arith in rw e at (run_split k m (n - m))

  pub run_last : (k n : ℕ) → sum_over f (up_from k (n + 1)) ≡ sum_over f (up_from k n) + f (k + n)
  run_last k n = omega (arith, run_split k n 1)

  -- no part is more than the whole
  pub run_le : (k m n : ℕ) → m ≤ n → sum_over f (up_from k m) ≤ sum_over f (up_from k n)
  run_le k m n h = omega (arith, run_rest k m n h)

  pub run_part : (k n i : ℕ) → k ≤ i → i < k + n → f i ≤ sum_over f (up_from k n)
  run_part k n i h l = sum_part f (up_from k n) (∈_up_from i k n h l)

  -- numbers that add nothing: all of them, those at the end, those at the beginning
  pub run_none : (k n : ℕ) → ((i : ℕ) → k ≤ i → i < k + n → f i ≡ 0) → sum_over f (up_from k n) ≡ 0
  run_none k n h = sum_none f (up_from k n) (λ i m. let q = up_from_∈ k n m in h i q.0 q.1)

  pub run_same : (k m n : ℕ) → m ≤ n → ((i : ℕ) → k + m ≤ i → i < k + n → f i ≡ 0) → sum_over f (up_from k m) ≡ sum_over f (up_from k n)
  run_same k m n h z = omega (arith, run_rest k m n h, run_none (k + m) (n - m) (λ i l u. z i l (omega arith)))

  pub run_later : (k m n : ℕ) → m ≤ n → ((i : ℕ) → k ≤ i → i < k + m → f i ≡ 0) → sum_over f (up_from k n) ≡ sum_over f (up_from (k + m) (n - m))
  run_later k m n h z = omega (arith, run_rest k m n h, run_none k m z)
