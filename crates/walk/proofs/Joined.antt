-- Parts of a slice, lent one after the other: their lengths, and what the slice then holds.
-- Assumes nothing.
use Prim.Native.Nat.{ℕ, ◌+◌, ◌-◌, ◌≤◌}
use mathlib.Core.Path.{◌≡◌, sym, ap, ◌∙◌}
use mathlib.Core.List.{List, [], ◌++◌, append-nil, append_assoc}
use native.Mathlib.Omega.{arith}
use native.Mathlib.Nat.{sub-zero}
use lib.ListN.{length, take, drop, length-append, length-drop, drop_of_length-le}
use lib.Seq.{take_at, length-take-le}
use borrow.Rule.Slice.PartMut.{put_mid, post_of, same_len_mid}

-- the first k
pub left_length : (k : ℕ) (xs : List ℕ) → k ≤ length xs → length (take (k - 0) xs) ≡ k
left_length k xs h = rw sub-zero (length-take-le k xs h)

-- the n from the place i on
module _ (i n : ℕ) (xs : List ℕ) (h : i + n ≤ length xs) where
  pub lent_length : length (take (i + n - i) (drop i xs)) ≡ n
  lent_length =
      let e : i + n - i ≡ n = omega arith in
      rw e (length-take-le n (drop i xs) (omega (arith, length-drop i xs)))

  module _ (ys : List ℕ) (l : length ys ≡ n) where
    pub put_length : length (put_mid i (i + n - i) xs ys) ≡ length xs
    put_length = same_len_mid i (i + n - i) xs ys (l ∙ sym lent_length)

    pub put_front : take (i + n) (put_mid i (i + n - i) xs ys) ≡ take i xs ++ ys
    put_front =
        let e : length (take i xs ++ ys) ≡ i + n = length-append (take i xs) ys ∙ omega (arith, length-take-le i xs (omega arith)) in
        ap (take (i + n)) (sym (append_assoc (take i xs) ys (post_of i (i + n - i) xs))) ∙ take_at (take i xs ++ ys) (post_of i (i + n - i) xs) (i + n) e

-- all from the place i on
module _ (i : ℕ) (xs : List ℕ) where
  pub rest_length : length (take (length xs - i) (drop i xs)) ≡ length xs - i
  rest_length = length-take-le (length xs - i) (drop i xs) (omega (arith, length-drop i xs))

  pub put_rest : (zs : List ℕ) → put_mid i (length xs - i) xs zs ≡ take i xs ++ zs
  put_rest zs =
      let z : post_of i (length xs - i) xs ≡ [] = drop_of_length-le (drop i xs) {i = length xs - i} (omega (arith, length-drop i xs)) in
      rw (z, append-nil)
