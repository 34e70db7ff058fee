-- One pair rule's sum, with the steps of 001's formula 4a: a product more, the loop over the left lengths, and what the rule has added after
-- each of them, with the totals in place of the table's entries. The halves of what is asked for are asked for, so their counts are in the table.
-- Assumes nothing.
use mathlib.Core.Path.{◌≡◌, refl, ap, ◌∙◌}
use mathlib.Core.List.{List}
use Prim.Native.Nat.{ℕ, ◌+◌, ◌*◌, ◌-◌, ◌≤◌, ◌<◌}
use native.Mathlib.Omega.{arith}
use native.Mathlib.Nat.{mul-le-mul}
use native.Mathlib.Decide.{dec_le}
use Rattle.lists.specs.Joined.{◌∈◌}
use Rattle.lists.proofs.Runs.{run_ext, run_last, run_le, run_none, run_same}
use Rattle.grammar.specs.Inner.Rules.{pairs_in, ruled, Ruled}
use Rattle.grammar.proofs.Ruling.{pair_inside}
use Rattle.counting.specs.Totals.{total_by}
use Rattle.counting.specs.Refusals.{most}
use Rattle.counting.specs.Inner.Counted.{count_at, longest_at, Asked}
use Rattle.counting.specs.Inner.Filling.{BothAs, part_sum, Halves, HalvesBeside, Below, HalvesBelow, Deriving}
use Rattle.std.specs.Prelude.{Option, Some, None, min}
use Rattle.counting.specs.Inner.InOrder.{total_in}
use Rattle.counting.proofs.Totals.{product_at, left_none, right_none}
use Rattle.counting.proofs.Asking.{asked_left, asked_right}

-- ---- what a tally says

-- of a number that fits, the number
pub says_all : {n : ℕ} (k : ℕ) (r : Option (ℕ × ℕ)) → n ≤ most → BothAs n k r → total_in r ≡ Some n
says_all k (Some x) l h = ap Some h.0
says_all k None l h = absurd (omega arith)

-- ---- the loop over the left lengths

-- before the left length k, the sum is what it was with the products below k; those of them above `to` are 0
pub record Adding (count : ℕ → ℕ → ℕ) (B C m to before k sum : ℕ) : Type 0 where
  pub some : 1 ≤ k
  pub short : k ≤ m
  pub added : sum ≡ before + part_sum count B C m (k - 1)
  pub over : (i : ℕ) → to < i → i < k → count C (m - i) ≡ 0

-- a product of a table's counts
abbrev product : (count : ℕ → ℕ → ℕ) (B C m k : ℕ) → ℕ
product count B C m = product_at (λ p. count) B C 0 m

-- the left half has no count above p, the right half none above q
pub record Ends (count : ℕ → ℕ → ℕ) (B C m to p q : ℕ) : Type 0 where
  pub bound : to < m
  pub left_over : (k : ℕ) → p < k → k < m → count B k ≡ 0
  pub right_over : (k : ℕ) → q < k → k < m → count C k ≡ 0

pub halves_end : {totals : List (List ℕ)} {B C m to : ℕ} → Halves totals B C m to → Ends (count_at totals) B C m to (longest_at totals B) (longest_at totals C)
halves_end h = record { bound = h.bound; left_over = h.left_over; right_over = h.right_over }

module _ {count : ℕ → ℕ → ℕ} {B C m to p q before : ℕ} (h : Ends count B C m to p q) where
  -- left lengths at which the right half is longer than its longest derivation have added nothing
  pub adding_start : {k : ℕ} → k ≡ m - 1 - q + 1 → Adding count B C m to before k before
  adding_start {k} e =
      let none : (i : ℕ) → 1 ≤ i → i < k → count C (m - i) ≡ 0 = λ i l u. h.right_over (m - i) (omega arith) (omega arith) in
      record {
        some = omega (arith, h.bound);
        short = omega arith;
        added = omega (arith, run_none (product count B C m) 1 (k - 1) (λ i l u. right_none (λ p. count) B C 0 m i (none i l (omega arith))));
        over = λ i l u. none i (omega arith) u;
      }

  module _ {k sum : ℕ} (w : Adding count B C m to before k sum) where
    -- nor do those up to the bound at which the left half is
    pub adding_end : {last : ℕ} → last + 1 ≤ k → last ≡ min to p → sum ≡ before + part_sum count B C m to
    adding_end l e =
        elim (dec_le (k - 1) to) [
          | yes u ↦ omega (arith, w.added, run_same (product count B C m) 1 (k - 1) to u (λ i a b. left_none (λ p. count) B C 0 m i (h.left_over i (omega arith) (omega (arith, h.bound)))))
          | no u ↦ omega (arith, w.added, run_same (product count B C m) 1 to (k - 1) (omega arith) (λ i a b. right_none (λ p. count) B C 0 m i (w.over i (omega arith) (omega arith))))
        ]

    module _ {x y : ℕ} (l : k ≤ to) (ex : x ≡ count B k) (ey : y ≡ count C (m - k)) where
      one_more : part_sum count B C m k ≡ part_sum count B C m (k - 1) + x * y
      one_more =
          let e : 1 + (k - 1) ≡ k = omega (arith, w.some) in
          let f : k - 1 + 1 ≡ k = omega (arith, w.some) in
          rw (ex, ey) (rw (e, f) at (run_last (product count B C m) 1 (k - 1)))

      pub adding_step : {v : ℕ} → v ≡ sum + x * y → Adding count B C m to before (k + 1) v
      adding_step f = record {
        some = omega arith;
        short = omega (arith, h.bound);
        added = let e : k + 1 - 1 ≡ k = omega arith in rw e (omega (arith, w.added, one_more, f));
        over = λ i a b. absurd (omega arith);
      }

      pub adding_past : most < sum + x * y → most < before + part_sum count B C m to
      adding_past f = omega (arith, w.added, one_more, run_le (product count B C m) 1 k to l, f)

  -- and where these leave no left length, nothing is added
  pub adding_none : {last : ℕ} → last ≤ m - 1 - q → last ≡ min to p → before ≡ before + part_sum count B C m to
  adding_none l e = adding_end (adding_start refl) (omega arith) e

-- ---- the counts beside it

module _ {totals counts : List (List ℕ)} {B C m to before counted : ℕ} (halves : Halves totals B C m to) (h : HalvesBeside totals counts B C m before counted) where
  -- where a total is 0, so is the count
  pub counts_end : Ends (count_at counts) B C m to (longest_at totals B) (longest_at totals C)
  counts_end = record {
    bound = halves.bound;
    left_over = λ k l u. omega (arith, h.left k (omega arith) u, halves.left_over k l u);
    right_over = λ k l u. omega (arith, h.right k (omega arith) u, halves.right_over k l u);
  }

  -- counts that are no more than their totals add no more
  pub less_added : {sum count k x y X Y v : ℕ} → count ≤ sum → 1 ≤ k → k < m → X ≡ count_at totals B k → Y ≡ count_at totals C (m - k)
      → x ≡ count_at counts B k → y ≡ count_at counts C (m - k) → v ≡ sum + X * Y → count + x * y ≤ v
  less_added {k = k} {x} {y} {X} {Y} l s u eX eY ex ey e =
      let a : x ≤ X = omega (arith, h.left k s u) in
      let b : y ≤ Y = omega (arith, h.right (m - k) (omega arith) (omega arith)) in
      omega (arith, mul-le-mul a b)

-- ---- totals in place of the table's entries

module _ {rules totals : List (List ℕ)} {u : ℕ → ℕ} {m a : ℕ} (d : Deriving rules u totals m a) {B C : ℕ} (i : (B, C) ∈ pairs_in rules a) {k : ℕ} (l : k < m) where
  abbrev left : Below rules u totals m B
  left = (d.halves (B, C) i).0

  abbrev right : Below rules u totals m C
  right = (d.halves (B, C) i).1

  -- where the shorter lengths' counts are in the table, a pair rule can be added up to every left length
  pub halves_asked : Halves totals B C m k
  halves_asked = record {
    long = d.long;
    left = left.inside;
    right = right.inside;
    short = d.short;
    bound = l;
    left_over = λ i u v. left.right i (omega arith) v ∙ left.longest i (omega arith) v u;
    right_over = λ i u v. right.right i (omega arith) v ∙ right.longest i (omega arith) v u;
  }

  -- and has then added the sum of its products for the left lengths up to there
  pub part_counts : part_sum (count_at totals) B C m k ≡ part_sum (total_by (ruled rules) u) B C m k
  part_counts =
      run_ext (product (count_at totals) B C m) (product_at (λ p. total_by (ruled rules) u) B C 0 m) 1 k
      (λ i u v. rw (left.right i u (omega arith), right.right (m - i) (omega arith) (omega arith)))

-- the halves of what is asked for have their counts, where the counts of what is asked for are there below the length m
pub halves_below : {rules totals : List (List ℕ)} {u : ℕ → ℕ} {n A m : ℕ} → Ruled rules → Asked rules n A m
    → ((B k : ℕ) → Asked rules n B k → k < m → (count_at totals B k ≡ total_by (ruled rules) u B k) × (longest_at totals B < k → total_by (ruled rules) u B k ≡ 0))
    → HalvesBelow rules u totals m A
halves_below {A = A} t a there x i =
    let few = t.few in
    let in_N = pair_inside t A x a.inside i in (
      record {
        inside = omega (arith, in_N.0);
        right = λ k l u. (there x.0 k (asked_left t a x i k l u) u).0;
        longest = λ k l u. (there x.0 k (asked_left t a x i k l u) u).1;
      },
      record {
        inside = omega (arith, in_N.1);
        right = λ k l u. (there x.1 k (asked_right t a x i k l u) u).0;
        longest = λ k l u. (there x.1 k (asked_right t a x i k l u) u).1;
      },
    )
