-- The search for a skip's end by halves. Its state: below `low` every heard one's first ticket, less what those before it weigh, is at most q; from
-- `high` on none is. As they don't overlap, one look in the middle settles a half. And what the sums say that the first ones weigh: without sums each
-- weighs 1.
-- Assumes nothing.
use mathlib.Core.Path.{◌≡◌, refl, sym, ap, ◌∙◌}
use mathlib.Core.List.{List, [], ◌∷◌, map}
use Prim.Native.Nat.{ℕ, zero, suc, ◌+◌, ◌-◌, ◌/◌, ◌≤◌, ◌<◌}
use native.Mathlib.Omega.{arith}
use borrow.Author.Tests.{ne_eqb}
use lib.ListN.{length, get_or, take, length-map}
use lib.Seq.{take_all}
use Rattle.lists.specs.Joined.{sum_over}
use Rattle.lists.specs.Ordered.{Pairwise}
use Rattle.lists.specs.Inner.Tickets.{Apart, gone, skip_over}
use Rattle.lists.proofs.Struck.{apart_gap, skip_over_at}
use Rattle.counting.specs.Refusals.{most}
use Rattle.sampling.specs.Inner.Skipping.{spans_from, heard_spans, passed_by, Told, Skips}

-- ---- the first tickets and the weights

-- as many as are heard, each with its first ticket
pub spans_first : (b : ℕ) (heard sums : List ℕ) → map (λ (e : ℕ × ℕ). e.0) (spans_from b heard sums) ≡ heard
spans_first b [] sums = refl
spans_first b (d ∷ heard) [] = ap (λ (l : List ℕ). d ∷ l) (spans_first b heard [])
spans_first b (d ∷ heard) (s ∷ sums) = ap (λ (l : List ℕ). d ∷ l) (spans_first s heard sums)

pub spans_length : (heard sums : List ℕ) → length (heard_spans heard sums) ≡ length heard
spans_length heard sums = sym (length-map (heard_spans heard sums) (λ (e : ℕ × ℕ). e.0)) ∙ ap length (spans_first 0 heard sums)

spans_at : (b : ℕ) (heard sums : List ℕ) (i : ℕ) → (get_or (spans_from b heard sums) i (0, 0)).0 ≡ get_or heard i 0
spans_at b [] sums i = refl
spans_at b (d ∷ heard) [] zero = refl
spans_at b (d ∷ heard) (s ∷ sums) zero = refl
spans_at b (d ∷ heard) [] (suc i) = spans_at b heard [] i
spans_at b (d ∷ heard) (s ∷ sums) (suc i) = spans_at s heard sums i

-- without sums
pub spans_plain : (b : ℕ) (heard : List ℕ) → spans_from b heard [] ≡ map (λ d. (d, 1)) heard
spans_plain b [] = refl
spans_plain b (d ∷ heard) = ap (λ (l : List (ℕ × ℕ)). (d, 1) ∷ l) (spans_plain b heard)

gone_plain : (heard : List ℕ) (i : ℕ) → i ≤ length heard → gone i (heard_spans heard []) ≡ i
gone_plain heard zero h = refl
gone_plain [] (suc i) h = absurd (omega arith)
gone_plain (d ∷ heard) (suc i) h = omega (arith, gone_plain heard i (omega arith))

pub passed_plain : (i : ℕ) → i ≡ passed_by [] i
passed_plain zero = refl
passed_plain (suc i) = rw (ne_eqb (suc i) 0 (λ e. omega arith))

pub told_plain : (heard : List ℕ) → Told heard []
told_plain heard = record { passed_are = λ i h. sym (passed_plain i) ∙ sym (gone_plain heard i h); enough = λ f. absurd (f refl) }

-- all of them
pub gone_all : (heard sums : List ℕ) → gone (length heard) (heard_spans heard sums) ≡ sum_over (λ (e : ℕ × ℕ). e.1) (heard_spans heard sums)
gone_all heard sums = ap (λ (l : List (ℕ × ℕ)). sum_over (λ (e : ℕ × ℕ). e.1) l) (take_all (length heard) (heard_spans heard sums) (omega (arith, spans_length heard sums)))

-- no more is passed than all
pub gone_within : (heard sums : List ℕ) (i : ℕ) → i ≤ length heard → gone i (heard_spans heard sums) ≤ gone (length heard) (heard_spans heard sums)
gone_within heard sums i h = first_le (λ (e : ℕ × ℕ). e.1) (heard_spans heard sums) i (length heard) h
  where
    first_le : (f : ℕ × ℕ → ℕ) (l : List (ℕ × ℕ)) (i j : ℕ) → i ≤ j → sum_over f (take i l) ≤ sum_over f (take j l)
    first_le f l zero j h = omega arith
    first_le f l (suc i) zero h = absurd (omega arith)
    first_le f [] (suc i) (suc j) h = omega arith
    first_le f (x ∷ l) (suc i) (suc j) h = omega (arith, first_le f l i j (omega arith))

-- the sums say of the first i what they weigh, and no skip past them passes 64 bits
module _ {q : ℕ} {heard sums : List ℕ} (p : Skips q heard sums) (i : ℕ) (h : i ≤ length heard) {x : ℕ} (is : x ≡ passed_by sums i) where
  pub passed_gone : x ≡ gone i (heard_spans heard sums)
  passed_gone = is ∙ p.told.passed_are i h

  pub passed_fits : q + x ≤ most
  passed_fits = omega (arith, passed_gone, gone_within heard sums i h, p.fits)

-- the first tickets, each less what those before it weigh, rise
gap : (heard sums : List ℕ) → Pairwise Apart (heard_spans heard sums) → (i j : ℕ) → i ≤ j → j < length heard
    → get_or heard i 0 + gone j (heard_spans heard sums) ≤ get_or heard j 0 + gone i (heard_spans heard sums)
gap heard sums s i j h k =
    omega (arith, apart_gap (heard_spans heard sums) (0, 0) i j s h (omega (arith, spans_length heard sums)), spans_at 0 heard sums i, spans_at 0 heard sums j)

-- ---- the search

pub record Searching (heard sums : List ℕ) (q low high : ℕ) : Type 0 where
  pub ordered : low ≤ high
  pub inside : high ≤ length heard
  pub passed : (i : ℕ) → i < low → get_or heard i 0 ≤ q + gone i (heard_spans heard sums)
  pub left : (i : ℕ) → high ≤ i → i < length heard → q + gone i (heard_spans heard sums) < get_or heard i 0

module _ {heard sums : List ℕ} {q : ℕ} where
  pub search_start : Searching heard sums q 0 (length heard)
  search_start = record { ordered = omega arith; inside = omega arith; passed = λ i l. absurd (omega arith); left = λ i l m. absurd (omega arith) }

  -- between the bounds there is a middle
  module _ {low high : ℕ} (s : Searching heard sums q low high) (some : low < high) where
    pub mid_inside : low + (high - low) / 2 < length heard
    mid_inside = omega (arith, s.inside)

  module _ (apart : Pairwise Apart (heard_spans heard sums)) {low high mid : ℕ} (s : Searching heard sums q low high) (above : low ≤ mid) (below : mid < high) where
    pub search_right : get_or heard mid 0 ≤ q + gone mid (heard_spans heard sums) → Searching heard sums q (mid + 1) high
    search_right h = record {
      ordered = omega arith;
      inside = s.inside;
      passed = λ i l. omega (arith, gap heard sums apart i mid (omega arith) (omega (arith, s.inside)));
      left = s.left;
    }

    pub search_left : q + gone mid (heard_spans heard sums) < get_or heard mid 0 → Searching heard sums q low mid
    search_left h = record {
      ordered = above;
      inside = omega (arith, s.inside);
      passed = s.passed;
      left = λ i l m. omega (arith, gap heard sums apart mid i l m);
    }

  pub search_end : {low high : ℕ} → Searching heard sums q low high → high ≤ low → q + gone low (heard_spans heard sums) ≡ skip_over q (heard_spans heard sums)
  search_end {low} {high} s h =
      sym (skip_over_at (heard_spans heard sums) (0, 0) q low (omega (arith, s.ordered, s.inside, spans_length heard sums))
      (λ i l. omega (arith, s.passed i l, spans_at 0 heard sums i))
      (λ m. omega (arith, s.left low h (omega (arith, spans_length heard sums)), spans_at 0 heard sums low)))
