-- Which line of a list of refusals applies, where the list is one list after another; and what is answered then.
-- Assumes nothing.
use mathlib.Core.Path.{◌≡◌, refl, ◌∙◌}
use mathlib.Core.Logic.{◌≢◌}
use mathlib.Core.Bool.{Bool, true, false, ◌&&◌}
use mathlib.Core.List.{List, [], ◌∷◌, ◌++◌}
use Prim.Native.Nat.{ℕ, zero, suc, ◌<◌}
use native.Mathlib.Omega.{arith}
use lib.ListN.{length}
use borrow.Author.Tests.{ltb-true, eqb-false}
use lib.Dec.{ltb, eqb}
use Rattle.lists.specs.Searched.{some_of}
use Rattle.lists.proofs.Tests.{and_left, and_right, or_left, or_right}
use Rattle.answers.specs.Answer.{Row, first_that_applies, given, refused, answer_of}

-- ---- line by line

pub row_applies : (n : ℕ) (rows : List Row) {t : Bool} → t ≡ true → first_that_applies ((t, n) ∷ rows) ≡ n
unfolding first_that_applies
row_applies n rows e = rw e

pub row_passed : (n : ℕ) (rows : List Row) {t : Bool} → t ≡ false → first_that_applies ((t, n) ∷ rows) ≡ first_that_applies rows
unfolding first_that_applies
row_passed n rows e = rw e

-- where nothing applies, the first line doesn't, provided it has a number above 0, and neither do the others
pub row_clear : (n : ℕ) (rows : List Row) (t : Bool) → 0 < n → first_that_applies ((t, n) ∷ rows) ≡ 0 → (t ≡ false) × (first_that_applies rows ≡ 0)
unfolding first_that_applies
row_clear n rows true h e = absurd (omega arith)
row_clear n rows false h e = (refl, e)

-- ---- a list after another

pub rows_stop : (a b : List Row) → 0 < first_that_applies a → first_that_applies (a ++ b) ≡ first_that_applies a
unfolding first_that_applies
rows_stop [] b h = absurd (omega arith)
rows_stop ((t, n) ∷ a) b h = go t (rows_stop a b) h
  where
    go : (t : Bool) → (0 < first_that_applies a → first_that_applies (a ++ b) ≡ first_that_applies a)
        → 0 < first_that_applies ((t, n) ∷ a) → first_that_applies ((t, n) ∷ (a ++ b)) ≡ first_that_applies ((t, n) ∷ a)
    go true ih h = refl
    go false ih h = ih h

-- each line has a number above 0
abbrev pub numbered : List Row → Bool
numbered [] = true
numbered (row ∷ rows) = ltb 0 row.1 && numbered rows

pub rows_pass : (a b : List Row) → numbered a ≡ true → first_that_applies a ≡ 0 → first_that_applies (a ++ b) ≡ first_that_applies b
rows_pass [] b h e = refl
rows_pass ((t, n) ∷ a) b h e =
    let q = row_clear n a t (ltb-true 0 n (and_left (ltb 0 n) (numbered a) h)) e in
    row_passed n (a ++ b) q.0 ∙ rows_pass a b (and_right (ltb 0 n) (numbered a) h) q.1

-- two lists of which the same applies still do so behind a third
pub rows_tail : (a b c : List Row) → first_that_applies b ≡ first_that_applies c → first_that_applies (a ++ b) ≡ first_that_applies (a ++ c)
unfolding first_that_applies
rows_tail [] b c e = e
rows_tail ((t, n) ∷ a) b c e = rw (rows_tail a b c e)

-- where nothing of two lists applies, nothing of either does
pub rows_clear : (a b : List Row) → numbered a ≡ true → first_that_applies (a ++ b) ≡ 0 → (first_that_applies a ≡ 0) × (first_that_applies b ≡ 0)
unfolding first_that_applies
rows_clear [] b h e = (refl, e)
rows_clear ((t, n) ∷ a) b h e =
    let q = row_clear n (a ++ b) t (ltb-true 0 n (and_left (ltb 0 n) (numbered a) h)) e in
    let r = rows_clear a b (and_right (ltb 0 n) (numbered a) h) q.1 in
    (row_passed n a q.0 ∙ r.0, r.1)

-- a number above 0 that no line has isn't returned
pub rows_lack : (k : ℕ) (rows : List Row) → 0 < k → some_of (λ (row : Row). eqb row.1 k) rows ≡ false → first_that_applies rows ≢ k
unfolding first_that_applies
rows_lack k [] h e = λ z. omega arith
rows_lack k ((t, n) ∷ rows) h e =
    let here = eqb-false n k (or_left (eqb n k) (some_of (λ (row : Row). eqb row.1 k) rows) e) in
    let later = rows_lack k rows h (or_right (eqb n k) (some_of (λ (row : Row). eqb row.1 k) rows) e) in
    go t here later
  where
    go : (t : Bool) → n ≢ k → first_that_applies rows ≢ k → first_that_applies ((t, n) ∷ rows) ≢ k
    go true here later = here
    go false here later = later

-- ---- what is answered

pub answer_number : (n : ℕ) (figures before after : List ℕ) → (answer_of n figures before after).refusal ≡ n
unfolding answer_of
answer_number zero figures before after = refl
answer_number (suc n) figures before after = refl

pub answer_accepted : {n : ℕ} (figures before after : List ℕ) → n ≡ 0
    → answer_of n figures before after ≡ given figures after
unfolding answer_of
answer_accepted figures before after e = rw e

pub answer_refused : (n : ℕ) (figures before after : List ℕ) → 0 < n
    → answer_of n figures before after ≡ refused n (length figures) before
unfolding answer_of
answer_refused zero figures before after h = absurd (omega arith)
answer_refused (suc n) figures before after h = refl
