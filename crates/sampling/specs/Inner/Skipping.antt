-- What the skip over heard derivations asks. The heard ones are told by their first tickets, rising, and by sums of their weights: one for each of them,
-- of its own weight and of those before it; or none at all, where each weighs 1.
-- Assumes nothing: these are definitions.
use Rattle.std.specs.Prelude.{◌≡◌, cond, List, [], ◌∷◌, ℕ, ◌+◌, ◌-◌, ◌≤◌, eqb, length, get_or}
use Rattle.lists.specs.Ordered.{Pairwise}
use Rattle.lists.specs.Inner.Tickets.{Apart, gone}
use Rattle.counting.specs.Refusals.{most}

-- the first ticket and the weight of each, where those before them weigh b
abbrev pub spans_from : (b : ℕ) (heard sums : List ℕ) → List (ℕ × ℕ)
spans_from b [] sums = []
spans_from b (d ∷ heard) [] = (d, 1) ∷ spans_from b heard []
spans_from b (d ∷ heard) (s ∷ sums) = (d, s - b) ∷ spans_from s heard sums

abbrev pub heard_spans : (heard sums : List ℕ) → List (ℕ × ℕ)
heard_spans heard sums = spans_from 0 heard sums

-- what the sums say that the first i weigh
abbrev pub passed_by : (sums : List ℕ) (i : ℕ) → ℕ
passed_by sums i = cond (eqb i 0) 0 (cond (eqb (length sums) 0) i (get_or sums (i - 1) 0))

-- that is so, and there are none or enough of them
pub record Told (heard sums : List ℕ) : Type 0 where
  pub passed_are : (i : ℕ) → i ≤ length heard → passed_by sums i ≡ gone i (heard_spans heard sums)
  pub enough : (length sums ≡ 0 → ⊥) → length heard ≤ length sums

-- the heard ones don't overlap, they are no more than a history's records, and no skip over them passes 64 bits
pub record Skips (q : ℕ) (heard sums : List ℕ) : Type 0 where
  pub told : Told heard sums
  pub apart : Pairwise Apart (heard_spans heard sums)
  pub few : length heard ≤ 1000
  pub fits : q + gone (length heard) (heard_spans heard sums) ≤ most
