-- The counts and the totals by weight are filled side by side, in two parts of one table: what is said of the parts is said of the whole, row by row.
-- Assumes nothing.
use mathlib.Core.Path.{◌≡◌, refl, sym, ap, ◌∙◌}
use mathlib.Core.Bool.{Bool, true}
use mathlib.Core.List.{List, []}
use Prim.Native.Nat.{ℕ, ◌+◌, ◌-◌, ◌≤◌, ◌<◌}
use native.Mathlib.Omega.{arith}
use native.Mathlib.Decide.{dec_lt}
use lib.ListN.{length, get_or, take, drop, length-drop}
use lib.Seq.{get_or-drop, get_or-take, length-take-le}
use Rattle.lists.specs.Inner.Tables.{entry, Wide}
use Rattle.counting.specs.Inner.Letters.{weighed, by_letter}
use Rattle.counting.specs.Inner.Counted.{Counted}
use Rattle.counting.specs.Inner.Filling.{EachCounts, Beside, BesideAs, Filling, FilledAs}
use Rattle.counting.specs.Inner.Preparing.{Opened}
use Rattle.counting.proofs.Asking.{counted_rows}
use Rattle.charts.specs.Inner.Maps.{weights_row}
use Rattle.weighing.specs.Inner.Tables.{Lent}

-- ---- the rows of the parts

module _ (t : List (List ℕ)) where
  ahead_row : (r : ℕ) → r < weights_row → get_or (take weights_row t) r [] ≡ get_or t r []
  ahead_row r h = get_or-take weights_row t r [] h

  behind_row : (r : ℕ) → weights_row ≤ r → get_or (drop weights_row t) (r - weights_row) [] ≡ get_or t r []
  behind_row r h = let e : weights_row + (r - weights_row) ≡ r = omega arith in rw e at (get_or-drop weights_row t (r - weights_row) [])

  behind_long : length (drop weights_row t) ≡ length t - weights_row
  behind_long = length-drop weights_row t

  module _ (long : weights_row ≤ length t) where
    ahead_long : length (take weights_row t) ≡ weights_row
    ahead_long = length-take-le weights_row t long

    -- as wide as the whole
    ahead_wide : Wide t 32 → Wide (take weights_row t) 32
    ahead_wide w = record { row = λ r h. let l : r < weights_row = omega (arith, ahead_long) in ap length (ahead_row r l) ∙ w.row r (omega arith) }

    behind_wide : Wide t 32 → Wide (drop weights_row t) 32
    behind_wide w = record { row = λ r h. ap length (get_or-drop weights_row t r []) ∙ w.row (weights_row + r) (omega (arith, behind_long)) }

    whole_wide : Wide (take weights_row t) 32 → Wide (drop weights_row t) 32 → Wide t 32
    whole_wide a b = record {
      row = λ r h. elim (dec_lt r weights_row) [
        | yes l ↦ ap length (sym (ahead_row r l)) ∙ a.row r (omega (arith, ahead_long))
        | no l ↦ ap length (sym (behind_row r (omega arith))) ∙ b.row (r - weights_row) (omega (arith, behind_long))
      ];
    }

-- ---- filling them

module _ {rules₀ totals : List (List ℕ)} (l : Lent rules₀ totals) where
  long : weights_row ≤ length totals
  long = omega (arith, l.long)

  pub tally_asks : {g : List ℕ} {n : ℕ} {rules : List (List ℕ)} → Opened g n rules → 14 ≤ length rules → EachCounts rules (by_letter rules weighed)
      → Beside rules weighed weights_row (λ u t. Filling rules n t) totals
  tally_asks o weights each = record {
    weights = λ e. weights;
    own = record {
      table = o.holds.table;
      some = o.some;
      short = o.short;
      long = omega (arith, behind_long totals, l.long);
      wide = behind_wide totals long l.wide;
      zeros = λ r A h. ap (λ (x : List ℕ). get_or x A 0) (get_or-drop weights_row totals r []) ∙ l.zeros (weights_row + r) A;
    };
    counts = λ n. record {
      table = o.holds.table;
      some = o.some;
      short = o.short;
      long = omega (arith, ahead_long totals long);
      wide = ahead_wide totals long l.wide;
      zeros = λ r A h. ap (λ (x : List ℕ). get_or x A 0) (ahead_row totals r (omega arith)) ∙ l.zeros r A;
    };
    each = λ n. each;
  }

  module _ {rules after : List (List ℕ)} {n : ℕ} {fits : Bool} (f : BesideAs rules weighed weights_row (λ u b t. FilledAs rules u n b t) totals after fits) where
    pub tally_size : length after ≡ length totals
    tally_size = omega (arith, behind_long totals, behind_long after, f.own.long, l.long)

    module _ (z : fits ≡ true) where
      pub tally_counts : FilledAs rules (λ w. 1) n (take weights_row totals) (take weights_row after) true
      tally_counts = f.counts (λ e. omega arith) z

      after_long : weights_row ≤ length after
      after_long = omega (arith, tally_size, long)

      pub tally_counted : Counted rules after n
      tally_counted =
          let c = tally_counts.counted refl in
          counted_rows c (omega (arith, after_long)) (whole_wide after after_long tally_counts.wide f.own.wide) (λ r h. sym (ahead_row after r (omega (arith, c.short))))

      -- the row between the parts and the rows behind both are still all 0
      pub tally_none : (A : ℕ) → entry after 17 A ≡ 0
      tally_none A =
          ap (λ (x : List ℕ). get_or x A 0) (sym (ahead_row after 17 (omega arith)) ∙ tally_counts.rest 17 (omega arith) ∙ ahead_row totals 17 (omega arith)) ∙ l.zeros 17 A

      pub tally_behind : (r A : ℕ) → 35 ≤ r → entry after r A ≡ 0
      tally_behind r A h =
          ap (λ (x : List ℕ). get_or x A 0) (sym (behind_row after r (omega arith)) ∙ f.own.rest (r - weights_row) (omega arith) ∙ behind_row totals r (omega arith))
          ∙ l.zeros r A
