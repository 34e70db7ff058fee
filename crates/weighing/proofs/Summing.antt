-- The sums of the heard derivations' weights, one after another: the sum so far is what those passed weigh together, and the ends to come are as they were.
-- Assumes nothing.
use mathlib.Core.Path.{◌≡◌, sym, ap, ◌∙◌}
use mathlib.Core.List.{List, [], ◌∷◌}
use Prim.Native.Nat.{ℕ, suc, ◌+◌, ◌-◌, ◌≤◌, ◌<◌}
use native.Mathlib.Omega.{arith}
use native.Mathlib.Numerals.{add-one}
use native.Mathlib.Decide.{ℕ_discrete}
use lib.ListN.{length, get_or, set, take, drop, length-set, length-map, take-append-drop}
use lib.Seq.{get_or-set_same, get_or-set_other, get_or-take, take-suc}
use Rattle.lists.specs.Joined.{sum_over}
use Rattle.lists.specs.Inner.Tickets.{gone}
use Rattle.lists.proofs.Sums.{sum_append}
use Rattle.lists.proofs.Places.{get_d_map}
use Rattle.counting.specs.Refusals.{most}
use Rattle.sampling.specs.Inner.Collect.{beginning, ending}
use Rattle.weighing.specs.Inner.Sums.{SumsSought, SummedTo}

pub record Summing (l : List (ℕ × ℕ)) (before sums : List ℕ) (i sum : ℕ) : Type 0 where
  pub low : i ≤ length l
  pub so_far : sum ≡ gone i l
  pub summed : SummedTo l i before sums

module _ {l : List (ℕ × ℕ)} {firsts before : List ℕ} (s : SumsSought l firsts before) where
  pub many : length firsts ≡ length l
  many = ap length s.firsts_are ∙ length-map l beginning

  module _ {sums : List ℕ} {i sum : ℕ} (w : Summing l before sums i sum) (low : i < length firsts) where
    listed : i < length l
    listed = omega (arith, many)

    abbrev here : ℕ × ℕ
    here = get_or l i (0, 0)

    first_is : get_or firsts i 0 ≡ here.0
    first_is = ap (λ (x : List ℕ). get_or x i 0) s.firsts_are ∙ get_d_map beginning l i (0, 0) 0 listed

    end_is : get_or sums i 0 ≡ here.0 + here.1
    end_is =
        w.summed.rest i (omega arith)
        ∙ sym (get_or-take (length firsts) before i 0 low)
        ∙ ap (λ (x : List ℕ). get_or x i 0) s.ends_are
        ∙ get_d_map ending l i (0, 0) 0 listed

    pub summing_above : get_or firsts i 0 ≤ get_or sums i 0
    summing_above = omega (arith, first_is, end_is)

    more : sum + (get_or sums i 0 - get_or firsts i 0) ≡ gone (suc i) l
    more =
        omega (
          arith,
          w.so_far,
          first_is,
          end_is,
          ap (sum_over (λ (e : ℕ × ℕ). e.1)) (take-suc l i (0, 0) listed),
          sum_append (λ (e : ℕ × ℕ). e.1) (take i l) (here ∷ []),
        )

    pub summing_fits : sum + (get_or sums i 0 - get_or firsts i 0) ≤ most
    summing_fits =
        omega (
          arith,
          more,
          s.fits,
          ap (sum_over (λ (e : ℕ × ℕ). e.1)) (take-append-drop (suc i) l),
          sum_append (λ (e : ℕ × ℕ). e.1) (take (suc i) l) (drop (suc i) l),
        )

    pub summing_turn : {x : ℕ} → x ≡ sum + (get_or sums i 0 - get_or firsts i 0) → Summing l before (set sums i x) (i + 1) x
    summing_turn {x} is =
        let room : i < length sums = omega (arith, w.summed.long, s.room) in
        rw add-one
        (record {
          low = omega (arith, listed);
          so_far = is ∙ more;
          summed = record {
            long = length-set sums i x ∙ w.summed.long;
            each = λ j h. elim (ℕ_discrete j i) [
              | yes e ↦ rw e (get_or-set_same sums i x 0 room ∙ is ∙ more)
              | no e ↦ get_or-set_other sums i j x 0 e ∙ w.summed.each j (omega arith)
            ];
            rest = λ j h. get_or-set_other sums i j x 0 (λ e. omega arith) ∙ w.summed.rest j (omega arith);
          };
        })
