-- What the rows of a span's halves come to over all its cuts is its total: left lengths outside the cuts add nothing, since no pair rule has
-- derivations of both lengths.
-- Assumes nothing.
use mathlib.Core.Path.{◌≡◌, sym, ap, ◌∙◌}
use mathlib.Core.Bool.{true, false, ◌||◌, false≢true}
use mathlib.Core.List.{List}
use Prim.Native.Nat.{ℕ, ◌+◌, ◌*◌, ◌-◌, ◌≤◌, ◌<◌}
use native.Mathlib.Omega.{arith}
use native.Mathlib.Decide.{dec_le}
use borrow.Author.Tests.{ne_eqb}
use lib.Dec.{eqb}
use Rattle.lists.specs.Joined.{◌∈◌, sum_over, up_from}
use Rattle.lists.proofs.Sums.{sum_ext, sum_none, sum_swap}
use Rattle.lists.proofs.Tests.{bit_le}
use Rattle.sets.specs.Inner.Sets.{member, members}
use Rattle.sets.proofs.Lists.{members_∈, sum_within}
use Rattle.grammar.specs.Inner.Rules.{pairs_in, ruled, Ruled}
use Rattle.grammar.proofs.Ruling.{words_ruled, pairs_ruled}
use Rattle.counting.specs.Totals.{total, T}
use Rattle.counting.specs.Inner.Counted.{Asked}
use Rattle.counting.proofs.Totals.{product_at, pair_total, left_none, right_none, total_one, total_more}
use Rattle.counting.proofs.Asking.{asked_left, asked_right, total_dead}
use Rattle.counting.specs.Inner.Letters.{any, weighed, letter_weight}
use Rattle.charts.specs.Inner.Letters.{weight_by}
use Rattle.charts.specs.Inner.Maps.{total_at}
use Rattle.charts.specs.Inner.Plan.{cuts, Cut}
use Rattle.charts.specs.Inner.Filling.{cut_sum, cuts_sum, leaf_sum, Done}

-- ---- weights up to 1

-- a letter that isn't weighed
pub letter_le : (weights : ℕ → ℕ) (x w : ℕ) → x ≤ any → letter_weight weights x w ≤ 1
letter_le weights x w h = rw (ne_eqb x weighed (λ e. omega arith)) (bit_le (eqb x any || eqb x w))

-- ---- a span's cuts

module _ {rules plan : List (List ℕ)} (map : List (List ℕ)) {n : ℕ} (t : Ruled rules) (cut : Cut rules plan n) (A p m : ℕ) (asked : Asked rules n A m)
    (more : 2 ≤ m) (low : m ≤ 31) where
  abbrev R : ℕ → ℕ → ℕ → ℕ
  R = total (ruled rules) (weight_by rules map)

  -- what the left length k adds
  abbrev here : ℕ → ℕ
  here k = sum_over (λ (e : ℕ × ℕ). product_at R e.0 e.1 p m k) (pairs_in rules A)

  all_lengths : sum_over here (up_from 1 (m - 1)) ≡ R p A m
  all_lengths =
      sym (total_more (ruled rules) (weight_by rules map) p A m more
      ∙ ap (sum_over (pair_total R p m)) (pairs_ruled rules A)
      ∙ sum_swap (λ (e : ℕ × ℕ) (k : ℕ). product_at R e.0 e.1 p m k) (pairs_in rules A) (up_from 1 (m - 1)))

  -- no pair rule has derivations of both lengths
  dead : (k : ℕ) → 1 ≤ k → k < m → member (cuts plan m) k ≡ false → here k ≡ 0
  dead k l u z = sum_none (λ (e : ℕ × ℕ). product_at R e.0 e.1 p m k) (pairs_in rules A) one
    where
      one : (e : ℕ × ℕ) → e ∈ pairs_in rules A → product_at R e.0 e.1 p m k ≡ 0
      one e i =
          elim (dec_le 1 (T (ruled rules) e.0 k)) [
            | no x ↦ left_none R e.0 e.1 p m k (total_dead (ruled rules) (weight_by rules map) p e.0 k (omega arith))
            | yes x ↦
                elim (dec_le 1 (T (ruled rules) e.1 (m - k))) [
                  | no y ↦ right_none R e.0 e.1 p m k (total_dead (ruled rules) (weight_by rules map) (p + k) e.1 (m - k) (omega arith))
                  | yes y ↦ absurd (false≢true (sym z ∙ cut.cut A e.0 e.1 m k asked i l u x y))
                ]
          ]

  cuts_all : sum_over here (members (cuts plan m)) ≡ R p A m
  cuts_all =
      sum_within (cuts plan m) 1 (m - 1) here (omega arith)
      (λ k h t. let w = cut.within m k h (omega arith) asked.short t in (w.0, omega (arith, w.1))) (λ k l u z. dead k l (omega arith) z)
      ∙ all_lengths

  -- so the rows of the halves give the total
  pub cuts_total : (totals : List (List ℕ))
      → ((k : ℕ) → k < 32 → member (cuts plan m) k ≡ true → Done rules map n p k totals × Done rules map n (p + k) (m - k) totals)
      → cuts_sum rules plan map totals p m A ≡ R p A m
  cuts_total totals done =
      sum_ext (cut_sum rules map totals p m A) here (members (cuts plan m))
      (λ k i.
      let h = members_∈ (cuts plan m) k i in
      let w = cut.within m k h.0 (omega arith) asked.short h.1 in
      let d = done k h.0 h.1 in
      sum_ext (λ (e : ℕ × ℕ). total_at totals map p e.0 k * total_at totals map (p + k) e.1 (m - k))
      (λ (e : ℕ × ℕ). product_at R e.0 e.1 p m k) (pairs_in rules A)
      (λ e j.
      rw (
        d.0 e.0 (asked_left t asked e j k w.0 (omega (arith, w.1))),
        d.1 e.1 (asked_right t asked e j (m - k) (omega (arith, w.1)) (omega (arith, w.0))),
      )))
      ∙ cuts_all

-- at a single position the words give it
pub leaf_total : (rules map : List (List ℕ)) (p A : ℕ) → leaf_sum rules map p A ≡ total (ruled rules) (weight_by rules map) p A 1
leaf_total rules map p A = sym (total_one (ruled rules) (weight_by rules map) p A ∙ ap (sum_over (weight_by rules map p)) (words_ruled rules A))
