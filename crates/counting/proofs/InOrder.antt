-- Sums in the paper's order (document 02, U3). The table's counts of the lengths below m are T (`part_counts`), those of the rules in the table
-- are those of the grammar's chains (`tabled_T`), and what the earlier pair rules and a part of this one have added is no more than T(A, m),
-- since that is what all of them add: so it fits where T(A, m) does.
-- Assumes nothing.
use mathlib.Core.Path.{◌≡◌, refl, ap, ◌∙◌}
use mathlib.Core.List.Memᴰ
use mathlib.Core.List.{List, ◌∷◌, ◌++◌}
use Prim.Native.Nat.{ℕ, ◌+◌, ◌-◌, ◌≤◌, ◌<◌}
use native.Mathlib.Omega.{arith}
use Rattle.lists.specs.Joined.{◌∈◌}
use Rattle.lists.proofs.Sums.{sum_append}
use Rattle.lists.proofs.Runs.{run_ext, run_le}
use Rattle.grammar.specs.Layout.{nonterminals, start}
use Rattle.grammar.specs.Chains.{chain, pairs_of}
use Rattle.grammar.specs.Inner.Rules.{pairs_in, ruled, Holds}
use Rattle.counting.specs.Totals.{T, added_after}
use Rattle.counting.specs.Needed.{Needed}
use Rattle.counting.specs.Refusals.{most}
use Rattle.counting.specs.Inner.Counted.{count_at}
use Rattle.counting.specs.Inner.Filling.{part_sum, Deriving}
use Rattle.counting.specs.Inner.Preparing.{Tabled}
use Rattle.counting.specs.Inner.InOrder.{added_by, InOrder}
use Rattle.counting.proofs.Totals.{product_at, sums}
use Rattle.counting.proofs.Tabled.{tabled_alike, tabled_T, tabled_asked}
use Rattle.counting.proofs.PairSums.{says_all, halves_asked, part_counts, halves_below}
use Rattle.counting.proofs.Besides.{none_beside}

module _ {g : List ℕ} {rules totals : List (List ℕ)} {A m : ℕ} (h : Holds g rules) (d : Deriving rules (λ w. 1) totals m A) (more : 2 ≤ m) where
  module _ (earlier later : List (ℕ × ℕ)) (B C k : ℕ) (rule : pairs_of (chain g A) ≡ earlier ++ (B, C) ∷ later) (l : k < m) where
    in_N : A < nonterminals g
    in_N = omega (arith, h.count_is, d.inside)

    stands : (B, C) ∈ pairs_of (chain g A)
    stands = rw rule (Memᴰ.append_right earlier (Memᴰ.head refl))

    inside : (B < nonterminals g) × (C < nonterminals g)
    inside = (tabled_alike h).inside A (B, C) in_N stands

    listed : (B, C) ∈ pairs_in rules A
    listed = rw (h.pairs_are A in_N) stands

    counts : part_sum (count_at totals) B C m k ≡ added_after (chain g) B C m k
    counts =
        part_counts d listed l
        ∙ run_ext (product_at (λ p. T (ruled rules)) B C 0 m) (product_at (λ p. T (chain g)) B C 0 m) 1 k
        (λ i u v. rw (tabled_T h B i inside.0, tabled_T h C (m - i) inside.1))

    within : added_by (chain g) m earlier + added_after (chain g) B C m k ≤ T (chain g) A m
    within =
        omega (
          arith,
          (sums (chain g)).pairs A m more ∙ ap (added_by (chain g) m) rule,
          sum_append (λ (x : ℕ × ℕ). added_after (chain g) x.0 x.1 m (m - 1)) earlier ((B, C) ∷ later),
          run_le (product_at (λ p. T (chain g)) B C 0 m) 1 k (m - 1) (omega arith),
        )

  -- while the table is filled: the counts of the lengths below m are there, and T(A, m) fits
  pub in_order : T (chain g) A m ≤ most → InOrder g totals A m
  in_order fits = record {
    asked = λ earlier later B C k rule l. (halves_asked d (listed earlier later B C k rule l) l, none_beside);
    added = λ earlier later B C k rule l answer beside s.
        says_all beside answer (omega (arith, within earlier later B C k rule l)) (rw (counts earlier later B C k rule l) at s);
  }

-- and with the table that every call has once it has passed the refusals 1 to 10: of every needed pair of an accepted grammar
pub in_order_tabled : {g : List ℕ} {rules totals : List (List ℕ)} {n A m : ℕ} → Tabled g n rules totals → Needed (chain g) (start g) n A m → 2 ≤ m → InOrder g totals A m
in_order_tabled {rules = rules} {totals} {n} {A} {m} t need more =
    let c = t.counted in
    let a = tabled_asked t.holds c.some need in
    in_order t.holds
    (record {
      table = c.table;
      some = a.some;
      short = omega (arith, a.short, c.short);
      inside = a.inside;
      long = c.long;
      halves = halves_below c.table a (λ B k q u. (c.right B k q, c.longest B k q));
    })
    more
    (omega (arith, tabled_T t.holds A m (omega (arith, a.inside, t.holds.count_is)), c.fits A m a))
