-- The plan from its rows. A pair rule stands at a place, so its nonterminals are among those gathered; the nonterminals of its halves are
-- wanted where they have derivations, so their lengths are cut.
-- Assumes nothing.
use mathlib.Core.Path.{◌≡◌, refl}
use mathlib.Core.Bool.{true}
use mathlib.Core.List.{List, [], ◌∷◌}
use Prim.Native.Nat.{ℕ, ◌+◌, ◌-◌, ◌≤◌}
use native.Mathlib.Omega.{arith}
use lib.ListN.{length, set}
use Rattle.sets.specs.Inner.Sets.{member}
use Rattle.grammar.specs.Inner.Rules.{pair_from, count_in, ruled}
use Rattle.grammar.proofs.Ruling.{pair_place, pair_below}
use Rattle.counting.specs.Totals.{T}
use Rattle.counting.specs.Inner.Counted.{Asked, Counted}
use Rattle.counting.proofs.Asking.{asked_left, asked_right}
use Rattle.charts.specs.Inner.Plan.{chart_row, Cut}
use Rattle.charts.specs.Inner.Planning.{at, SidedAs, AllWantedAs, AllCutAs, Spots, SpottedAs, PlacedAs, Plans, BuiltAs}
use Rattle.charts.proofs.Placing.{placed_rows}

module _ {rules totals : List (List ℕ)} {n N end lefts rights : ℕ} {cuts' wanted' partners' : List ℕ}
    (c : Counted rules totals n) (e_n : N ≡ count_in rules) (ee : end ≡ pair_from rules (count_in rules))
    (ws : AllWantedAs totals N n wanted') (ss : SidedAs rules end partners' lefts rights) (ks : AllCutAs wanted' lefts rights n cuts') where
  -- left lengths lie inside
  pub spots_ask : (row : List ℕ) → length row ≡ 32 → ((i : ℕ) → at row i ≡ 0) → Spots cuts' n row
  spots_ask row long none =
      record { some = c.some; short = c.short; within = λ m k h s l t. (ks.each m s l).only k h t; long = long; none = none }

  is_wanted : (A m : ℕ) → Asked rules n A m → 1 ≤ T (ruled rules) A m → member (at wanted' m) A ≡ true
  is_wanted A m a h = (ws.each m a.some a.short).has A (omega (arith, a.inside)) (omega (arith, c.right A m a))

  assembled : {spots' : List ℕ} → SpottedAs cuts' n 1 spots' → Cut rules (cuts' ∷ spots' ∷ wanted' ∷ partners' ∷ []) n
  assembled ps =
      record {
        wants = is_wanted;
        asks = λ A m h s l t. c.only A m h s l ((ws.each m s l).only A h t);
        pairs = λ A B C h i.
            let q = pair_place rules A (B, C) i in
            rw (q.3, q.4) at (ss.pair q.0 (omega (arith, pair_below c.table A q.0 h q.2)));
        cut = λ A B C m k a i s l hb hc.
            let q = pair_place rules A (B, C) i in
            let b = pair_below c.table A q.0 a.inside q.2 in
            (ks.each m a.some a.short).has B C k s l (rw q.3 at (ss.left q.0 (omega arith)))
            (is_wanted B k (asked_left c.table a (B, C) i k s (omega arith)) hb) (rw q.4 at (ss.right q.0 (omega arith)))
            (is_wanted C (m - k) (asked_right c.table a (B, C) i (m - k) (omega arith) (omega arith)) hc);
        within = λ m k h s l t. (ks.each m s l).only k h t;
        whole = ps.whole;
        halves = λ p m k hp hk s l t u. ps.halves p m k s l hp hk u t;
        inside = ps.inside.inside;
      }

-- ---- the rows stored

abbrev plan_of : (plan : List (List ℕ)) (cuts spots wanted partners : List ℕ) → List (List ℕ)
plan_of plan cuts spots wanted partners = set (set (set (set plan 0 cuts) 1 spots) 2 wanted) 3 partners

four_rows : (plan : List (List ℕ)) (a b d e : List ℕ) → length plan ≡ 4 → plan_of plan a b d e ≡ a ∷ b ∷ d ∷ e ∷ []
four_rows [] a b d e h = absurd (omega arith)
four_rows (x ∷ []) a b d e h = absurd (omega arith)
four_rows (x ∷ y ∷ []) a b d e h = absurd (omega arith)
four_rows (x ∷ y ∷ z ∷ []) a b d e h = absurd (omega arith)
four_rows (x ∷ y ∷ z ∷ w ∷ []) a b d e h = refl
four_rows (x ∷ y ∷ z ∷ w ∷ v ∷ l) a b d e h = absurd (omega arith)

module _ (plan : List (List ℕ)) (long : length plan ≡ 4) (a b d e : List ℕ) {rules totals map after : List (List ℕ)} {n N end lefts rights : ℕ}
    (p : Plans rules totals n plan map) (e_n : N ≡ count_in rules) (ee : end ≡ pair_from rules (count_in rules)) (ws : AllWantedAs totals N n d)
    (ss : SidedAs rules end e lefts rights) (ks : AllCutAs d lefts rights n a) (hn : at a 0 ≡ n) (ps : SpottedAs a n 1 b)
    (rs : PlacedAs b chart_row n (n + 1) map after) where
  pub built : BuiltAs rules n map (set (set (set (set plan 0 a) 1 b) 2 d) 3 e) after
  built =
      rw (four_rows plan a b d e long)
      (record {
        planned = record {
          behind = omega arith;
          length = hn;
          cut = assembled p.counted e_n ee ws ss ks ps;
          rows = placed_rows (a ∷ b ∷ d ∷ e ∷ []) rs refl;
        };
        letters = rs.letters;
        map_long = rs.long;
        map_wide = rs.wide;
      })
