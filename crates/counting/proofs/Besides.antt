-- Counts beside totals. Where each word counts for something, no count is above its total: by induction on the length. And the two parts of a table that
-- hold them, when one of them is written and the other stays.
-- Assumes nothing.
use mathlib.Core.Path.{◌≡◌, refl, ap, ◌∙◌, sym}
use mathlib.Core.Bool.{Bool, true, false, false≢true}
use mathlib.Core.List.{List, [], ◌∷◌, ◌++◌, append-nil}
use Prim.Native.Nat.{ℕ, zero, suc, ◌+◌, ◌-◌, ◌≤◌, ◌<◌}
use native.Mathlib.Omega.{arith}
use native.Mathlib.Nat.{mul-le-mul, sub-zero}
use lib.ListN.{length, get_or, set, take, drop, length-set, length-drop, drop_of_length-le}
use lib.Seq.{length-take-le, take_all, take_at, drop_at}
use borrow.Rule.Slice.PartMut.{put_mid, post_of, same_len_mid, take_put, drop_put}
use Rattle.lists.specs.Joined.{◌∈◌, up_from}
use Rattle.lists.specs.Inner.Tables.{put}
use Rattle.lists.proofs.Members.{up_from_∈}
use Rattle.lists.proofs.Sums.{sum_le, sum_none}
use Rattle.lists.proofs.Places.{get_or_same}
use Rattle.sets.specs.Inner.Sets.{members}
use Rattle.grammar.specs.Chains.{words_of, pairs_of}
use Rattle.grammar.specs.Inner.Rules.{words_in, left_at, right_at, pair_from, count_in, pairs_in, ruled, Ruled}
use Rattle.grammar.proofs.Ruling.{words_ruled, pairs_ruled, pair_inside}
use Rattle.counting.specs.Totals.{total_by}
use Rattle.counting.specs.Refusals.{most}
use Rattle.counting.specs.Inner.Counted.{count_at, longest_at}
use Rattle.counting.specs.Inner.Letters.{weighed, by_letter}
use Rattle.counting.specs.Inner.Needs.{needs_at, MemberOf, FoundAs}
use Rattle.counting.specs.Inner.Filling.{no_counts, Beside, BesideAs, part_sum, Below, HalvesBeside, Deriving, DerivingBeside, longer, stored, PlacedAs, RowFilling, RowTo, RowFilledAs, Filling, FilledAs}
use Rattle.counting.proofs.Totals.{product_at, pair_total, left_none, by_one, by_more, total_none}
use Rattle.counting.proofs.Filling.{Summing, summing_start, listed, summing_added, summing_past, summing_end, row_start, row_asks, row_over, row_step, row_end, Rising, rising_start, rising_asks, rising_over, rising_step, rising_end}

-- the first row begins a table of its own: no counts are beside it
pub alone : {rules totals : List (List ℕ)} {asks : (u : ℕ → ℕ) (t : List (List ℕ)) → Type 0} (letter : ℕ) → (letter ≡ weighed → 14 ≤ length rules)
    → asks (by_letter rules letter) totals → Beside rules letter 0 asks totals
alone letter weights own = record { weights = weights; own = own; counts = λ z. absurd (z refl); each = λ z. absurd (z refl) }

-- ---- no count is above its total

module _ {rules : List (List ℕ)} {u v : ℕ → ℕ} (t : Ruled rules) (less : (A w : ℕ) → A < count_in rules → w ∈ words_in rules A → v w ≤ u w) where
  less_below : (n A m : ℕ) → m < n → A < count_in rules → total_by (ruled rules) v A m ≤ total_by (ruled rules) u A m
  less_below zero A m l h = absurd (omega arith)
  less_below (suc n) A zero l h = omega (arith, total_none (ruled rules) (λ p w. v w) 0 A)
  less_below (suc n) A (suc zero) l h =
      omega (
        arith,
        by_one (ruled rules) v A,
        by_one (ruled rules) u A,
        sum_le v u (words_of (ruled rules A)) (λ w i. less A w h (rw (words_ruled rules A) at i)),
      )
  less_below (suc n) A (suc (suc m)) l h =
      let m₂ = suc (suc m) in
      omega (
        arith,
        by_more (ruled rules) v A m₂ (omega arith),
        by_more (ruled rules) u A m₂ (omega arith),
        sum_le (pair_total (λ p. total_by (ruled rules) v) 0 m₂) (pair_total (λ p. total_by (ruled rules) u) 0 m₂) (pairs_of (ruled rules A))
            (λ x i. let inside = pair_inside t A x h (rw (pairs_ruled rules A) at i) in
            sum_le (product_at (λ p. total_by (ruled rules) v) x.0 x.1 0 m₂) (product_at (λ p. total_by (ruled rules) u) x.0 x.1 0 m₂) (up_from 1 (m₂ - 1))
            (λ k j. let q = up_from_∈ 1 (m₂ - 1) j in
            mul-le-mul (less_below n x.0 k (omega arith) inside.0) (less_below n x.1 (m₂ - k) (omega arith) inside.1))),
      )

  pub count_less : (A m : ℕ) → A < count_in rules → total_by (ruled rules) v A m ≤ total_by (ruled rules) u A m
  count_less A m h = less_below (suc m) A m (omega arith) h

  -- nor in the two tables
  table_less : {totals counts : List (List ℕ)} {m X : ℕ} → X < count_in rules → Below rules u totals m X → Below rules v counts m X
      → (k : ℕ) → 1 ≤ k → k < m → count_at counts X k ≤ count_at totals X k
  table_less {X = X} h b c k l r = omega (arith, b.right k l r, c.right k l r, count_less X k h)

-- so a pair rule's sums can be added beside each other
beside_asked : {rules totals counts : List (List ℕ)} {u v : ℕ → ℕ} {m a B C before counted : ℕ} → DerivingBeside rules u v totals counts m a → (B, C) ∈ pairs_in rules a
    → counted ≤ before → HalvesBeside totals counts B C m before counted
beside_asked {a = a} {B} {C} d i l =
    let t = d.own.table in
    let inside = pair_inside t a (B, C) d.own.inside i in
    let own = d.own.halves (B, C) i in
    let beside = d.beside.halves (B, C) i in
    record {
      long = d.beside.long;
      left = table_less t d.less inside.0 own.0 beside.0;
      right = table_less t d.less inside.1 own.1 beside.1;
      less = l;
    }

-- ---- the loop over a nonterminal's pair rules

-- before the pair rule at i of the table: each sum so far with what is due, that of the counts no more than the other
pub record SummingBeside (rules : List (List ℕ)) (u v : ℕ → ℕ) (a m i total count : ℕ) : Type 0 where
  pub own : Summing rules u a m i total
  pub beside : Summing rules v a m i count
  pub less : count ≤ total

module _ {rules totals counts : List (List ℕ)} {u v : ℕ → ℕ} {m a : ℕ} (d : DerivingBeside rules u v totals counts m a) (more : 2 ≤ m) where
  pub beside_start : {i : ℕ} → i ≡ pair_from rules a → SummingBeside rules u v a m i 0 0
  beside_start e = record { own = summing_start d.own more e; beside = summing_start d.beside more e; less = omega arith }

  module _ {i total count : ℕ} (w : SummingBeside rules u v a m i total count) where
    pub beside_end : pair_from rules (a + 1) ≤ i → (total ≡ total_by (ruled rules) u a m) × (count ≡ total_by (ruled rules) v a m) × (count ≤ total)
    beside_end l = (summing_end d.own more w.own l, summing_end d.beside more w.beside l, w.less)

    module _ (l : i < pair_from rules (a + 1)) {B C : ℕ} (e_b : B ≡ left_at rules i) (e_c : C ≡ right_at rules i) where
      pub beside_asks : HalvesBeside totals counts B C m total count
      beside_asks = beside_asked d (listed d.own more w.own l e_b e_c) w.less

      pub beside_step : {x c : ℕ} → x ≡ total + part_sum (count_at totals) B C m (m - 1) → c ≡ count + part_sum (count_at counts) B C m (m - 1) → c ≤ x → SummingBeside rules u v a m (i + 1) x c
      beside_step e f g = record { own = summing_added d.own more w.own l e_b e_c e; beside = summing_added d.beside more w.beside l e_b e_c f; less = g }

      pub beside_past : most < total + part_sum (count_at totals) B C m (m - 1) → most < total_by (ruled rules) u a m
      beside_past f = summing_past d.own more w.own l e_b e_c f

-- ---- nothing counted beside

none_here : (A m : ℕ) → count_at no_counts A m ≡ 0
none_here A m = ap (λ (r : List ℕ). get_or r A 0) (get_or_same 17 m [])

pub none_beside : {totals : List (List ℕ)} {B C m before : ℕ} → HalvesBeside totals no_counts B C m before 0
none_beside {B = B} {C} = record {
  long = omega arith;
  left = λ k l u. omega (arith, none_here B k);
  right = λ k l u. omega (arith, none_here C k);
  less = omega arith;
}

module _ (rules : List (List ℕ)) where
  none_below : (n A m : ℕ) → m < n → total_by (ruled rules) (λ w. 0) A m ≡ 0
  none_below zero A m l = absurd (omega arith)
  none_below (suc n) A zero l = total_none (ruled rules) (λ p w. 0) 0 A
  none_below (suc n) A (suc zero) l = by_one (ruled rules) (λ w. 0) A ∙ sum_none (λ w. 0) (words_of (ruled rules A)) (λ w i. refl)
  none_below (suc n) A (suc (suc m)) l =
      let m₂ = suc (suc m) in
      by_more (ruled rules) (λ w. 0) A m₂ (omega arith)
      ∙ sum_none (pair_total (λ p. total_by (ruled rules) (λ w. 0)) 0 m₂) (pairs_of (ruled rules A))
      (λ x i. sum_none (product_at (λ p. total_by (ruled rules) (λ w. 0)) x.0 x.1 0 m₂) (up_from 1 (m₂ - 1))
      (λ k j. let q = up_from_∈ 1 (m₂ - 1) j in
      left_none (λ p. total_by (ruled rules) (λ w. 0)) x.0 x.1 0 m₂ k (none_below n x.0 k (omega arith))))

none_asked : {rules : List (List ℕ)} {m X : ℕ} → X < 32 → Below rules (λ w. 0) no_counts m X
none_asked {rules} {m} {X} h = record {
  inside = h;
  right = λ k l r. none_here X k ∙ sym (none_below rules (suc k) X k (omega arith));
  longest = λ k l r o. none_below rules (suc k) X k (omega arith);
}

alone_asks : {rules totals : List (List ℕ)} {u : ℕ → ℕ} {m a : ℕ} → Deriving rules u totals m a → DerivingBeside rules u (λ w. 0) totals no_counts m a
alone_asks d =
    record {
      own = d;
      beside = record { table = d.table; some = d.some; short = d.short; inside = d.inside; long = omega arith; halves = λ x i. let h = d.halves x i in (none_asked h.0.inside, none_asked h.1.inside) };
      less = λ A w h i. omega arith;
    }

-- ---- the two parts of a table

module _ {X : Type 0} (at : ℕ) (whole : List X) (h : at ≤ length whole) where
  behind_is : take (length whole - at) (drop at whole) ≡ drop at whole
  behind_is = take_all (length whole - at) (drop at whole) (omega (arith, length-drop at whole))

  ahead_is : take (at - 0) whole ≡ take at whole
  ahead_is = rw sub-zero

  -- the part from `at` on is put back
  module _ (part : List X) where
    put_behind : drop at (put_mid at (length whole - at) whole part) ≡ part
    put_behind =
        let z : post_of at (length whole - at) whole ≡ [] = drop_of_length-le (drop at whole) {i = length whole - at} (omega (arith, length-drop at whole)) in
        drop_at (take at whole) (part ++ post_of at (length whole - at) whole) at (length-take-le at whole h) ∙ rw (z, append-nil)

    ahead_stays : take at (put_mid at (length whole - at) whole part) ≡ take at whole
    ahead_stays = take_put at (length whole - at) whole part h

    -- and that before it
    module _ (l : length part ≡ at) where
      put_ahead : take at (put_mid 0 (at - 0) whole part) ≡ part
      put_ahead = take_at part (post_of 0 (at - 0) whole) at l

      behind_stays : drop at (put_mid 0 (at - 0) whole part) ≡ drop at whole
      behind_stays = drop_put 0 at whole part (omega arith) h (omega arith)

-- ---- one nonterminal's total and count, placed

stored_length : (t : List (List ℕ)) (a m v : ℕ) → length (stored t a m v) ≡ length t
stored_length t a m v =
    length-set (put t m a v) 0 (set (get_or (put t m a v) 0 []) a (longer (longest_at t a) m v)) ∙ length-set t m (set (get_or t m []) a v)

-- first one part is written, then the other
module _ (at : ℕ) (whole : List (List ℕ)) (a m v c : ℕ) (low : 17 ≤ at) (high : at + 17 ≤ length whole) (behind ahead : List (List ℕ))
    (eb : behind ≡ stored (take (length whole - at) (drop at whole)) a m v) (ea : ahead ≡ stored (take (at - 0) (put_mid at (length whole - at) whole behind)) a m c) where
  abbrev half : List (List ℕ)
  half = put_mid at (length whole - at) whole behind

  within : at ≤ length whole
  within = omega arith

  half_within : at ≤ length half
  half_within = omega (arith, within, same_len_mid at (length whole - at) whole behind (ap length eb ∙ stored_length (take (length whole - at) (drop at whole)) a m v))

  ahead_stored : ahead ≡ stored (take at whole) a m c
  ahead_stored = ea ∙ ap (λ (t : List (List ℕ)). stored t a m c) (ahead_is at half half_within ∙ ahead_stays at whole within behind)

  pub both_put : (drop at (put_mid 0 (at - 0) half ahead) ≡ stored (drop at whole) a m v) × (take at (put_mid 0 (at - 0) half ahead) ≡ stored (take at whole) a m c)
  both_put =
      let l : length ahead ≡ at = ap length ahead_stored ∙ stored_length (take at whole) a m c ∙ length-take-le at whole within in (
        behind_stays at half half_within ahead l ∙ put_behind at whole within behind ∙ eb ∙ ap (λ (t : List (List ℕ)). stored t a m v) (behind_is at whole within),
        put_ahead at half half_within ahead l ∙ ahead_stored,
      )

module _ {rules totals : List (List ℕ)} {letter at m a : ℕ} (b : Beside rules letter at (λ u t. Deriving rules u t m a) totals) where
  abbrev u : ℕ → ℕ
  u = by_letter rules letter

  -- without counts
  pub place_asks : at ≡ 0 → DerivingBeside rules u (λ w. 0) totals no_counts m a × (letter ≡ weighed → 14 ≤ length rules)
  place_asks e = (alone_asks (rw e at b.own), b.weights)

  -- with them
  module _ (n : at ≡ 0 → ⊥) where
    pub place_within : (17 ≤ at) × (at + 17 ≤ length totals)
    place_within =
        let high : at + 17 ≤ length totals = omega (arith, length-drop at totals, b.own.long) in
        (omega (arith, length-take-le at totals (omega arith), (b.counts n).long), high)

    pub place_beside_asks : DerivingBeside rules u (λ w. 1) (take (length totals - at) (drop at totals)) (take (at - 0) totals) m a × (letter ≡ weighed → 14 ≤ length rules)
    place_beside_asks =
        let h : at ≤ length totals = omega (arith, place_within) in
        (record { own = rw (behind_is at totals h) b.own; beside = rw (ahead_is at totals h) (b.counts n); less = b.each n }, b.weights)

-- ---- a row and the rows, in both parts

module _ {rules start : List (List ℕ)} {letter at m set : ℕ} (f : Beside rules letter at (λ u t. RowFilling rules u t m set) start) where
  abbrev pub RowsTo : (totals : List (List ℕ)) (left : ℕ) → Type 0
  RowsTo totals left = BesideAs rules letter at (λ u b t fits. RowTo rules u b t m set left) start totals true

  abbrev pub RowsAs : (totals : List (List ℕ)) → Bool → Type 0
  RowsAs totals fits = BesideAs rules letter at (λ u b t. RowFilledAs rules u b t m set) start totals fits

  pub rows_start : RowsTo start set
  rows_start = record { own = row_start f.own; counts = λ n z. row_start (f.counts n) }

  module _ {totals : List (List ℕ)} {left : ℕ} (w : RowsTo totals left) where
    pub rows_end : members left ≡ [] → RowsAs totals true
    rows_end e = record { own = row_end f.own w.own e; counts = λ n z. row_end (f.counts n) (w.counts n refl) e }

    module _ {a : ℕ} {rest : List ℕ} (first : members left ≡ a ∷ rest) (among : (A : ℕ) → MemberOf left A → MemberOf set A) where
      pub rows_asks : Beside rules letter at (λ u t. Deriving rules u t m a) totals
      rows_asks = record {
        weights = f.weights;
        own = row_asks f.own w.own first among;
        counts = λ n. row_asks (f.counts n) (w.counts n refl) first among;
        each = f.each;
      }

      module _ {after : List (List ℕ)} {fits : Bool} (p : BesideAs rules letter at (λ u b t. PlacedAs rules u b t m a) totals after fits) where
        pub rows_over : fits ≡ false → RowsAs after false
        rows_over z =
            let q = p.own.over z in
            record { own = rw q.1 (row_over f.own w.own first among q.0); counts = λ n z. absurd (false≢true z) }

        pub rows_step : fits ≡ true → (next : ℕ) → rest ≡ members next → RowsTo after next
        rows_step z next e = record {
          own = let q = p.own.here z in row_step f.own w.own first among next e q.0 q.1;
          counts = λ n y. let q = (p.counts n z).here refl in row_step (f.counts n) (w.counts n refl) first among next e q.0 q.1;
        }

module _ {rules start : List (List ℕ)} {letter at n : ℕ} (f : Beside rules letter at (λ u t. Filling rules n t) start) where
  abbrev pub FillsTo : (totals : List (List ℕ)) (m : ℕ) → Type 0
  FillsTo totals m = BesideAs rules letter at (λ u b t fits. Rising rules u b t n m) start totals true

  abbrev pub FillsAs : (totals : List (List ℕ)) → Bool → Type 0
  FillsAs totals fits = BesideAs rules letter at (λ u b t. FilledAs rules u n b t) start totals fits

  abbrev by : ℕ → ℕ
  by = by_letter rules letter

  abbrev ones : ℕ → ℕ
  ones w = 1

  pub fills_start : FillsTo start 1
  fills_start = record { own = rising_start by f.own; counts = λ n z. rising_start ones (f.counts n) }

  module _ {totals : List (List ℕ)} {m : ℕ} (r : FillsTo totals m) where
    pub fills_end : n < m → FillsAs totals true
    fills_end h = record { own = rising_end by f.own r.own h; counts = λ n z. rising_end ones (f.counts n) (r.counts n refl) h }

    module _ (short : m ≤ n) {needs : List ℕ} (found : FoundAs rules n needs) {set : ℕ} (e : set ≡ needs_at needs m) where
      pub fills_asks : Beside rules letter at (λ u t. RowFilling rules u t m set) totals
      fills_asks = record {
        weights = f.weights;
        own = rising_asks by f.own r.own short found e;
        counts = λ n. rising_asks ones (f.counts n) (r.counts n refl) short found e;
        each = f.each;
      }

      module _ {after : List (List ℕ)} {fits : Bool} (d : BesideAs rules letter at (λ u b t. RowFilledAs rules u b t m set) totals after fits) where
        pub fills_over : fits ≡ false → FillsAs after false
        fills_over z = record { own = rising_over by f.own r.own short found e z d.own; counts = λ n z. absurd (false≢true z) }

        pub fills_step : fits ≡ true → FillsTo after (m + 1)
        fills_step z = record {
          own = rising_step by f.own r.own short found e (d.own.row z);
          counts = λ n y. rising_step ones (f.counts n) (r.counts n refl) short found e ((d.counts n z).row refl);
        }
