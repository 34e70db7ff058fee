-- Spans of one length after another: what the row of a needed span asks, from the rows of shorter ones; that it has the span's totals then; and
-- that the other rows have theirs still, since each needed span has a row of its own. Then the loops, position after position and length
-- after length.
-- Assumes nothing.
use mathlib.Core.Path.{◌≡◌, refl, sym, ap, ◌∙◌}
use mathlib.Core.Bool.{Bool, true, false, cond, false≢true}
use mathlib.Core.List.Memᴰ
use mathlib.Core.List.{List, [], ◌∷◌}
use Prim.Native.Nat.{ℕ, ◌+◌, ◌-◌, ◌≤◌, ◌<◌}
use native.Mathlib.Omega.{arith}
use native.Mathlib.Decide.{ℕ_discrete, dec_le, dec_lt}
use borrow.Author.Tests.{ne_eqb}
use lib.ListN.{length, get_or}
use Rattle.lists.specs.Inner.Tables.{entry, Wide}
use Rattle.lists.specs.Joined.{◌∈◌}
use Rattle.sets.specs.Inner.Sets.{member, members}
use Rattle.sets.proofs.Digits.{member_none}
use Rattle.sets.proofs.Loops.{turn_out, none_out}
use Rattle.sets.proofs.Lists.{members_∈}
use Rattle.grammar.specs.Inner.Rules.{count_in, ruled}
use Rattle.counting.specs.Totals.{total, T}
use Rattle.counting.specs.Refusals.{most}
use Rattle.counting.specs.Inner.Counted.{Asked}
use Rattle.counting.proofs.Counts.{total_le}
use Rattle.counting.proofs.Asking.{total_dead}
use Rattle.charts.specs.Inner.Letters.{letter_at, weight_by}
use Rattle.charts.specs.Inner.Maps.{row_at, total_at, Span}
use Rattle.charts.specs.Inner.Plan.{cuts, spots, wanted, needed, Cut, Rowed}
use Rattle.charts.specs.Inner.Chart.{Beside, Clean, Fills, Filled, ChartedAs}
use Rattle.charts.specs.Inner.Filling.{only, cuts_sum, span_sum, Makes, Half, Spans, SpannedAs, Done, FilledTo, LengthenedAs, Lengthens}
use Rattle.charts.proofs.Mapping.{blank_kept}
use Rattle.charts.proofs.Totalling.{letter_le, cuts_total, leaf_total}

-- ---- what filling asks

module _ {rules plan map : List (List ℕ)} {first n : ℕ} {sets : List ℕ} {totals : List (List ℕ)} (q : Fills rules plan map first n sets totals) where
  -- totals of weights up to 1 fit
  pub totals_fit : (p A m : ℕ) → Asked rules n A m → Span n p m → total (ruled rules) (weight_by rules map) p A m ≤ most
  totals_fit p A m a s =
      omega (
        arith,
        total_le (ruled rules) (weight_by rules map) p A m (λ i w h l. letter_le (entry rules 13) (letter_at map i) w (q.letters i (omega (arith, s.inside)))),
        q.blank.counted.fits A m a,
      )

  -- it holds still where the rows outside the chart are as they were
  pub fills_kept : {sets' : List ℕ} {totals' : List (List ℕ)} → Clean first n sets' totals' → length totals' ≡ length totals → Wide totals' 32
      → ((r : ℕ) → Beside first n r → get_or totals' r [] ≡ get_or totals r []) → Fills rules plan map first n sets' totals'
  fills_kept clean lt w k = record {
    blank = blank_kept q.blank q.planned.behind lt w k;
    planned = q.planned;
    linked = q.linked;
    letters = q.letters;
    clean = clean;
  }

-- ---- the row of one span

module _ {rules plan map : List (List ℕ)} {first n m left : ℕ} {sets : List ℕ} {totals : List (List ℕ)} (f : FilledTo rules plan map first n m left sets totals)
    (some : 1 ≤ m) (short : m ≤ n) (p : ℕ) (low : p < 32) (need : needed plan p m ≡ true) where
  abbrev cut : Cut rules plan n
  cut = f.fills.planned.cut

  abbrev rows : Rowed plan map first n
  rows = f.fills.planned.rows

  n_low : n ≤ 16
  n_low = f.fills.blank.counted.short

  span : Span n p m
  span = record { some = some; inside = cut.inside p m low some short need }

  abbrev R : ℕ → ℕ → ℕ → ℕ
  R = total (ruled rules) (weight_by rules map)

  module _ (k : ℕ) (k_low : k < 32) (c : member (cuts plan m) k ≡ true) where
    inner : (1 ≤ k) × (k < m)
    inner = cut.within m k k_low some short c

    parts : (needed plan p k ≡ true) × (needed plan (p + k) (m - k) ≡ true)
    parts = cut.halves p m k low k_low some short need c

    left_span : Span n p k
    left_span = record { some = inner.0; inside = omega (arith, span.inside, inner.1) }

    right_span : Span n (p + k) (m - k)
    right_span = record { some = omega (arith, inner.1); inside = omega (arith, span.inside, inner.1) }

    left_done : Done rules map n p k totals
    left_done = f.shorter p k left_span inner.1 parts.0

    right_done : Done rules map n (p + k) (m - k) totals
    right_done = f.shorter (p + k) (m - k) right_span (omega (arith, inner.0, inner.1)) parts.1

    half : (i j : ℕ) → Span n i j → needed plan i j ≡ true → j < m → Half map (row_at map p m) i j sets totals
    half i j s h u =
        let w = rows.some i j s h in
        record {
          inside = omega (arith, w.1, f.fills.blank.room);
          beside = omega (arith, w.1, f.fills.clean.beside);
          apart = λ e. omega (arith, (rows.own i j p m s span h need e).1);
          zero = λ A. f.fills.clean.zero (row_at map i j) A w.0 w.1;
        }

  makes : Makes rules map p m (get_or sets (row_at map p m) 0) totals
  makes = record {
    table = f.fills.blank.counted.table;
    linked = f.fills.linked;
    wide = f.fills.blank.counted.wide;
    inside = omega (arith, (rows.some p m span need).1, f.fills.blank.room);
    low = omega (arith, span.inside, n_low);
    some = some;
    short = omega (arith, n_low);
    letter = f.fills.letters p (omega (arith, span.inside));
    zero = λ A. let w = rows.some p m span need in f.fills.clean.zero (row_at map p m) A w.0 w.1;
  }

  -- for a nonterminal that isn't wanted there is no derivation
  wanted_total : 2 ≤ m → (A : ℕ) → Asked rules n A m → only (wanted plan m) A (cuts_sum rules plan map totals p m A) ≡ R p A m
  wanted_total more A a = go (member (wanted plan m) A) refl
    where
      go : (t : Bool) → member (wanted plan m) A ≡ t → cond t (cuts_sum rules plan map totals p m A) 0 ≡ R p A m
      go true e =
          cuts_total map f.fills.blank.counted.table cut A p m a more (omega (arith, n_low)) totals (λ k h c. (left_done k h c, right_done k h c))
      go false e = sym (total_dead (ruled rules) (weight_by rules map) p A m (none (dec_le 1 (T (ruled rules) A m))))
        where
          none : Dec (1 ≤ T (ruled rules) A m) → T (ruled rules) A m ≡ 0
          none (no h) = omega arith
          none (yes h) = absurd (false≢true (sym e ∙ cut.wants A m a h))

  -- a wanted one is asked for, so its total fits
  sums_fit : 2 ≤ m → (A : ℕ) → A < count_in rules → only (wanted plan m) A (cuts_sum rules plan map totals p m A) ≤ most
  sums_fit more A h = go (member (wanted plan m) A) refl
    where
      go : (t : Bool) → member (wanted plan m) A ≡ t → only (wanted plan m) A (cuts_sum rules plan map totals p m A) ≤ most
      go true e =
          let a = cut.asks A m (omega (arith, f.fills.blank.counted.table.few)) some short e in
          omega (arith, wanted_total more A a, totals_fit f.fills p A m a span)
      go false e = rw e (omega arith)

  beside : row_at map p m < length sets
  beside = omega (arith, (rows.some p m span need).1, f.fills.clean.beside)

  pub span_asks : Spans rules plan map p m sets totals
  span_asks = record {
    makes = makes;
    beside = beside;
    joins = λ more.
        record {
          makes = makes;
          beside = beside;
          pairs = cut.pairs;
          within = λ k h c. let w = inner k h c in (w.0, w.1, omega (arith, w.1, span.inside, n_low));
          left = λ k h c. half k h c p k (left_span k h c) (parts k h c).0 (inner k h c).1;
          right = λ k h c.
              let w = inner k h c in
              half k h c (p + k) (m - k) (right_span k h c) (parts k h c).1 (omega (arith, w.0, w.1));
          fits = sums_fit more;
        };
  }

  module _ {sets' : List ℕ} {totals' : List (List ℕ)} (d : SpannedAs rules plan map p m sets totals sets' totals') where
    -- the span's row has its totals
    span_done : Done rules map n p m totals'
    span_done A a = d.made.here A a.inside ∙ is A a (ℕ_discrete m 1)
      where
        is : (A : ℕ) → Asked rules n A m → Dec (m ≡ 1) → span_sum rules plan map totals p m A ≡ R p A m
        is A a (yes e) = rw e (leaf_total rules map p A)
        is A a (no e) = rw (ne_eqb m 1 e) (wanted_total (omega arith) A a)

    -- another needed span's row has its own still
    other_done : (i j : ℕ) → Span n i j → needed plan i j ≡ true → ((i ≡ p) × (j ≡ m) → ⊥) → Done rules map n i j totals
        → Done rules map n i j totals'
    other_done i j s h apart e A a =
        let n : row_at map i j ≡ row_at map p m → ⊥ = λ z. apart (rows.own i j p m s span h need z) in
        ap (λ (l : List ℕ). get_or l A 0) (d.made.others (row_at map i j) n) ∙ e A a

    -- every row is 0 outside its set: this one outside its new set, the others have theirs still
    span_clean : Clean first n sets' totals'
    span_clean = record {
      beside = omega (arith, f.fills.clean.beside, d.long);
      zero = λ r A c u l z.
          elim (ℕ_discrete r (row_at map p m)) [
            | yes e ↦ rw e (d.made.zero A l (rw e at z))
            | no apart ↦
                ap (λ (l : List ℕ). get_or l A 0) (d.made.others r apart)
                ∙ f.fills.clean.zero r A c u l (rw (d.others r apart) at z)
          ];
    }

    pub span_kept : (r : ℕ) → Beside first n r → get_or totals' r [] ≡ get_or totals r []
    span_kept r h = let w = rows.some p m span need in d.made.others r (λ e. h (omega (arith, w.0)) (omega (arith, w.1)))

    pub span_next : (next : ℕ) → members left ≡ p ∷ members next → FilledTo rules plan map first n m next sets' totals'
    span_next next t = record {
      fills = fills_kept f.fills span_clean d.made.long d.made.wide span_kept;
      shorter = λ i j s l h. other_done i j s h (λ e. omega (arith, e.1)) (f.shorter i j s l h);
      here = λ i s h z. here i s h z (ℕ_discrete i p);
    }
      where
        here : (i : ℕ) → Span n i m → needed plan i m ≡ true → member next i ≡ false → Dec (i ≡ p) → Done rules map n i m totals'
        here i s h z (yes e) = rw e span_done
        here i s h z (no e) =
            other_done i m s h (λ x. e x.0) (f.here i s h (turn_out left p next t i (omega (arith, s.inside, n_low)) z e))

-- ---- all spans

module _ {rules plan map : List (List ℕ)} {first n : ℕ} where
  -- on to the next length
  pub lengths_next : (m : ℕ) {sets sets' sets'' : List ℕ} {totals totals' totals'' : List (List ℕ)}
      → LengthenedAs rules plan map first n m (spots plan m) sets totals sets' totals' → LengthenedAs rules plan map first n m 0 sets' totals' sets'' totals''
      → LengthenedAs rules plan map first n (m + 1) (spots plan (m + 1)) sets totals sets'' totals''
  lengths_next m a b = record {
    filled = record {
      fills = b.filled.fills;
      shorter = λ p k s l h.
          elim (dec_lt k m) [
            | yes u ↦ b.filled.shorter p k s u h
            | no u ↦
                let e : k ≡ m = omega arith in
                rw e (b.filled.here p (rw e at s) (rw e at h) (member_none p))
          ];
      here = λ p s h z. absurd (false≢true (sym z ∙ h));
    };
    sets_long = b.sets_long ∙ a.sets_long;
    long = b.long ∙ a.long;
    kept = λ r h. b.kept r h ∙ a.kept r h;
  }

  -- past the longest
  pub lengths_end : (m : ℕ) {sets sets' : List ℕ} {totals totals' : List (List ℕ)} → n < m
      → LengthenedAs rules plan map first n m (spots plan m) sets totals sets' totals' → Filled rules plan map first n totals totals'
  lengths_end m {totals' = totals'} past w =
      let q = w.filled.fills in
      let rows = q.planned.rows in
      let done : (p k : ℕ) → Span n p k → needed plan p k ≡ true → Done rules map n p k totals'
      = λ p k s h. w.filled.shorter p k s (omega (arith, s.inside)) h in
      record {
        long = w.long;
        wide = q.blank.counted.wide;
        kept = w.kept;
        mapped = record {
          low = λ p m s. low p m s (needed plan p m) refl;
          right = λ p A m a s h. done p m s h A a;
          below = λ p A m a s. below p A m a s (needed plan p m) refl;
          fits = λ p A m a s. totals_fit q p A m a s;
        };
      }
    where
      whole : Span n 0 n
      whole = record { some = w.filled.fills.blank.counted.some; inside = omega arith }

      low : (p m : ℕ) → Span n p m → (t : Bool) → needed plan p m ≡ t → row_at map p m < length totals'
      low p m s true h = omega (arith, (w.filled.fills.planned.rows.some p m s h).1, w.filled.fills.blank.room)
      low p m s false h = omega (arith, w.filled.fills.planned.rows.none p m s h, w.filled.fills.planned.behind, (w.filled.fills.planned.rows.some 0 n whole w.filled.fills.planned.cut.whole).1, w.filled.fills.blank.room)

      below : (p A m : ℕ) → Asked rules n A m → Span n p m → (t : Bool) → needed plan p m ≡ t
          → total_at totals' map p A m ≤ total (ruled rules) (weight_by rules map) p A m
      below p A m a s true h = omega (arith, w.filled.shorter p m s (omega (arith, s.inside)) h A a)
      below p A m a s false h = rw (w.filled.fills.planned.rows.none p m s h) (omega (arith, w.filled.fills.blank.zeros A))

-- no position is left
all_here : {rules plan map : List (List ℕ)} {first n m : ℕ} {sets : List ℕ} {totals : List (List ℕ)} (left : ℕ) → members left ≡ []
    → FilledTo rules plan map first n m left sets totals → FilledTo rules plan map first n m 0 sets totals
all_here left e f = record {
  fills = f.fills;
  shorter = f.shorter;
  here = λ p s h z. f.here p s h (none_out left p e (omega (arith, s.inside, f.fills.blank.counted.short)));
}

-- before the positions in `left`, whatever n the plan is for and wherever the chart begins
pub record LengthWalk (rules plan map : List (List ℕ)) (m left : ℕ) (sets : List ℕ) (totals : List (List ℕ)) (sets' : List ℕ) (totals' : List (List ℕ)) : Type 0 where
  pub among : (p : ℕ) → p ∈ members left → p ∈ members (spots plan m)
  pub done : (first n : ℕ) → Lengthens rules plan map first n m sets totals → LengthenedAs rules plan map first n m left sets totals sets' totals'

module _ {rules plan map : List (List ℕ)} {m : ℕ} {sets : List ℕ} {totals : List (List ℕ)} where
  pub length_start : (left : ℕ) → left ≡ spots plan m → LengthWalk rules plan map m left sets totals sets totals
  length_start left e = record {
    among = λ p i. rw e at i;
    done = λ first n q. record { filled = rw e q.filled; sets_long = refl; long = refl; kept = λ r h. refl };
  }

  module _ {left : ℕ} {sets' : List ℕ} {totals' : List (List ℕ)} (w : LengthWalk rules plan map m left sets totals sets' totals') where
    pub length_end : members left ≡ [] → (first n : ℕ) → Lengthens rules plan map first n m sets totals → LengthenedAs rules plan map first n m 0 sets totals sets' totals'
    length_end e first n q =
        let d = w.done first n q in
        record { filled = all_here left e d.filled; sets_long = d.sets_long; long = d.long; kept = d.kept }

    module _ (p next : ℕ) (t : members left ≡ p ∷ members next) where
      spot : (p < 32) × (needed plan p m ≡ true)
      spot = members_∈ (spots plan m) p (w.among p (rw t (Memᴰ.head refl)))

      pub length_asks : (first n : ℕ) → Lengthens rules plan map first n m sets totals → Spans rules plan map p m sets' totals'
      length_asks first n q = span_asks (w.done first n q).filled q.some q.short p spot.0 spot.1

      pub length_step : {sets'' : List ℕ} {totals'' : List (List ℕ)} → SpannedAs rules plan map p m sets' totals' sets'' totals'' → LengthWalk rules plan map m next sets totals sets'' totals''
      length_step d = record {
        among = λ i j. w.among i (rw t (Memᴰ.tail j));
        done = λ first n q.
            let a = w.done first n q in
            record {
              filled = span_next a.filled q.some q.short p spot.0 spot.1 d next t;
              sets_long = d.long ∙ a.sets_long;
              long = d.made.long ∙ a.long;
              kept = λ r h. span_kept a.filled q.some q.short p spot.0 spot.1 d r h ∙ a.kept r h;
            };
      }

-- ---- length after length

-- before the length m, wherever the chart begins
pub record FillWalk (rules plan map : List (List ℕ)) (n m : ℕ) (sets : List ℕ) (totals : List (List ℕ)) (sets' : List ℕ) (totals' : List (List ℕ)) : Type 0 where
  pub some : 1 ≤ m
  pub short : m ≤ n + 1
  pub done : (first : ℕ) → Fills rules plan map first n sets totals → LengthenedAs rules plan map first n m (spots plan m) sets totals sets' totals'

module _ {rules plan map : List (List ℕ)} {n : ℕ} {sets : List ℕ} {totals : List (List ℕ)} where
  module _ {m : ℕ} {sets' : List ℕ} {totals' : List (List ℕ)} (w : FillWalk rules plan map n m sets totals sets' totals') where
    pub fill_asks : (first : ℕ) → Fills rules plan map first n sets totals → m ≤ n → Lengthens rules plan map first n m sets' totals'
    fill_asks first q h = record { some = w.some; short = h; filled = (w.done first q).filled }

    pub fill_step : m ≤ n → {sets'' : List ℕ} {totals'' : List (List ℕ)}
        → ((first : ℕ) → Lengthens rules plan map first n m sets' totals' → LengthenedAs rules plan map first n m 0 sets' totals' sets'' totals'')
        → FillWalk rules plan map n (m + 1) sets totals sets'' totals''
    fill_step h d = record { some = omega arith; short = omega arith; done = λ first q. lengths_next m (w.done first q) (d first (fill_asks first q h)) }

    pub fill_end : n < m → (first : ℕ) → Fills rules plan map first n sets totals → ChartedAs rules plan map first n totals sets' totals'
    fill_end h first q = record { filled = lengths_end m h (w.done first q); clean = (w.done first q).filled.fills.clean }
