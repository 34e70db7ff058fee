-- What the calls ask of the chart and the walk, and what these then say: by a choice how many tickets there are and entry d of these, by a sentence's
-- letters how many derivations it has and, by a measure, the first ticket of the first.
-- Assumes nothing.
use mathlib.Core.Path.{◌≡◌, refl, sym, ap, ◌∙◌}
use mathlib.Core.Bool.{Bool, true}
use mathlib.Core.List.{List, [], ◌++◌}
use Prim.Native.Nat.{ℕ, zero, ◌+◌, ◌-◌, ◌/◌, ◌%◌, ◌≤◌, ◌<◌}
use native.Mathlib.Omega.{arith}
use native.Mathlib.Nat.{sub-zero}
use lib.ListN.{length, get_or, drop, replicate, length-replicate}
use borrow.Rule.Slice.PartMut.{post_of}
use Rattle.answers.specs.declared.refusal.Refusal.{Refusal}
use Rattle.std.specs.Prelude.{Result, Ok, ⊤}
use Rattle.lists.specs.Inner.Tables.{entry}
use Rattle.lists.specs.Searched.{same}
use Rattle.lists.proofs.Searches.{first_ext, first_one}
use Rattle.lists.proofs.Owners.{place_inside}
use Rattle.lists.proofs.Struck.{numbered_at}
use Rattle.lists.proofs.Tables.{wide_made, made_entry}
use Rattle.grammar.specs.Inner.Rules.{start_in, ruled}
use Rattle.counting.specs.Totals.{total}
use Rattle.counting.specs.Refusals.{most}
use Rattle.counting.specs.Inner.Owned.{OwnedAs}
use Rattle.counting.specs.Inner.Counted.{count_at, Asked, Counted}
use Rattle.grammar.proofs.Kept.{ruled_same}
use Rattle.counting.specs.Inner.Preparing.{PreparedAs}
use Rattle.counting.proofs.Asking.{asked_whole}
use Rattle.counting.proofs.Counts.{T_sentences}
use Rattle.charts.proofs.Placing.{room_short, room_low}
use Rattle.counting.specs.Inner.Letters.{any, weighed, Summed}
use Rattle.charts.specs.Inner.Letters.{letter_at, weight_by}
use Rattle.charts.specs.Inner.Maps.{total_at, Span, Mapped, Everywhere, LetteredAs}
use Rattle.charts.specs.Inner.Plan.{length_in, needed}
use Rattle.charts.specs.Inner.Chart.{Fills, Filled, ChartedAs}
use Rattle.charts.specs.Inner.Ready.{Ready}
use Rattle.charts.proofs.Mapping.{everywhere_mapped, all_closed, planned_closed, planned_same, filled_blank, letter_itself}
use Rattle.walk.specs.Inner.Sought.{WalkTables, Sought}
use Rattle.walk.specs.Inner.Steps.{Placed}
use Rattle.ranking.specs.Inner.Inside.{full_in, total_in, entry_in, number_in, rank_in, weighs, weigh_in, tickets_at, place_in, Chooses, WriteSought, WrittenAs}
use Rattle.ranking.specs.Inner.Ranking.{FindSought, FoundAs, PlaceSought, PlacedAs, RoomFor, Roomy, NumberSought}
use Rattle.ranking.proofs.Weighing.{whole_weigh, counts_weight, counts_weigh, counts_tickets, chosen, readings_weigh, placed, placed_words}

-- ---- the start symbol over all positions

module _ {rules totals : List (List ℕ)} {n : ℕ} (c : Counted rules totals n) where
  pub start_asked : Asked rules n (start_in rules) n
  start_asked = asked_whole c.table c.some

  pub whole : Span n 0 n
  whole = record { some = c.some; inside = omega arith }

  -- T from the table
  pub count_asks : (s : ℕ) → s ≡ start_in rules → (17 ≤ length totals) × (s < 32) × (n ≤ 16)
  count_asks s e = (c.long, omega (arith, c.table.starts, c.table.few), c.short)

  pub count_given : (s : ℕ) → s ≡ start_in rules → (x : ℕ) → x ≡ count_at totals s n → x ≡ total_in rules n
  count_given s e x f = f ∙ ap (λ (a : ℕ). count_at totals a n) e ∙ c.right (start_in rules) n start_asked

  -- the counts choose
  pub counts_choose : {counts : List (List ℕ)} → Everywhere counts → Chooses rules totals counts n
  counts_choose {counts} e =
      let letter : (p : ℕ) → p < n → letter_at counts p ≡ 256 = λ p h. e.letter p (omega (arith, c.short)) in
      record {
        counted = c;
        known = λ p m. true;
        closed = all_closed rules n;
        mapped = everywhere_mapped rules e c (λ p m. true);
        linked = λ p h l. absurd (omega (arith, letter p h));
        weights = λ p h l. absurd (omega (arith, letter p h));
      }

-- ---- by a map

-- the entry of the whole
whole_placed : {rules totals map : List (List ℕ)} {n : ℕ} → Counted rules totals n → {known : ℕ → ℕ → Bool} → Mapped rules totals map n known → (a : ℕ)
    → a ≡ start_in rules → Placed totals map a 0 n
whole_placed c m a e =
    rw e
    (record {
      wide = c.wide;
      low = m.low 0 _ (whole c);
      inside = omega (arith, c.table.starts, c.table.few);
      early = omega arith;
      short = c.short;
    })

module _ {rules totals choice : List (List ℕ)} {n : ℕ} (w : Chooses rules totals choice n) (a : ℕ) (e : a ≡ start_in rules) where
  pub total_asks : Placed totals choice a 0 n
  total_asks = whole_placed w.counted w.mapped a e

  pub total_given : (x : ℕ) → x ≡ total_at totals choice 0 a n → x ≡ weigh_in rules choice n
  total_given x h =
      h
      ∙ ap (λ (b : ℕ). total_at totals choice 0 b n) e
      ∙ w.mapped.right 0 (start_in rules) n (start_asked w.counted) (whole w.counted) w.closed.whole
      ∙ whole_weigh rules choice n

-- what follows the part that was lent
pub rest_kept : (n : ℕ) (out : List ℕ) → post_of 0 (n - 0) out ≡ drop n out
rest_kept n out = rw sub-zero

module _ {rules totals choice counts : List (List ℕ)} {n d : ℕ} {out : List ℕ} (w : WriteSought rules totals choice counts n d out) where
  abbrev e : Everywhere counts
  e = w.everywhere

  abbrev write_tables : WalkTables rules totals choice counts n
  write_tables =
      let t = w.chooses in
      let c = t.counted in
      record {
        counted = c;
        known = t.known;
        closed = t.closed;
        by = t.mapped;
        to = everywhere_mapped rules e c t.known;
        linked = t.linked;
        weights = t.weights;
        measures = λ p h l. absurd (omega (arith, e.letter p (omega (arith, c.short))));
      }

  pub write_sought : (s : ℕ) → s ≡ start_in rules → Sought rules totals choice counts s 0 n d
  write_sought s q =
      rw q
      (record {
        n = n;
        tables = write_tables;
        asked = start_asked w.chooses.counted;
        span = whole w.chooses.counted;
        known = w.chooses.closed.whole;
        inside = rw (whole_weigh rules choice n) w.inside;
      })

  pub written : (s : ℕ) → s ≡ start_in rules → {words : List ℕ} {place measured weight offset : ℕ}
      → OwnedAs (ruled rules) (weight_by rules choice) (weight_by rules counts) s 0 n d words place measured weight offset
      → WrittenAs rules choice n d out (words ++ post_of 0 (n - 0) out) place
  written s q {words} {place} r =
      let f = chosen rules e n w.chooses.counted.short choice (rw q at r) in
      record {
        words = ap (λ (l : List ℕ). words ++ l) (rest_kept n out) ∙ ap (λ (x : ℕ × List ℕ). x.1 ++ drop n out) (sym f);
        number_is = sym (ap (λ (x : ℕ × List ℕ). x.0) f);
      }

-- ---- the derivations of a sentence

module _ {rules plan map : List (List ℕ)} {first : ℕ} {s sets : List ℕ} {totals : List (List ℕ)} (f : FindSought rules plan map first s sets totals) where
  short : length s ≤ 16
  short = f.ready.blank.counted.short

  -- the letters are the sentence's
  module _ {lettered : List (List ℕ)} (p : LetteredAs any s map lettered) where
    letters : (i : ℕ) → i < length s → letter_at lettered i ≡ get_or s i 0
    letters i h = p.letters i h ∙ letter_itself (get_or s i 0) (p.bytes i h)

    small : (i : ℕ) → i < length s → letter_at lettered i < any
    small i h = omega (arith, letters i h, p.bytes i h)

    ready_lettered : Ready rules plan lettered totals first (length s)
    ready_lettered = record {
      blank = f.ready.blank;
      linked = f.ready.linked;
      planned = planned_same lettered p.kept f.ready.planned;
      long = p.long;
      wide = p.wide;
    }

    pub fill_asks : Fills rules plan lettered first (length_in plan) sets totals
    fill_asks =
        rw f.ready.planned.length
        (record {
          blank = f.ready.blank;
          planned = ready_lettered.planned;
          linked = f.ready.linked;
          letters = λ i h. omega (arith, small i h);
          clean = f.clean;
        })

    -- and the chart is filled
    module _ {sets' : List ℕ} {after : List (List ℕ)} (charted : ChartedAs rules plan lettered first (length_in plan) totals sets' after) where
      abbrev q : Filled rules plan lettered first (length s) totals after
      q = rw f.ready.planned.length at charted.filled

      counted : Counted rules after (length s)
      counted = (filled_blank f.ready.blank f.ready.planned.behind q).counted

      module _ (a : ℕ) (e : a ≡ start_in rules) where
        pub whole_asks : Placed after lettered a 0 (length s)
        whole_asks = whole_placed counted q.mapped a e

        pub found_as : (x : ℕ) → x ≡ total_at after lettered 0 a (length s) → FoundAs rules plan lettered first s totals sets' after x
        found_as x h = record {
          derivations = h
              ∙ ap (λ (b : ℕ). total_at after lettered 0 b (length s)) e
              ∙ q.mapped.right 0 (start_in rules) (length s) (start_asked counted) (whole counted) f.ready.planned.cut.whole
              ∙ readings_weigh rules lettered s letters small;
          letters = letters;
          small = small;
          filled = q;
          ready = record {
            blank = filled_blank f.ready.blank f.ready.planned.behind q;
            linked = f.ready.linked;
            planned = ready_lettered.planned;
            long = p.long;
            wide = p.wide;
          };
          clean = rw f.ready.planned.length at charted.clean;
        }

-- ---- the place of its first

-- a sentence with derivations, once its chart is filled, and a measure whose totals the table has over the same spans
module _ {rules plan map : List (List ℕ)} {first : ℕ} {s : List ℕ} {before : List (List ℕ)} {sets : List ℕ} {totals : List (List ℕ)} {k : ℕ}
    (f : FoundAs rules plan map first s before sets totals k) (some : 1 ≤ k) {measure : List (List ℕ)} where
  pub place_asks : Mapped rules totals measure (length s) (needed plan) → ((p : ℕ) → p < length s → letter_at measure p ≡ weighed → Summed rules)
      → PlaceSought rules totals map measure (length s) s
  place_asks m measures = record {
    long = refl;
    some = omega (arith, f.derivations);
    counted = f.ready.blank.counted;
    linked = f.ready.linked;
    known = needed plan;
    closed = planned_closed f.ready.blank.counted.short f.ready.planned;
    mapped = f.filled.mapped;
    measured = m;
    letters = f.letters;
    small = f.small;
    measures = measures;
  }

  -- the counts measure every sentence
  pub place_asks_counts : Everywhere measure → PlaceSought rules totals map measure (length s) s
  place_asks_counts e =
      let c = f.ready.blank.counted in
      let letter : (p : ℕ) → p < length s → letter_at measure p ≡ any = λ p h. e.letter p (omega (arith, c.short)) in
      place_asks (everywhere_mapped rules e c (needed plan)) (λ p h l. absurd (omega (arith, letter p h)))

module _ {rules totals letters measure : List (List ℕ)} {n : ℕ} {s : List ℕ} (w : PlaceSought rules totals letters measure n s) (a : ℕ) (e : a ≡ start_in rules) where
  abbrev place_tables : WalkTables rules totals letters measure n
  place_tables = record {
    counted = w.counted;
    known = w.known;
    closed = w.closed;
    by = w.mapped;
    to = w.measured;
    linked = λ i h l. w.linked;
    weights = λ i h l. absurd (omega (arith, w.small i h));
    measures = w.measures;
  }

  -- what is asked of s, by its own length
  own : (i : ℕ) → i < length s → i < n
  own i h = omega (arith, w.long)

  pub place_sought : Sought rules totals letters measure a 0 n 0
  place_sought =
      let weighs = readings_weigh rules letters s (λ i h. w.letters i (own i h)) (λ i h. w.small i (own i h)) in
      let some : 0 < total (ruled rules) (weight_by rules letters) 0 (start_in rules) (length s) = omega (arith, weighs, w.some) in
      rw e
      (record {
        n = n;
        tables = place_tables;
        asked = start_asked w.counted;
        span = whole w.counted;
        known = w.closed.whole;
        inside = rw w.long at some;
      })

  pub place_found : {words : List ℕ} {place measured weight offset : ℕ}
      → OwnedAs (ruled rules) (weight_by rules letters) (weight_by rules measure) a 0 n 0 words place measured weight offset → PlacedAs rules measure s place measured
  place_found {words} {place} {measured} {weight} {offset} r =
      let q : OwnedAs (ruled rules) (weight_by rules letters) (weight_by rules measure) (start_in rules) 0 (length s) 0 words place measured weight offset = rw (w.long, ← e) r in
      let in_letters : (i : ℕ) → i < length s → letter_at letters i ≡ get_or s i 0 = λ i h. w.letters i (own i h) in
      let low : (i : ℕ) → i < length s → letter_at letters i < any = λ i h. w.small i (own i h) in
      let all_fit : weigh_in rules measure n ≤ most
      = rw (whole_weigh rules measure n) at (w.measured.fits 0 (start_in rules) n (start_asked w.counted) (whole w.counted)) in
      let fit : weigh_in rules measure (length s) ≤ most = rw w.long all_fit in
      record {
        first_is = placed rules letters s in_letters low measure q;
        weight_is = q.measure_is ∙ ap (weighs rules measure) (placed_words rules letters s in_letters low measure q);
        fits = omega (arith, place_inside q.owns, q.measure_is, fit);
      }

-- ---- *Give* and *Number*: by the counts every sentence weighs 1

module _ (rules : List (List ℕ)) {counts : List (List ℕ)} (e : Everywhere counts) where
  pub counts_total : (n : ℕ) → n ≤ 16 → weigh_in rules counts n ≡ total_in rules n
  counts_total n short = counts_weigh rules e n short ∙ sym (T_sentences (ruled rules) (start_in rules) n)

  pub counts_entry : (n d : ℕ) → n ≤ 16 → d < total_in rules n → get_or (tickets_at rules counts n) d (0, []) ≡ (d, entry_in rules n d)
  counts_entry n d short h =
      ap (λ (l : List (ℕ × List ℕ)). get_or l d (0, [])) (counts_tickets rules e n short)
      ∙ numbered_at 0 (full_in rules n) d [] (0, []) (omega (arith, T_sentences (ruled rules) (start_in rules) n))
      ∙ ap (λ (i : ℕ). (i, entry_in rules n d)) (omega arith)

  pub counts_place : (s : List ℕ) → length s ≤ 16 → place_in rules counts s ≡ number_in rules s
  counts_place s short =
      first_ext (λ u. same u s) (weighs rules counts) (λ u. 1) (full_in rules (length s)) (counts_weight rules e (length s) short)
      ∙ first_one (λ u. same u s) (full_in rules (length s))

-- ---- the tables, once 1 to 10 are passed

-- zeros where the links go, and above the counts, stay what they are
pub prepared_sought : {g : List ℕ} {s : List ℕ} {rules₀ rules totals₀ totals : List (List ℕ)} → ((r i : ℕ) → entry rules₀ r i ≡ 0) → 13 ≤ length rules₀ → Roomy (length s) totals₀
    → {r : Result ⊤ Refusal} → PreparedAs g (length s) rules₀ rules totals₀ totals r → r ≡ Ok tt → NumberSought rules s totals
prepared_sought {s = s} {rules₀} {rules} {totals₀} {totals} zeros long t p e =
    let c = (p.ready e).counted in
    let row : (r i : ℕ) → 4 ≤ r → entry rules r i ≡ 0 = λ r i h. ap (λ (l : List ℕ). get_or l i 0) (p.rules_kept.rest r h) ∙ zeros r i in
    let none : (r A : ℕ) → 17 ≤ r → entry totals r A ≡ 0 = λ r A h. ap (λ (l : List ℕ). get_or l A 0) (p.totals_kept.rest r h) ∙ t.zeros r A in
    record {
      blank = record {
        counted = c;
        zeros = λ A. none 17 A (omega arith);
        room = omega (arith, t.long c.short, p.totals_kept.long);
      };
      unlinked = record {
        table = c.table;
        long = omega (arith, p.rules_kept.long);
        no_words = λ x h. row 4 x (omega arith);
        no_pairs = λ x h. row (9 + x / 256) (x % 256) (omega arith);
      };
      zeros = λ r A h. none r A (omega arith);
    }

-- linking keeps what *Number* answers
pub rank_kept : (rules after : List (List ℕ)) (s : List ℕ) → ((r : ℕ) → r < 4 → get_or after r [] ≡ get_or rules r []) → rank_in after s ≡ rank_in rules s
unfolding rank_in
rank_kept rules after s same =
    let start_is : start_in after ≡ start_in rules = ap (λ (l : List ℕ). get_or l 128 0) (same 3 (omega arith)) in
    rw (ruled_same rules after same, start_is)

-- a table of zeros with rows enough has room for a chart; 33 are enough for five positions, and 154 for sixteen
pub roomy_made : {n rows : ℕ} → RoomFor n rows → Roomy n (replicate rows (replicate 32 0))
roomy_made {n} {rows} r = record {
  wide = wide_made rows 32 0;
  zeros = made_entry rows 32;
  long = λ l. omega (arith, r.long l, length-replicate rows (replicate 32 zero));
  counts = omega (arith, r.counts, length-replicate rows (replicate 32 zero));
}

pub room_for_short : (n : ℕ) → n ≤ 5 → RoomFor n 33
room_for_short n h = record { long = λ l. omega (arith, room_short n h); counts = omega arith; few = omega arith }

pub room_for_long : (n : ℕ) → RoomFor n 154
room_for_long n = record { long = λ l. omega (arith, room_low n l); counts = omega arith; few = omega arith }
