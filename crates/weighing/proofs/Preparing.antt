-- What a draw by weights has at hand: the tables, the first tickets of the heard derivations, and the sums of their weights; or the first refusal that
-- applies. Together they serve the draw, and what that answers is read off the list of tickets.
-- Assumes nothing.
use mathlib.Core.Path.{◌≡◌, refl, sym, ap, ◌∙◌}
use mathlib.Core.Bool.{Bool, not}
use mathlib.Core.List.{List, map}
use Prim.Native.Nat.{ℕ, zero, suc, ◌-◌, ◌≤◌, ◌<◌}
use native.Mathlib.Omega.{arith}
use lib.ListN.{length, get_or, take, replicate, length-map, length-replicate}
use lib.Seq.{get_or-take, length-take-le}
use Rattle.std.specs.Prelude.{Result, Ok, Err, ⊤}
use Rattle.lists.specs.Joined.{sum_over}
use Rattle.lists.specs.Inner.Tickets.{gone}
use Rattle.answers.specs.Answer.{Row, first_that_applies, refused}
use Rattle.answers.specs.Inner.Refusals.{refusal_number}
use Rattle.answers.specs.declared.refusal.Refusal.{Refusal}
use Rattle.answers.proofs.Numbers.{number_some}
use Rattle.grammar.specs.Inner.Rules as grammar
use Rattle.counting.specs.Refusals.{most}
use Rattle.charts.specs.Inner.Maps.{weights_map}
use Rattle.history.specs.Layout.{records_of}
use Rattle.history.specs.Refusals.{Accepted}
use Rattle.history.specs.Heard.{heard}
use Rattle.history.proofs.Acceptance.{known}
use Rattle.sampling.specs.Question.{plainly}
use Rattle.sampling.specs.Inner.Skipping.{heard_spans, Told}
use Rattle.sampling.specs.Inner.Collect.{beginning, ending, spans_by}
use Rattle.sampling.specs.Inner.Drawing.{spans_in, DrawSought, draw_skipping}
use Rattle.sampling.specs.Inner.Preparing.{Ended, RecordedBy, DrawableBy, SampledBy}
use Rattle.sampling.proofs.Answering.{refused_unready, heard_spans_lem, weigh_low, unprepared, recorded_prepared, prepared_case, parts_low}
use Rattle.sampling.specs.Unheard.{unheard}
use Rattle.sampling.proofs.Listed.{draw_from, ticket_list, spans_told, drawn_listed}
use Rattle.charts.proofs.Placing as charts
use Rattle.lists.proofs.Tables.{wide_made, made_entry}
use Rattle.weighing.specs.Weights.{weighs, tickets_of}
use Rattle.weighing.specs.Weighted.{weighed_rows, weighted_rows, draw_weighted}
use Rattle.weighing.specs.Inner.Tables.{WeighedAs}
use Rattle.weighing.specs.Inner.Sums.{SumsSought, SummedAs}
use Rattle.weighing.specs.Inner.Preparing.{RoomFor, RowsFor, Called, PreparedAs, Room, RecordsSought}
use Rattle.weighing.proofs.Laws.{drawn_from, drawn_refused}
use Rattle.weighing.proofs.Told.{summed_spans, summed_told}

-- ---- the refusals up to 15

module _ {g h : List ℕ} {n v : ℕ} {weights : List ℕ} {rules₀ totals₀ totals : List (List ℕ)} {p : Result ⊤ Refusal} (k : WeighedAs g n v weights rules₀ totals₀ totals p) where
  pub prepared_unweighed : {rules' totals' : List (List ℕ)} {numbers sums : List ℕ} {r : Refusal} → p ≡ Err r → (Accepted h → records_of h ≤ length numbers)
      → PreparedAs g h n v weights rules' totals' numbers sums (Err r)
  prepared_unweighed {r = r} e room = record {
    sampled = unprepared g h (plainly n v) (weighs weights) (weighed_rows g n v weights) r (sym (sym k.refusal ∙ rw e)) room;
    told = λ i z. absurd (refused_unready z);
  }

  module _ (e : p ≡ Ok tt) where
    pub records_sought : {numbers sums : List ℕ} → Room n h totals₀ numbers sums → RecordsSought g n weights rules₀ totals h numbers sums
    records_sought r =
        let q = k.ready e in
        record {
          weighed = q;
          room = r.numbers_room;
          ends_room = r.sums_room;
          charts = λ d some. omega (arith, r.charts d some q.tabled.counted.short, k.size);
        }

    pub prepared_sampled : {rules' totals' : List (List ℕ)} {numbers : List ℕ} {s : Result ℕ Refusal} → (Accepted h → records_of h ≤ length numbers)
        → RecordedBy rules₀ h (plainly n v) (weighs weights) rules' totals' weights_map numbers s
        → SampledBy g h (plainly n v) (weighs weights) (weighed_rows g n v weights) rules' totals' weights_map numbers s
    prepared_sampled room q =
        recorded_prepared g h (plainly n v) (weighs weights) (weighed_rows g n v weights) refl (sym k.refusal ∙ rw e) (k.ready e).tabled.holds room q

pub prepared_unready : {g h : List ℕ} {n v : ℕ} {weights : List ℕ} {rules totals : List (List ℕ)} {numbers sums : List ℕ} {s : Result ℕ Refusal} {r : Refusal}
    → SampledBy g h (plainly n v) (weighs weights) (weighed_rows g n v weights) rules totals weights_map numbers s → s ≡ Err r
    → PreparedAs g h n v weights rules totals numbers sums (Err r)
prepared_unready q e = record { sampled = rw e at q; told = λ i z. absurd (refused_unready z) }

pub prepared_ready : {g h : List ℕ} {n v : ℕ} {weights : List ℕ} {rules totals : List (List ℕ)} {numbers sums : List ℕ} {s : Result ℕ Refusal} {k : ℕ}
    → SampledBy g h (plainly n v) (weighs weights) (weighed_rows g n v weights) rules totals weights_map numbers s → s ≡ Ok k
    → ((k ≤ length sums) × Told (take k numbers) (take k sums) × (heard_spans (take k numbers) (take k sums) ≡ spans_by g h n v (weighs weights)))
    → PreparedAs g h n v weights rules totals numbers sums (Ok k)
prepared_ready q e t = record { sampled = rw e at q; told = λ i z. let same = ready_same z in rw (← same) t }
  where
    ready_same : {i k : ℕ} → ◌≡◌ {A = Result ℕ Refusal} (Ok k) (Ok i) → k ≡ i
    ready_same z = cc

-- ---- the sums

module _ {g h : List ℕ} {n v : ℕ} (weights : List ℕ) {asked : List Row} {rules totals : List (List ℕ)} {numbers : List ℕ} {k : ℕ}
    (d : DrawableBy g h (plainly n v) (weighs weights) asked rules totals weights_map numbers k) (room : Accepted h → records_of h ≤ length numbers) where
  -- `spans_by` is what is struck

  -- they are so many
  few : length (spans_by g h n v (weighs weights)) ≡ k
  few = sym (length-map (spans_by g h n v (weighs weights)) beginning) ∙ ap length (sym d.heard) ∙ length-take-le k numbers (omega (arith, d.few, room d.diary))

  -- together they weigh no more than all
  light : sum_over (λ (e : ℕ × ℕ). e.1) (spans_by g h n v (weighs weights)) ≤ most
  light =
      let outside : List ℕ → Bool = λ s. not (heard h v s) in
      let are : spans_in rules weights_map n outside ≡ (spans_by g h n v (weighs weights)) = spans_told g h n v (weighs weights) rules weights_map d.full d.weigh in
      omega (arith, ap (sum_over (λ (e : ℕ × ℕ). e.1)) are, parts_low rules weights_map n outside, weigh_low d.chooses)

  module _ {rules₀ : List (List ℕ)} (t : grammar.Holds g rules₀) {ends : List ℕ} (ends_room : Accepted h → records_of h ≤ length ends) (e : Ended rules₀ (weighs weights) h n v ends) where
    ends_are : take k ends ≡ map ending (spans_by g h n v (weighs weights))
    ends_are =
        let told : take e.0 ends ≡ map ending (spans_by g h n v (weighs weights)) = heard_spans_lem t h (plainly n v) (weighs weights) ending (λ x y l. l.1) d.diary (take e.0 ends) e.1.1 in
        let as_many : e.0 ≡ k
        = sym (length-take-le e.0 ends (omega (arith, e.1.0, ends_room d.diary))) ∙ ap length told ∙ length-map (spans_by g h n v (weighs weights)) ending ∙ few in
        rw as_many at told

    pub sums_sought : SumsSought (spans_by g h n v (weighs weights)) (take (k - 0) numbers) ends
    sums_sought =
        let part : k - 0 ≡ k = omega arith in
        let size : length (take k numbers) ≡ k = ap length d.heard ∙ length-map (spans_by g h n v (weighs weights)) beginning ∙ few in
        rw part
        (record {
          firsts_are = d.heard;
          ends_are = rw size ends_are;
          fits = light;
          few = omega (arith, size, d.few, (known h d.diary).sized.few);
          room = omega (arith, size, d.few, ends_room d.diary);
        })

    pub sums_tell : {sums : List ℕ} → SummedAs (spans_by g h n v (weighs weights)) ends sums
        → (k ≤ length sums) × Told (take k numbers) (take k sums) × (heard_spans (take k numbers) (take k sums) ≡ (spans_by g h n v (weighs weights)))
    sums_tell {sums} q =
        let long : k ≤ length sums = omega (arith, d.few, ends_room d.diary, q.long) in
        let many : length (take k sums) ≡ length (spans_by g h n v (weighs weights)) = length-take-le k sums long ∙ sym few in
        let each : (i : ℕ) → i < length (spans_by g h n v (weighs weights)) → get_or (take k sums) i 0 ≡ gone (suc i) (spans_by g h n v (weighs weights))
        = λ i l. get_or-take k sums i 0 (omega (arith, few)) ∙ q.each i l in
        rw d.heard (long, summed_told (spans_by g h n v (weighs weights)) (take k sums) many each, summed_spans (spans_by g h n v (weighs weights)) (take k sums) many each)

-- ---- the draw

-- all weights are of the unheard derivations without a pattern
list_weighted : (g h : List ℕ) (n v : ℕ) (weights : List ℕ) → ticket_list g h n v (weighs weights) ≡ tickets_of g h n v weights
unfolding tickets_of unheard
list_weighted g h n v weights = refl

module _ {g h : List ℕ} {n v : ℕ} {weights : List ℕ} {rules totals : List (List ℕ)} {numbers sums : List ℕ} {s : Result ℕ Refusal}
    (p : PreparedAs g h n v weights rules totals numbers sums s) where
  pub drawn_unready : {r : Refusal} → s ≡ Err r → (t : ℕ) (out : List ℕ) → refused (refusal_number r) 2 out ≡ draw_weighted g h n v weights t out
  drawn_unready {r} e t out =
      let k : refusal_number r ≡ first_that_applies (weighted_rows g h n v weights) = prepared_case p.sampled e in
      ap (λ (i : ℕ). refused i 2 out) k ∙ sym (drawn_refused g h n v weights t out (omega (arith, number_some r)))

  module _ {k : ℕ} (e : s ≡ Ok k) where
    pub drawable : DrawableBy g h (plainly n v) (weighs weights) (weighed_rows g n v weights) rules totals weights_map numbers k
    drawable = prepared_case p.sampled e

    pub parts_long : (k ≤ length numbers) × (k ≤ length sums)
    parts_long = (omega (arith, drawable.few, p.sampled.room drawable.diary), (p.told k e).0)

    spans : heard_spans (take k numbers) (take k sums) ≡ spans_in rules weights_map n (λ s. not (heard h v s))
    spans = (p.told k e).2 ∙ sym (spans_told g h n v (weighs weights) rules weights_map drawable.full drawable.weigh)

    pub draw_served : DrawSought rules totals weights_map n (take (k - 0) numbers) (take (k - 0) sums)
    draw_served =
        let z : k - 0 ≡ k = omega arith in
        rw z
        (record {
          chooses = drawable.chooses;
          few = omega (arith, length-take-le k numbers parts_long.0, drawable.few, (known h drawable.diary).sized.few);
          told = (p.told k e).1;
          unheard = λ s. not (heard h v s);
          spans_are = spans;
        })

    pub drawn_ready : (t : ℕ) (out : List ℕ) → draw_skipping rules weights_map n (take (k - 0) numbers) (take (k - 0) sums) t out ≡ draw_weighted g h n v weights t out
    drawn_ready t out =
        let z : k - 0 ≡ k = omega arith in
        ap (λ (j : ℕ). draw_skipping rules weights_map n (take j numbers) (take j sums) t out) z
        ∙ drawn_listed g h n v (weighs weights) rules weights_map drawable.full drawable.weigh (take k numbers) (take k sums) spans t out
        ∙ ap (draw_from n t out) (list_weighted g h n v weights)
        ∙ sym (drawn_from g h n v weights t out drawable.passed)

-- ---- the tables that a call makes

-- of zeros, by their sizes
pub call_made : {n : ℕ} {h : List ℕ} {rows places : ℕ} → RoomFor n h rows places
    → Called n h (replicate 16 (replicate 256 0)) (replicate rows (replicate 32 0)) (replicate places 0) (replicate places 0)
call_made {rows = rows} {places} r =
    let many = length-replicate rows (replicate 32 zero) in
    let size = length-replicate places zero in
    record {
      lent = record {
        rules_long = omega arith;
        rules_wide = wide_made 16 256 0;
        unruled = made_entry 16 256;
        long = omega (arith, many, r.long);
        wide = wide_made rows 32 0;
        zeros = made_entry rows 32;
      };
      room = record {
        numbers_room = λ d. omega (arith, size, r.room d);
        sums_room = λ d. omega (arith, size, r.room d);
        charts = λ d some l. omega (arith, many, r.charts d some l);
      };
    }

-- 1,000 places serve every history, 100 those of at most 2,004 bytes, and one those of fewer than 24, which have no record
module _ {n : ℕ} (h : List ℕ) {rows : ℕ} (c : RowsFor n rows) where
  room_of : {places : ℕ} → (Accepted h → records_of h ≤ places) → places ≤ 1000 → RoomFor n h rows places
  room_of room small = record { long = c.long; charts = λ d some l. c.charts l; few = c.few; room = room; small = small }

  pub room_for_all : RoomFor n h rows 1000
  room_for_all = room_of (λ d. (known h d).sized.few) (omega arith)

  pub room_for_short : length h ≤ 2004 → RoomFor n h rows 100
  room_for_short l = room_of (λ d. omega (arith, (known h d).sized.size)) (omega arith)

pub room_for_none : (n : ℕ) (h : List ℕ) → length h < 24 → RoomFor n h 35 1
room_for_none n h l =
    let none : (d : Accepted h) → records_of h < 1 = λ d. omega (arith, (known h d).sized.size) in
    record { long = omega arith; charts = λ d some s. absurd (omega (arith, none d)); few = omega arith; room = λ d. omega (arith, none d); small = omega arith }

-- behind the totals by weight, room for the chart of five positions, and of sixteen
pub rows_short : (n : ℕ) → n ≤ 5 → RowsFor n 50
rows_short n h = record { long = omega arith; charts = λ l. omega (arith, charts.room_short n h); few = omega arith }

pub rows_long : (n : ℕ) → RowsFor n 171
rows_long n = record { long = omega arith; charts = λ l. omega (arith, charts.room_low n l); few = omega arith }
