-- What *Left* and *Draw* answer once the tables and the heard places are there, line by line of their refusals; and that these serve the
-- walk.
-- Assumes nothing.
use mathlib.Core.Path.{◌≡◌, refl, sym, ap, ◌∙◌}
use mathlib.Core.Bool.{Bool, true, not, ◌||◌}
use mathlib.Core.List.{List, [], ◌∷◌, ◌++◌, map}
use Prim.Native.Nat.{ℕ, zero, ◌+◌, ◌-◌, ◌≤◌, ◌<◌}
use native.Mathlib.Omega.{arith}
use borrow.Author.Tests.{le-leb, lt-leb, lt-ltb, le-ltb}
use lib.ListN.{length, get_or, take, drop, replicate, length-replicate, length-take}
use lib.Seq.{length-take-le, take-append-le}
use lib.Dec.{ltb, leb, eqb, lit<}
use Rattle.std.specs.Prelude.{Result, Ok, Err}
use Rattle.lists.specs.Joined.{sum_over, concat_map}
use Rattle.lists.specs.Ordered.{Pairwise}
use Rattle.lists.specs.Searched.{bit, keep}
use Rattle.lists.specs.Inner.Tickets.{tickets, struck_from, skip_over, gone}
use Rattle.lists.specs.Inner.Tables.{Kept}
use Rattle.lists.specs.Inner.Struck.{numbered}
use Rattle.lists.proofs.Sums.{sum_ext, sum_map, concat_ext}
use Rattle.lists.proofs.Tests.{some_ext}
use Rattle.lists.proofs.Struck.{numbered_sum, Below, struck_apart, tickets_spans, spans_lt, spans_keep}
use Rattle.lists.proofs.Tables.{wide_made, made_entry}
use Rattle.lists.proofs.Strikes.{singles}
use Rattle.answers.specs.Answer.{Row, first_that_applies, given, refused, answer_of, answer}
use Rattle.answers.specs.Inner.Refusals.{refusal_number}
use Rattle.answers.specs.declared.refusal.Refusal.{Refusal}
use Rattle.answers.proofs.Numbers.{number_some}
use Rattle.answers.proofs.Refusals.{row_applies, row_passed, rows_stop, rows_pass, answer_accepted, answer_refused}
use Rattle.answers.proofs.Refusals.{numbered as numbered-rows}
use Rattle.grammar.specs.Trees.{Tree, sentence}
use Rattle.grammar.specs.Inner.Rules as grammar
use Rattle.counting.specs.Refusals.{most}
use Rattle.counting.specs.Inner.Preparing.{Tabled}
use Rattle.charts.specs.Inner.Maps.{counts_map, Everywhere}
use Rattle.charts.proofs.Mapping.{counts_map_lem}
use Rattle.ranking.specs.Answers.{full_list, readings_of}
use Rattle.ranking.specs.Inner.Inside.{full_in, readings_in, weighs, weigh_in, tickets_at, Chooses, WriteSought, WrittenAs}
use Rattle.ranking.proofs.Inside.{full_is, readings_are}
use Rattle.ranking.proofs.Weighing.{whole_weigh}
use Rattle.ranking.proofs.Finding.{start_asked, whole, counts_choose}
use Rattle.history.specs.Refusals as history
use Rattle.history.specs.Layout.{records_of, head_of, record_words}
use Rattle.history.specs.Heard.{makes_heard, sentences_in, heard}
use Rattle.history.proofs.Acceptance.{known}
use Rattle.history.proofs.Chain.{numbers_zero}
use Rattle.sorting.specs.Inner.Sorted.{SortedAs}
use Rattle.sampling.specs.Question.{Question, plainly}
use Rattle.sampling.specs.Unheard.{suits, of_length, unheard, total_for, heard_of, left_of, ambiguous}
use Rattle.sampling.specs.Inner.Collect.{fitting_at, barred, spans_by, fitting, beginning, numbers_in, ambiguous_in, all_numbers_in, CollectedIs}
use Rattle.sampling.specs.Inner.Patterns.{RowsFor, Choice}
use Rattle.sampling.specs.Answers.{remaining_rows, remaining_to, drawn, draw_to}
use Rattle.sampling.specs.Inner.Skipping.{heard_spans, passed_by, Skips}
use Rattle.sampling.specs.Inner.Preparing.{Room, PlacesFor, Lent, LentMatching, OrderedAs, Heard, Held, Hold, NumbersAs, HeardBy, RecordsSought, MatchingSought, RecordedBy, RecordedAs, Drawable, SampledIs, SampledBy}
use Rattle.sampling.specs.Inner.Drawing.{spans_in, DrawSought, draw_skipping}
use Rattle.sampling.proofs.Barred.{listed_length, free, few_readings, ∈_heard, ∈_length, heard_length, unheard_all, left_length}
use Rattle.sampling.proofs.Spans.{numbers_by, collected}
use Rattle.sampling.proofs.Listed.{draw_from, spans_told, drawn_listed, list_plain}
use Rattle.sampling.proofs.Skipping.{spans_plain, passed_plain, told_plain, gone_all}
use Rattle.sampling.proofs.Readying.{counts_agree, full_same, behind_room, behind_five}

-- ---- the tables that a call makes

-- without a pattern
pub lent_made : (h numbers : List ℕ) → Room h numbers → Lent h (replicate 4 (replicate 256 0)) (replicate 17 (replicate 32 0)) numbers
lent_made h numbers room = record {
  tables = record {
    rules_room = record { long = omega arith; wide = wide_made 4 256 0 };
    long = omega arith;
    wide = wide_made 17 32 0;
    zeros = λ r A l. made_entry 17 32 r A;
  };
  room = room;
}

-- a place for each record
pub room_made : {h : List ℕ} {places : ℕ} → PlacesFor h places → Room h (replicate places 0)
room_made {places = places} p d = omega (arith, p.room d, length-replicate places zero)

pub plainly_made : {h : List ℕ} {places : ℕ} → PlacesFor h places → Lent h (replicate 4 (replicate 256 0)) (replicate 17 (replicate 32 0)) (replicate places 0)
plainly_made p = lent_made _ _ (room_made p)

-- with one: room for the pattern's chart and a sentence's
pub matching_made : {h : List ℕ} {a : Question} {rows places : ℕ} → RowsFor a rows × PlacesFor h places
    → LentMatching h a (replicate 13 (replicate 256 0)) (replicate rows (replicate 32 0)) (replicate 17 (replicate 16 0)) (replicate places 0)
matching_made {rows = rows} w =
    let size = length-replicate rows (replicate 32 zero) in
    record {
      called = record {
        lent = record {
          tables = record {
            rules_room = record { long = omega arith; wide = wide_made 13 256 0 };
            long = omega (arith, w.0.counts);
            wide = wide_made rows 32 0;
            zeros = λ r A l. made_entry rows 32 r A;
          };
          patterned = record {
            long = w.0.long;
            links = omega arith;
            unlinked = λ r i k. made_entry 13 256 r i;
            zeros = λ r A k. made_entry rows 32 r A;
            room = λ k. omega (arith, w.0.room k);
          };
        };
        room = room_made w.1;
      };
      choice_long = refl;
      choice_wide = wide_made 17 16 0;
    }

-- 48 rows are enough for five words, 290 for sixteen
pub rows_short : (a : Question) → length a.pattern ≡ a.length → a.length ≤ 5 → RowsFor a 48
rows_short a long l = record { long = long; counts = omega arith; room = λ k. behind_five a.length l; few = omega arith }

pub rows_all : (a : Question) → length a.pattern ≡ a.length → RowsFor a 290
rows_all a long = record { long = long; counts = omega arith; room = λ l. (behind_room a.length l).2; few = omega arith }

-- 1,000 places serve every history, 100 those of at most 2,004 bytes, and one those of fewer than 24, which have no record
pub room_all : (h : List ℕ) → Room h (replicate 1000 0)
room_all h d = (known h d).sized.few

pub room_short : (h : List ℕ) → length h ≤ 2004 → Room h (replicate 100 0)
room_short h l d = omega (arith, (known h d).sized.size)

pub record_none : (h : List ℕ) → length h < 24 → history.Accepted h → records_of h < 1
record_none h l d = omega (arith, (known h d).sized.size)

pub room_none : (h : List ℕ) → length h < 24 → Room h (replicate 1 0)
room_none h l d = omega (arith, record_none h l d)

pub places_all : (h : List ℕ) → PlacesFor h 1000
places_all h = record { room = room_all h; few = omega arith }

pub places_short : (h : List ℕ) → length h ≤ 2004 → PlacesFor h 100
places_short h l = record { room = room_short h l; few = omega arith }

pub places_none : (h : List ℕ) → length h < 24 → PlacesFor h 1
places_none h l = record { room = room_none h l; few = omega arith }

pub refused_unready : {r : Refusal} {k : ℕ} → ◌≡◌ {A = Result ℕ Refusal} (Err r) (Ok k) → ⊥
refused_unready e = let q : ◌≡◌ {A = ℕ} 0 1 = cc in omega arith

-- ---- the heard places, sorted

-- the part with them is lent to be sorted
part_few : (k n : ℕ) (l : List ℕ) → k ≤ n → length (take (k - 0) l) ≤ n
part_few k n l h = omega (arith, length-take (k - 0) l)

-- they stand then at the front of the whole
pub sorted_first : (before part rest : List ℕ) (k m : ℕ) → SortedAs (take (k - 0) before) part m → OrderedAs k before (part ++ rest) m
sorted_first before part rest k m s =
    let z : k - 0 ≡ k = omega arith in
    let s' = rw z at s in
    let e = take-append-le m part rest (omega (arith, s.few, s.long)) in
    record { few = λ l. omega (arith, s.few, part_few k k before (omega arith)); rising = λ l. rw e s.rising; same = λ l d. rw e (s'.same d) }

-- what is told along the chain, ordered
pub heard_ordered : (rules : List (List ℕ)) (u : List ℕ → ℕ) (tell : ℕ × ℕ → ℕ) (h : List ℕ) (n v : ℕ) (before after : List ℕ) (k m : ℕ)
    → CollectedIs rules u tell h n v before (Ok k) → records_of h ≤ length before → OrderedAs k before after m → Held rules u tell h n v after m
heard_ordered rules u tell h n v before after k m c room s =
    let l : k ≤ length before = omega (arith, c.1) in
    (omega (arith, s.few l, c.1), record { clear = c.0; rising = s.rising l; just = λ d. rw (← c.2) (s.same l d) })

-- a history without records has no heard place
pub none_heard : (rules : List (List ℕ)) (u : List ℕ → ℕ) (tell : ℕ × ℕ → ℕ) (h : List ℕ) (n v : ℕ) (numbers : List ℕ) → history.Accepted h → records_of h ≡ 0
    → Held rules u tell h n v numbers 0
none_heard rules u tell h n v numbers diary none =
    let z = numbers_zero h diary (head_of h) (omega (arith, (known h diary).head, none)) in
    let e : sentences_in h v ≡ [] = ap (λ (l : List ℕ). map (record_words h) (keep (makes_heard h v) l)) z in
    (omega arith, record { clear = rw e refl; rising = Pairwise.none; just = λ d. rw e ((λ m. m), λ m. m) })

-- ---- 11 to 15, by the tables

module _ (rules₀ : List (List ℕ)) (h : List ℕ) (a : Question) {u : List ℕ → ℕ} {rules totals choice : List (List ℕ)} {numbers : List ℕ} where
  pub unaccepted : (r : Refusal) → history.history_refusal h ≡ refusal_number r → RecordedBy rules₀ h a u rules totals choice numbers (Err r)
  unaccepted r e =
      record { recorded = sym (rows_stop (history.history_rows h) ((ambiguous_in rules₀ h a.length a.voice, 15) ∷ []) (omega (arith, number_some r)) ∙ e) }

  heard_recorded : {s : Result ℕ Refusal} → history.Accepted h → Hold rules₀ u h a.length a.voice numbers s → Choice rules₀ a u rules totals choice
      → RecordedBy rules₀ h a u rules totals choice numbers s
  heard_recorded {s = Ok k} ok q c = record { recorded = (ok, q.0, q.1, c) }
  heard_recorded {s = Err r} ok q c = record {
    recorded = q.1
        ∙ sym (rows_pass (history.history_rows h) ((ambiguous_in rules₀ h a.length a.voice, 15) ∷ []) refl ok ∙ row_applies 15 [] q.0);
  }

  pub fitted_recorded : {s : Result ℕ Refusal} → history.Accepted h → HeardBy rules₀ h a u rules totals choice numbers s → RecordedBy rules₀ h a u rules totals choice numbers s
  fitted_recorded ok q = heard_recorded ok q.hold q.chosen

-- without a pattern the counts choose, and the rules are as they were
module _ {rules totals : List (List ℕ)} {h : List ℕ} {n : ℕ} {numbers₀ : List ℕ} (w : RecordsSought rules totals h n numbers₀) (v : ℕ) where
  chosen_plain : Choice rules (plainly n v) (fitting (plainly n v)) rules totals counts_map
  chosen_plain = record { kept = λ r l. refl; chooses = counts_choose w.counted counts_map_lem; weigh = λ s e. counts_agree rules n v w.counted.short s e }

  pub plain_recorded : {numbers : List ℕ} {s : Result ℕ Refusal} → history.Accepted h → NumbersAs rules h (plainly n v) numbers s
      → RecordedAs rules h (plainly n v) rules totals counts_map numbers s
  plain_recorded ok q = heard_recorded rules h (plainly n v) ok q.hold chosen_plain

  pub plain_none : {numbers : List ℕ} → history.Accepted h → records_of h ≡ 0 → RecordedAs rules h (plainly n v) rules totals counts_map numbers (Ok 0)
  plain_none {numbers} ok none = heard_recorded rules h (plainly n v) ok (none_heard rules (fitting (plainly n v)) beginning h n v numbers ok none) chosen_plain

-- ---- the tickets of the grammar

module _ {g : List ℕ} {rules : List (List ℕ)} (t : grammar.Holds g rules) (h : List ℕ) (a : Question) where
  ambiguous_is : ambiguous_in rules h a.length a.voice ≡ ambiguous g h a
  unfolding ambiguous
  ambiguous_is = some_ext (λ s. leb 2 (readings_in rules s)) (λ s. leb 2 (readings_of g s)) (of_length h a) (λ s m. ap (leb 2) (readings_are t s))

  numbers_are : (u : List ℕ → ℕ) (tell : ℕ × ℕ → ℕ)
      → all_numbers_in rules u tell h a.length a.voice ≡ concat_map (numbers_by g a.length u tell) (sentences_in h a.voice)
  numbers_are u tell =
      concat_ext (numbers_in rules u tell a.length) (numbers_by g a.length u tell) (sentences_in h a.voice) (λ s m. rw (readings_are t s, full_is t a.length))

  -- a rising list of just what is told of the sentences that the records add is that of what is struck
  pub heard_spans_lem : (u : List ℕ → ℕ) (tell : ℕ × ℕ → ℕ) → ((x y : ℕ × ℕ) → Below x y → tell x < tell y) → history.Accepted h → (l : List ℕ)
      → Heard rules u tell h a.length a.voice l → l ≡ map tell (spans_by g h a.length a.voice u)
  heard_spans_lem u tell rises diary l q =
      collected g h a.length a.voice u diary
      (λ s m e. few_readings g h a diary (sym ambiguous_is ∙ q.clear) s (∈_length g h a diary s (∈_heard g h a diary s m) e))
      tell rises l q.rising (λ d. rw (← numbers_are u tell) (q.just d))

-- what fits weighs 1: by it the places of what is struck are told
fitting_spans : (g h : List ℕ) (a : Question) → spans_by g h a.length a.voice (fitting a) ≡ struck_from (free g h a) (λ e. 1) 0 (fitting_at g a)
fitting_spans g h a = spans_keep (free g h a) (λ (e : ℕ × Tree). suits a e.1) 0 (numbered 0 (full_list g a.length))

-- ---- all lines

-- what is lent with a pattern serves once the grammar and the question are answered
pub asked_sought : {g h : List ℕ} {a : Question} {rules₀ rules totals₀ totals choice : List (List ℕ)} {numbers : List ℕ} → LentMatching h a rules₀ totals₀ choice numbers
    → Kept 4 256 rules₀ rules → Kept 17 32 totals₀ totals → Tabled g a.length rules totals → MatchingSought rules totals h a choice numbers
asked_sought lent k l t =
    let p = lent.called.lent.patterned in
    record {
      records = record { counted = t.counted; room = lent.called.room };
      patterned = record {
        long = p.long;
        links = omega (arith, p.links, k.long);
        unlinked = λ r i c. ap (λ (q : List ℕ). get_or q i 0) (k.rest r c) ∙ p.unlinked r i c;
        zeros = λ r A c. ap (λ (q : List ℕ). get_or q A 0) (l.rest r c) ∙ p.zeros r A c;
        room = λ c. omega (arith, p.room c, l.long);
      };
      choice_long = lent.choice_long;
      choice_wide = lent.choice_wide;
    }

module _ (g h : List ℕ) (a : Question) (u : List ℕ → ℕ) (asked : List Row) where
  -- the lines 11 to 15
  abbrev later : List Row
  later = history.history_rows h ++ ((ambiguous g h a, 15) ∷ [])

  pub unprepared : {rules totals choice : List (List ℕ)} (r : Refusal) → refusal_number r ≡ first_that_applies asked → {numbers : List ℕ} → Room h numbers
      → SampledBy g h a u asked rules totals choice numbers (Err r)
  unprepared r e room = record { prepared = sym (rows_stop asked later (omega (arith, number_some r)) ∙ sym e); room = room }

  module _ (above : numbered-rows asked ≡ true) (none : first_that_applies asked ≡ 0) {rules₀ : List (List ℕ)} (t : grammar.Holds g rules₀) where
    past_grammar : first_that_applies (asked ++ later) ≡ first_that_applies (history.history_rows h ++ ((ambiguous_in rules₀ h a.length a.voice, 15) ∷ []))
    past_grammar = rw (ambiguous_is t h a) (rows_pass asked later above none)

    pub recorded_prepared : {rules totals choice : List (List ℕ)} {numbers : List ℕ} {s : Result ℕ Refusal} → Room h numbers → RecordedBy rules₀ h a u rules totals choice numbers s
        → SampledBy g h a u asked rules totals choice numbers s
    unfolding first_that_applies
    recorded_prepared {rules} {numbers = numbers} {s = Ok k} room q =
        let x = q.recorded in
        record {
          prepared = record {
            passed = past_grammar ∙ rows_pass (history.history_rows h) ((ambiguous_in rules₀ h a.length a.voice, 15) ∷ []) refl x.0 ∙ row_passed 15 [] x.2.clear;
            diary = x.0;
            clear = sym (ambiguous_is t h a) ∙ x.2.clear;
            few = x.1;
            heard = heard_spans_lem t h a u beginning (λ y z l. l.0) x.0 (take k numbers) x.2;
            full = full_same rules₀ rules x.3.kept a.length ∙ full_is t a.length;
            chooses = x.3.chooses;
            weigh = x.3.weigh;
          };
          room = room;
        }
    recorded_prepared {s = Err r} room q = record { prepared = q.recorded ∙ sym past_grammar; room = room }

pub prepared_case : {g h : List ℕ} {a : Question} {u : List ℕ → ℕ} {asked : List Row} {rules totals choice : List (List ℕ)} {numbers : List ℕ} {s s' : Result ℕ Refusal}
    → SampledBy g h a u asked rules totals choice numbers s → s ≡ s' → SampledIs g h a u asked rules totals choice numbers s'
prepared_case q e = (rw e at q).prepared

-- ---- what weighs something by the choice is what fits

module _ {g h : List ℕ} {a : Question} {rules totals choice : List (List ℕ)} {numbers : List ℕ} {k : ℕ} (d : Drawable g h a rules totals choice numbers k) where
  weigh_total : weigh_in rules choice a.length ≡ total_for g a
  unfolding total_for
  weigh_total =
      ap (sum_over (weighs rules choice)) d.full
      ∙ sum_map sentence (weighs rules choice) (full_list g a.length)
      ∙ sum_ext (λ t. weighs rules choice (sentence t)) (λ t. bit (suits a t)) (full_list g a.length)
      (λ t m. d.weigh (sentence t) (listed_length g a.length t m))

  -- the first tickets are the places of what fits
  heard_barred : take k numbers ≡ barred g h a
  heard_barred = d.heard ∙ ap (map (λ (e : ℕ × ℕ). e.0)) (fitting_spans g h a)

  module _ (room : Room h numbers) where
    heard_count : k ≡ heard_of g h a
    heard_count =
        sym (length-take-le k numbers (omega (arith, d.few, room d.diary))) ∙ ap length heard_barred ∙ sym (heard_length g h a d.diary d.clear)

    -- there are no more of them than derivations
    pub heard_few : (t : ℕ) → t ≡ weigh_in rules choice a.length → k ≤ t
    heard_few t e = omega (arith, weigh_total, heard_count, heard_length g h a d.diary d.clear, unheard_all g h a)

-- ---- *Left*

module _ (g h : List ℕ) (a : Question) where
  pub left_refused : (k : ℕ) → k ≡ first_that_applies (remaining_rows g h a) → 0 < k
      → refused k 3 [] ≡ remaining_to g h a
  unfolding remaining_to
  left_refused k e l = rw (← e) (sym (answer_refused k (total_for g a ∷ heard_of g h a ∷ left_of g h a ∷ []) [] [] l))

  pub left_counted : {rules totals choice : List (List ℕ)} {numbers : List ℕ} {k : ℕ} → Drawable g h a rules totals choice numbers k → Room h numbers
      → (t : ℕ) → t ≡ weigh_in rules choice a.length → given (t ∷ k ∷ (t - k) ∷ []) [] ≡ remaining_to g h a
  unfolding remaining_to
  left_counted d room t e =
      rw (e ∙ weigh_total d, heard_count d room)
      (sym (answer_accepted (total_for g a ∷ heard_of g h a ∷ left_of g h a ∷ []) [] [] d.passed))

-- ---- *Draw*, from the heard derivations' tickets

-- what is struck weighs no more than all
pub parts_low : (rules choice : List (List ℕ)) (n : ℕ) (unheard : List ℕ → Bool) → sum_over (λ (e : ℕ × ℕ). e.1) (spans_in rules choice n unheard) ≤ weigh_in rules choice n
parts_low rules choice n unheard =
    omega (
      arith,
      tickets_spans (λ (e : ℕ × List ℕ). unheard e.1) (λ (e : ℕ × List ℕ). weighs rules choice e.1) (numbered 0 (full_in rules n)),
      numbered_sum (weighs rules choice) 0 (full_in rules n),
    )

-- all tickets together fit in 64 bits
pub weigh_low : {rules totals choice : List (List ℕ)} {n : ℕ} → Chooses rules totals choice n → weigh_in rules choice n ≤ most
weigh_low {rules} {choice = choice} {n} w =
    rw (← whole_weigh rules choice n) (w.mapped.fits 0 (grammar.start_in rules) n (start_asked w.counted) (whole w.counted))

module _ {rules totals choice : List (List ℕ)} {heard sums : List ℕ} {n : ℕ} (s : DrawSought rules totals choice n heard sums) where
  abbrev U : ℕ × List ℕ → Bool
  U e = s.unheard e.1

  abbrev W : ℕ × List ℕ → ℕ
  W e = weighs rules choice e.1

  abbrev all : List (ℕ × List ℕ)
  all = numbered 0 (full_in rules n)

  -- what is struck and what isn't make the whole
  parts : length (tickets W (keep U all)) + gone (length heard) (heard_spans heard sums) ≡ weigh_in rules choice n
  parts =
      omega (
        arith,
        tickets_spans U W all,
        ap (sum_over (λ (e : ℕ × ℕ). e.1)) s.spans_are,
        gone_all heard sums,
        numbered_sum (weighs rules choice) 0 (full_in rules n),
      )

  -- what the heard ones weigh
  pub struck_sum : {x : ℕ} → x ≡ passed_by sums (length heard) → (x ≤ weigh_in rules choice n) × (x ≡ sum_over (λ (e : ℕ × ℕ). e.1) (heard_spans heard sums))
  struck_sum e =
      let z = e ∙ s.told.passed_are (length heard) (omega arith) in
      (omega (arith, parts), z ∙ gone_all heard sums)

  weigh_fits : weigh_in rules choice n ≤ most
  weigh_fits = weigh_low s.chooses

  abbrev rest : ℕ
  rest = weigh_in rules choice n - sum_over (λ (e : ℕ × ℕ). e.1) (heard_spans heard sums)

  -- the total less what the sums say is left
  pub left_struck : {t x : ℕ} → t ≡ weigh_in rules choice n → x ≡ passed_by sums (length heard) → t - x ≡ rest
  left_struck e f = omega (arith, e, (struck_sum f).1)

  pub skips : {q : ℕ} → q < rest → Skips q heard sums
  skips l = record {
    told = s.told;
    apart = rw s.spans_are (struck_apart (λ (e : ℕ × List ℕ). U e || eqb (W e) 0) W 0 all);
    few = s.few;
    fits = omega (arith, weigh_fits, parts, gone_all heard sums);
  }

  skip_inside : (q : ℕ) → q < rest → skip_over q (heard_spans heard sums) < weigh_in rules choice n
  skip_inside q l =
      rw s.spans_are
      (omega (arith, spans_lt U W all q (omega (arith, parts, gone_all heard sums)), numbered_sum (weighs rules choice) 0 (full_in rules n)))

  pub skip_sought : {counts : List (List ℕ)} → Everywhere counts → (q d : ℕ) (out : List ℕ) → q < rest → d ≡ skip_over q (heard_spans heard sums) → n ≤ length out
      → WriteSought rules totals choice counts n d out
  skip_sought every q d out l e m = record { everywhere = every; chooses = s.chooses; inside = rw e (skip_inside q l); room = m }

-- without sums they are no more than all
pub struck_few : {rules totals choice : List (List ℕ)} {heard : List ℕ} {n : ℕ} → DrawSought rules totals choice n heard [] → length heard ≤ weigh_in rules choice n
struck_few {heard = heard} s = (struck_sum s (passed_plain (length heard))).0

module _ (rules choice : List (List ℕ)) (n : ℕ) (heard sums : List ℕ) (q : ℕ) (out : List ℕ) where
  abbrev left : ℕ
  left = weigh_in rules choice n - sum_over (λ (e : ℕ × ℕ). e.1) (heard_spans heard sums)

  abbrev found : ℕ × List ℕ
  found = get_or (tickets_at rules choice n) (skip_over q (heard_spans heard sums)) (0, [])

  pub skipping_beyond : left ≤ q → refused 16 2 out ≡ draw_skipping rules choice n heard sums q out
  unfolding draw_skipping
  skipping_beyond l =
      let e : first_that_applies ((leb left q, 16) ∷ (ltb (length out) n, 20) ∷ []) ≡ 16 = row_applies 16 _ (le-leb left q l) in
      rw e (sym (answer_refused 16 (left ∷ found.0 ∷ []) out (found.1 ++ drop n out) (lit< tt)))

  pub skipping_short : q < left → length out < n → refused 20 2 out ≡ draw_skipping rules choice n heard sums q out
  unfolding draw_skipping
  skipping_short l m =
      let e : first_that_applies ((leb left q, 16) ∷ (ltb (length out) n, 20) ∷ []) ≡ 20
      = row_passed 16 _ (lt-leb left q l) ∙ row_applies 20 _ (lt-ltb (length out) n m) in
      rw e (sym (answer_refused 20 (left ∷ found.0 ∷ []) out (found.1 ++ drop n out) (lit< tt)))

  pub skipping_written : (l d number : ℕ) (words : List ℕ) → q < left → n ≤ length out → l ≡ left → d ≡ skip_over q (heard_spans heard sums)
      → WrittenAs rules choice n d out words number → given (l ∷ number ∷ []) words ≡ draw_skipping rules choice n heard sums q out
  unfolding draw_skipping first_that_applies
  skipping_written l d number words h k e f w =
      let g : get_or (tickets_at rules choice n) d (0, []) ≡ found = ap (λ (i : ℕ). get_or (tickets_at rules choice n) i (0, [])) f in
      rw (w.words ∙ ap (λ (x : ℕ × List ℕ). x.1 ++ drop n out) g, e, w.number_is ∙ ap (λ (x : ℕ × List ℕ). x.0) g)
      (sym (answer_accepted (left ∷ found.0 ∷ []) out (found.1 ++ drop n out)
      (row_passed 16 ((ltb (length out) n, 20) ∷ []) (lt-leb left q h) ∙ row_passed 20 [] (le-ltb (length out) n k))))

-- ---- *Draw*, whole

-- without weights the places are the first tickets of what weighs 1
spans_drawable : {g h : List ℕ} {rules totals choice : List (List ℕ)} {numbers : List ℕ} {a : Question} {k : ℕ} → Drawable g h a rules totals choice numbers k
    → heard_spans (take k numbers) [] ≡ spans_in rules choice a.length (λ s. not (heard h a.voice s))
spans_drawable {g} {h} {rules} {choice = choice} {numbers} {a} {k} d =
    spans_plain 0 (take k numbers)
    ∙ ap (map (λ (x : ℕ). (x, 1))) (heard_barred d)
    ∙ sym (singles (free g h a) 0 (fitting_at g a))
    ∙ sym (fitting_spans g h a)
    ∙ sym (spans_told g h a.length a.voice (fitting a) rules choice d.full d.weigh)

-- the part with the places serves
pub draw_sought : {g h : List ℕ} {rules totals choice : List (List ℕ)} {numbers : List ℕ} {a : Question} {k : ℕ} → Drawable g h a rules totals choice numbers k → Room h numbers
    → DrawSought rules totals choice a.length (take (k - 0) numbers) []
draw_sought {g} {h} {numbers = numbers} {a = a} {k = k} d room =
    let e : k - 0 ≡ k = omega arith in
    rw e
    (record {
      chooses = d.chooses;
      few = omega (arith, length-take-le k numbers (omega (arith, d.few, room d.diary)), d.few, (known h d.diary).sized.few);
      told = told_plain (take k numbers);
      unheard = λ s. not (heard h a.voice s);
      spans_are = spans_drawable d;
    })

module _ (g h : List ℕ) (a : Question) (q : ℕ) (out : List ℕ) where
  -- the lines 16 and 20
  abbrev last : List Row
  last = (leb (left_of g h a) q, 16) ∷ (ltb (length out) a.length, 20) ∷ []

  pub draw_refused : (k : ℕ) → k ≡ first_that_applies (remaining_rows g h a) → 0 < k
      → refused k 2 out ≡ draw_to g h a q out
  unfolding draw_to
  draw_refused k e l =
      let f : first_that_applies (remaining_rows g h a ++ last) ≡ k = rows_stop (remaining_rows g h a) last (omega arith) ∙ sym e in
      rw f (sym (answer_refused k (left_of g h a ∷ (drawn g h a q).number ∷ []) out (sentence (drawn g h a q).tree ++ drop a.length out) l))

  -- where none of the lines up to 15 applies, the call reads its answer off the unheard list
  pub draw_unheard : first_that_applies (remaining_rows g h a) ≡ 0 → left_of g h a ≡ length (unheard g h a) → draw_to g h a q out ≡ draw_from a.length q out (unheard g h a)
  unfolding draw_to
  draw_unheard passed left_is =
      ap (λ (r : ℕ). answer_of r (left_of g h a ∷ (drawn g h a q).number ∷ []) out (sentence (drawn g h a q).tree ++ drop a.length out))
      (rows_pass (remaining_rows g h a) last refl passed)
      ∙ ap (λ (m : ℕ). answer ((leb m q, 16) ∷ (ltb (length out) a.length, 20) ∷ []) (m ∷ (drawn g h a q).number ∷ []) out (sentence (drawn g h a q).tree ++ drop a.length out))
      left_is

  -- and so does the code
  pub draw_skipping_lem : {rules totals choice : List (List ℕ)} {numbers : List ℕ} {k : ℕ} → Drawable g h a rules totals choice numbers k
      → draw_skipping rules choice a.length (take (k - 0) numbers) [] q out ≡ draw_to g h a q out
  draw_skipping_lem {rules} {choice = choice} {numbers} {k} d =
      let e : k - 0 ≡ k = omega arith in
      ap (λ (j : ℕ). draw_skipping rules choice a.length (take j numbers) [] q out) e
      ∙ drawn_listed g h a.length a.voice (fitting a) rules choice d.full d.weigh (take k numbers) [] (spans_drawable d) q out
      ∙ ap (draw_from a.length q out) (list_plain g h a)
      ∙ sym (draw_unheard d.passed (left_length g h a d.diary d.clear))
