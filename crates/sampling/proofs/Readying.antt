-- From the counts and an accepted history to the collecting of its places. Without a pattern the tables are copied to where there is room for links and
-- charts, and the counts measure; with one the sentences' charts stand behind the pattern's, which measures. What is collected by linked rules and a
-- map's letters is what the rules themselves and the pattern say.
-- Assumes nothing.
use mathlib.Core.Path.{◌≡◌, refl, sym, ap, ◌∙◌}
use mathlib.Core.Bool.{Bool, true, false, cond, ◌&&◌, ◌||◌}
use mathlib.Core.List.{List, [], ◌∷◌, map}
use Prim.Native.Nat.{ℕ, zero, suc, ◌+◌, ◌/◌, ◌%◌, ◌≤◌, ◌<◌}
use native.Mathlib.Omega.{arith}
use native.Mathlib.Decide.{ℕ_discrete, dec_le}
use borrow.Author.Tests.{eqb-true, eq-eqb, ne_eqb, le-leb, lt-leb}
use lib.ListN.{length, get_or, replicate, length-replicate}
use lib.Dec.{ltb, leb, eqb}
use Rattle.answers.specs.declared.refusal.Refusal.{Refusal}
use Rattle.std.specs.Prelude.{Result, Ok, Err}
use Rattle.lists.specs.Joined.{◌∈◌}
use Rattle.lists.specs.Searched.{bit, same}
use Rattle.lists.specs.Inner.Tickets.{first_ticket}
use Rattle.lists.specs.Inner.Tables.{entry, Wide, CopiedAs}
use Rattle.lists.proofs.Sums.{concat_ext}
use Rattle.lists.proofs.Tests.{some_ext}
use Rattle.lists.proofs.Searches.{first_ext}
use Rattle.lists.proofs.Tables.{copied_wide, wide_made, made_entry}
use Rattle.grammar.specs.Inner.Rules.{start_in, ruled}
use Rattle.grammar.proofs.Kept.{ruled_same, ruled_kept}
use Rattle.counting.specs.Inner.Counted.{Counted}
use Rattle.counting.proofs.Asking.{counted_copied, counted_kept}
use Rattle.counting.proofs.Sentences.{sentence_length}
use Rattle.counting.specs.Inner.Letters.{any}
use Rattle.charts.specs.Inner.Letters.{letter_at, letter_of, admits, stands}
use Rattle.charts.specs.Inner.Maps.{row_at, Span, counts_map, LetteredAs}
use Rattle.charts.specs.Inner.Plan.{length_in, needed, chart_row, end_of, Planned}
use Rattle.charts.specs.Inner.Planning.{PlacedAs}
use Rattle.charts.specs.Inner.Chart.{Fills, ChartedAs}
use Rattle.charts.specs.Inner.Ready.{Ready as Readied, Readies, ReadiedAs}
use Rattle.charts.proofs.Mapping.{counts_map_lem, everywhere_mapped, planned_closed, planned_same, filled_blank, letter_low, clean_start}
use Rattle.charts.proofs.Placing.{room_short, room_low, placed_rows}
use Rattle.ranking.specs.Inner.Inside.{full_in, readings_in, weighs}
use Rattle.ranking.specs.Inner.Ranking.{Roomy}
use Rattle.ranking.proofs.Weighing.{any_stands, stands_is, listed_long}
use Rattle.history.specs.Heard.{sentences_in}
use Rattle.sampling.specs.Pattern.{matches}
use Rattle.sampling.specs.Question.{Question, plainly}
use Rattle.sampling.specs.Unheard.{of_length}
use Rattle.sampling.specs.Inner.Collect.{fitting, beginning, numbers_in, ambiguous_in, all_numbers_in, Collects, Still}
use Rattle.sampling.specs.Inner.Patterns.{behind_of, ChartSought, PatternChartedAs, Choice}
use Rattle.sampling.specs.Inner.Preparing.{Held, Hold, NumbersBy, NumbersSought, NumbersAs, FittingSought, FittedAs}

-- ---- the same rules, and weights that agree

module _ (rules after : List (List ℕ)) (same_rows : (q : ℕ) → q < 4 → get_or after q [] ≡ get_or rules q []) where
  pub full_same : (n : ℕ) → full_in after n ≡ full_in rules n
  full_same n =
      let start_is : start_in after ≡ start_in rules = ap (λ (l : List ℕ). get_or l 128 0) (same_rows 3 (omega arith)) in
      rw (ruled_same rules after same_rows, start_is)

  readings_same : (s : List ℕ) → readings_in after s ≡ readings_in rules s
  readings_same s = rw (full_same (length s))

  module _ {u w : List ℕ → ℕ} {n : ℕ} (agree : (s : List ℕ) → length s ≡ n → u s ≡ w s) where
    first_same : (s : List ℕ) → first_ticket u (λ t. same t s) (full_in after n) ≡ first_ticket w (λ t. same t s) (full_in rules n)
    first_same s =
        ap (first_ticket u (λ t. same t s)) (full_same n)
        ∙ first_ext (λ t. same t s) u w (full_in rules n) (λ t m. agree t (sentence_length (ruled rules) (start_in rules) n t m))

    added_same : (tell : ℕ × ℕ → ℕ) (s : List ℕ) → numbers_in after u tell n s ≡ numbers_in rules w tell n s
    added_same tell s =
        ap (λ (d : ℕ). cond (eqb (length s) n && (eqb (readings_in after s) 1 && ltb 0 (u s))) (tell (d, u s) ∷ []) []) (first_same s)
        ∙ ap (λ (k : ℕ). cond (eqb (length s) n && (eqb k 1 && ltb 0 (u s))) (tell (first, u s) ∷ []) []) (readings_same s)
        ∙ go (eqb (length s) n) refl
      where
        first : ℕ
        first = first_ticket w (λ t. same t s) (full_in rules n)

        go : (b : Bool) → eqb (length s) n ≡ b
            → cond (b && (eqb (readings_in rules s) 1 && ltb 0 (u s))) (tell (first, u s) ∷ []) []
            ≡ cond (b && (eqb (readings_in rules s) 1 && ltb 0 (w s))) (tell (first, w s) ∷ []) []
        go true e = rw (agree s (eqb-true (length s) n e))
        go false e = refl

    module _ (h : List ℕ) (v : ℕ) where
      numbers_same : (tell : ℕ × ℕ → ℕ) → all_numbers_in after u tell h n v ≡ all_numbers_in rules w tell h n v
      numbers_same tell = concat_ext (numbers_in after u tell n) (numbers_in rules w tell n) (sentences_in h v) (λ s m. added_same tell s)

      ambiguity_same : ambiguous_in after h n v ≡ ambiguous_in rules h n v
      ambiguity_same =
          some_ext (λ s. leb 2 (readings_in after s)) (λ s. leb 2 (readings_in rules s)) (of_length h (plainly n v)) (λ s m. ap (leb 2) (readings_same s))

      pub held_same : (tell : ℕ × ℕ → ℕ) (numbers : List ℕ) (k : ℕ) → Held after u tell h n v numbers k → Held rules w tell h n v numbers k
      held_same tell numbers k q = (
        q.0,
        record { clear = sym ambiguity_same ∙ q.1.clear; rising = q.1.rising; just = λ d. rw (← numbers_same tell) (q.1.just d) },
      )

      pub hold_same : (numbers : List ℕ) (s : Result ℕ Refusal) → Hold after u h n v numbers s → Hold rules w h n v numbers s
      hold_same numbers (Ok k) q = held_same beginning numbers k q
      hold_same numbers (Err r) q = (sym ambiguity_same ∙ q.0, q.1)

-- ---- without a pattern

-- the counts let every sentence of the length stand, and weigh 1, as without a pattern
counts_stand : (n : ℕ) → n ≤ 16 → (s : List ℕ) → length s ≡ n → stands counts_map 0 s ≡ true
counts_stand n short s e = any_stands counts_map 0 s (λ i h. counts_map_lem.letter (0 + i) (omega arith))

pub counts_agree : (rules : List (List ℕ)) (n v : ℕ) → n ≤ 16 → (s : List ℕ) → length s ≡ n → weighs rules counts_map s ≡ fitting (plainly n v) s
counts_agree rules n v short s e =
    stands_is rules counts_map n (λ p h. omega (arith, counts_map_lem.letter p (omega arith))) s e
    ∙ ap bit (counts_stand n short s e)

-- what weighs 1 or nothing stands if it weighs something
bit_some : (b : Bool) → b ≡ ltb 0 (bit b)
bit_some true = refl
bit_some false = refl

stand_some : (rules map : List (List ℕ)) (n : ℕ) → ((p : ℕ) → p < n → letter_at map p ≤ any) → (s : List ℕ) → s ∈ full_in rules n
    → stands map 0 s ≡ ltb 0 (weighs rules map s)
stand_some rules map n letters s m =
    bit_some (stands map 0 s) ∙ ap (ltb 0) (sym (stands_is rules map n letters s (listed_long rules n s m)))

-- a table of rules with room for links
abbrev bare : List (List ℕ)
bare = replicate 13 (replicate 256 0)

module _ {rules totals : List (List ℕ)} {h : List ℕ} {n : ℕ} {numbers : List ℕ} {chart : List (List ℕ)} (w : NumbersSought rules totals h n numbers) (t : Roomy n chart) where
  pub counts_asked : (n ≤ 16) × (17 ≤ length totals) × (17 ≤ length chart)
  counts_asked = (w.counted.short, w.counted.long, omega (arith, t.counts))

  module _ {copied linked : List (List ℕ)} (c : CopiedAs (n + 1) totals chart copied) (k : CopiedAs 4 rules bare linked) where
    counts : Counted rules copied n
    counts = counted_copied w.counted counts_asked.2 t.wide c

    none : (r A : ℕ) → n + 1 ≤ r → entry copied r A ≡ 0
    none r A l = ap (λ (q : List ℕ). get_or q A 0) (c.rest r l) ∙ t.zeros r A

    linked_long : length linked ≡ 13
    linked_long = k.long ∙ length-replicate 13 (replicate 256 zero)

    linked_wide : Wide linked 256
    linked_wide = copied_wide w.counted.table.long w.counted.table.wide (wide_made 13 256 0) k

    clear : (r i : ℕ) → 4 ≤ r → entry linked r i ≡ 0
    clear r i l = ap (λ (q : List ℕ). get_or q i 0) (k.rest r l) ∙ made_entry 13 256 r i

    pub asks_ready : {plan map : List (List ℕ)} → length plan ≡ 4 → length map ≡ 17 → Wide map 16 → Readies linked copied n plan map
    asks_ready p m d =
        let long : 4 ≤ length linked = omega (arith, linked_long) in
        record {
          blank = record {
            counted = counted_kept long linked_wide k.rows counts;
            zeros = λ A. none 17 A (omega (arith, w.counted.short));
            room = omega (arith, t.long w.counted.short, c.long);
          };
          unlinked = record {
            table = ruled_kept long linked_wide k.rows w.counted.table;
            long = omega (arith, linked_long);
            no_words = λ x l. clear 4 x (omega arith);
            no_pairs = λ x l. clear (9 + x / 256) (x % 256) (omega arith);
          };
          plan_long = p;
          map_long = m;
          map_wide = d;
        }

    module _ {after plan map : List (List ℕ)} (r : ReadiedAs linked after plan map copied n) where
      pub asks_collect : Collects after plan map counts_map h n copied numbers
      asks_collect =
          let short = w.counted.short in
          record {
            planned = r.ready.planned.length;
            first = chart_row;
            low = omega (arith, room_low n short);
            ready = r.ready;
            zeros = λ q A l. none q A (omega arith);
            measures = record {
              mapped = everywhere_mapped after counts_map_lem r.ready.blank.counted (needed plan);
              rows = λ p m s. omega (arith, counts_map_lem.row p m (omega (arith, s.some, s.inside)) s.some (omega (arith, s.inside)), s.inside);
              weights = λ p l e. absurd (omega (arith, counts_map_lem.letter p (omega arith)));
              stand = stand_some after counts_map n (λ p l. omega (arith, counts_map_lem.letter p (omega arith)));
              plain = λ l s e. counts_stand n short s e;
            };
            diary = w.diary;
            room = w.room;
          }

      -- the copies have the rules
      same_rules : (q : ℕ) → q < 4 → get_or after q [] ≡ get_or rules q []
      same_rules q l = r.kept q l ∙ k.rows q l

      pub plainly_heard : {v : ℕ} {totals' : List (List ℕ)} {numbers' ends : List ℕ} {s : Result ℕ Refusal} → NumbersBy after plan counts_map h n v totals' numbers' ends s
          → NumbersAs rules h (plainly n v) numbers' s
      plainly_heard {v} {numbers' = numbers'} {s = s} q = record { hold = hold_same rules after same_rules (counts_agree after n v w.counted.short) h v numbers' s q.hold }

-- ---- a pattern's letters

letter_same : (x w : ℕ) → x < 256 → admits (letter_of 255 x) w ≡ (eqb x 255 || eqb x w)
letter_same x w h =
    elim (ℕ_discrete x 255) [
      | yes e ↦ rw (eq-eqb x 255 e)
      | no e ↦ rw (ne_eqb x 255 e, lt-leb 256 x (omega arith))
    ]

-- the words that stand by the letters of a pattern are those that fit
stands_matches : (map : List (List ℕ)) (p : ℕ) (pattern s : List ℕ) → ((i : ℕ) → i < length pattern → letter_at map (p + i) ≡ letter_of 255 (get_or pattern i 0))
    → ((i : ℕ) → i < length pattern → get_or pattern i 0 < 256) → length s ≡ length pattern → stands map p s ≡ matches pattern s
stands_matches map p [] [] e l h = refl
stands_matches map p [] (w ∷ s) e l h = absurd (omega arith)
stands_matches map p (x ∷ pattern) [] e l h = absurd (omega arith)
stands_matches map p (x ∷ pattern) (w ∷ s) e l h =
    let z : p + 0 ≡ p = omega arith in
    let here : letter_at map p ≡ letter_of 255 x = rw z at (e 0 (omega arith)) in
    let next : (i : ℕ) → p + suc i ≡ suc p + i = λ i. omega arith in
    let tail = stands_matches map (suc p) pattern s (λ i k. ap (letter_at map) (sym (next i)) ∙ e (suc i) (omega arith)) (λ i k. l (suc i) (omega arith)) (omega arith) in
    ap (λ (y : ℕ). admits y w && stands map (suc p) s) here
    ∙ ap (λ (b : Bool). b && stands map (suc p) s) (letter_same x w (l 0 (omega arith)))
    ∙ ap (λ (b : Bool). (eqb x 255 || eqb x w) && b) tail

-- ---- a pattern's chart

module _ {rules : List (List ℕ)} {pattern : List ℕ} {plan choice totals : List (List ℕ)} (w : ChartSought rules pattern plan choice totals)
    {rules' plan' choice' : List (List ℕ)} (r : ReadiedAs rules rules' plan' choice' totals (length pattern))
    {choice'' : List (List ℕ)} (p : LetteredAs 255 pattern choice' choice'') where
  planned : Planned rules' plan' choice'' chart_row (length pattern)
  planned = planned_same choice'' p.kept r.ready.planned

  pub chart_asks : (sets : List ℕ) → length sets ≡ 154 → Fills rules' plan' choice'' chart_row (length_in plan') sets totals
  chart_asks sets long =
      let short = r.ready.blank.counted.short in
      rw r.ready.planned.length
      (record {
        blank = r.ready.blank;
        planned = planned;
        linked = r.ready.linked;
        letters = λ i h. omega (arith, p.letters i h, letter_low 255 (get_or pattern i 0) (p.bytes i h));
        clean = clean_start chart_row (length pattern) sets totals (omega (arith, room_low (length pattern) short)) w.zeros;
      })

  pub chart_filled : {sets' : List ℕ} {totals' : List (List ℕ)} → ChartedAs rules' plan' choice'' chart_row (length_in plan') totals sets' totals' → PatternChartedAs rules pattern totals rules' plan' choice'' totals'
  chart_filled c =
      let f = rw r.ready.planned.length at c.filled in
      record {
        kept = r.kept;
        filled = f;
        ready = record {
          blank = filled_blank r.ready.blank r.ready.planned.behind f;
          linked = r.ready.linked;
          planned = planned;
          long = p.long;
          wide = p.wide;
        };
        letters = p.letters;
        bytes = p.bytes;
      }

-- ---- where the charts of heard sentences begin behind a pattern's

pub behind_short : (n : ℕ) → n ≤ 5 → 33 ≡ behind_of n
behind_short n h = rw (le-leb n 5 h)

pub behind_long : (n : ℕ) → 5 < n → 154 ≡ behind_of n
behind_long n h = rw (lt-leb n 5 h)

-- behind the pattern's chart, and their end
pub behind_room : (n : ℕ) → n ≤ 16 → (end_of chart_row n ≤ behind_of n) × (behind_of n ≤ 154) × (end_of (behind_of n) n ≤ 290)
behind_room n h =
    elim (dec_le n 5) [
      | yes l ↦ let e = behind_short n l in rw (← e) (omega (arith, room_short n l), omega arith, omega (arith, room_short n l))
      | no l ↦ let e = behind_long n (omega arith) in rw (← e) (omega (arith, room_low n h), omega arith, omega (arith, room_low n h))
    ]

pub behind_five : (n : ℕ) → n ≤ 5 → end_of (behind_of n) n ≤ 48
behind_five n l = let e = behind_short n l in rw (← e) (omega (arith, room_short n l))

-- ---- with a pattern

module _ {rules totals : List (List ℕ)} {h : List ℕ} {a : Question} {records : ℕ} {choice : List (List ℕ)} {numbers : List ℕ}
    (w : FittingSought rules totals h a records choice numbers) where
  abbrev n : ℕ
  n = a.length

  n_low : n ≤ 16
  n_low = w.sought.counted.short

  pattern_long : length a.pattern ≡ n
  pattern_long = w.patterned.long

  pub asks_chart : {plan : List (List ℕ)} → length plan ≡ 4 → ChartSought rules a.pattern plan choice totals
  asks_chart p =
      let t = w.patterned in
      let room : end_of chart_row n ≤ length totals = omega (arith, (behind_room n n_low).0, t.room n_low) in
      record {
        readies = rw pattern_long
            (record {
              blank = record { counted = w.sought.counted; zeros = λ A. t.zeros 17 A (omega arith); room = room };
              unlinked = record {
                table = w.sought.counted.table;
                long = omega (arith, t.links);
                no_words = λ x l. t.unlinked 4 x (omega arith);
                no_pairs = λ x l. t.unlinked (9 + x / 256) (x % 256) (omega arith);
              };
              plan_long = p;
              map_long = w.choice_long;
              map_wide = w.choice_wide;
            });
        zeros = λ r A l. t.zeros r A (omega arith);
      }

  module _ {rules' plan choice' totals' : List (List ℕ)} (c : PatternChartedAs rules a.pattern totals rules' plan choice' totals') where
    letters : (p : ℕ) → p < n → letter_at choice' p ≤ any
    letters p l =
        let h : p < length a.pattern = omega (arith, pattern_long) in
        omega (arith, c.letters p h, letter_low 255 (get_or a.pattern p 0) (c.bytes p h))

    agrees : (s : List ℕ) → length s ≡ n → weighs rules' choice' s ≡ fitting a s
    agrees s e =
        stands_is rules' choice' n letters s e
        ∙ ap bit (stands_matches choice' 0 a.pattern s (λ i k. ap (letter_at choice') (omega arith) ∙ c.letters i k) c.bytes (e ∙ sym pattern_long))

    abbrev ready : Readied rules' plan choice' totals' chart_row n
    ready = rw pattern_long at c.ready

    -- the chart chooses as long as its totals are there
    pub chooses_fitting : {totals'' : List (List ℕ)} → Still rules' plan choice' totals'' n → Choice rules a (fitting a) rules' totals'' choice'
    chooses_fitting s = record {
      kept = c.kept;
      chooses = record {
        counted = s.counted;
        known = needed plan;
        closed = planned_closed n_low ready.planned;
        mapped = s.mapped;
        linked = λ p l k. ready.linked;
        weights = λ p l k. absurd (omega (arith, letters p l));
      };
      weigh = agrees;
    }

    pub still_charted : Still rules' plan choice' totals' n
    still_charted = record { counted = ready.blank.counted; mapped = rw pattern_long at c.filled.mapped }

    pub length_low : length_in plan ≤ 16
    length_low = omega (arith, ready.planned.length, n_low)

    module _ {map before : List (List ℕ)} (p : PlacedAs (get_or plan 1 []) (behind_of n) (length_in plan) (length_in plan + 1) before map) where
      pub asks_fitting : Collects rules' plan map choice' h n totals' numbers
      asks_fitting =
          let b = behind_room n n_low in
          let e = ready.planned.length in
          let f = rw pattern_long at c.filled in
          let q : PlacedAs (get_or plan 1 []) (behind_of n) n (n + 1) before map = rw e at p in
          record {
            planned = e;
            first = behind_of n;
            low = b.2;
            ready = record {
              blank = record {
                counted = ready.blank.counted;
                zeros = ready.blank.zeros;
                room = omega (arith, w.patterned.room n_low, f.long);
              };
              linked = ready.linked;
              planned = record {
                behind = omega (arith, b.0);
                length = e;
                cut = ready.planned.cut;
                rows = placed_rows plan q refl;
              };
              long = q.long;
              wide = q.wide;
            };
            zeros = λ r A l. ap (λ (x : List ℕ). get_or x A 0) (f.kept r (λ u v. omega (arith, b.0))) ∙ w.patterned.zeros r A (omega (arith, b.0));
            measures = record {
              mapped = f.mapped;
              rows = λ i m s. (row i m s (needed plan i m) refl).1;
              weights = λ p l k. absurd (omega (arith, letters p l));
              stand = stand_some rules' choice' n letters;
              plain = λ l s d. absurd (omega (arith, (row 0 1 (record { some = omega arith; inside = omega (arith, ready.blank.counted.some) }) (needed plan 0 1) refl).0));
            };
            diary = w.sought.diary;
            room = w.sought.room;
          }
        where
          row : (i m : ℕ) → Span n i m → (t : Bool) → needed plan i m ≡ t → (17 ≤ row_at choice' i m) × (row_at choice' i m < behind_of n)
          row i m s true t = let r = ready.planned.rows.some i m s t in (omega (arith, r.0), omega (arith, r.1, (behind_room n n_low).0))
          row i m s false t = let r = ready.planned.rows.none i m s t in (omega (arith, r), omega (arith, r, (behind_room n n_low).0))

      pub fitted : {totals'' : List (List ℕ)} {numbers' ends : List ℕ} {s : Result ℕ Refusal} → NumbersBy rules' plan choice' h n a.voice totals'' numbers' ends s
          → FittedAs rules h a rules' totals'' choice' numbers' s
      fitted {numbers' = numbers'} {s = s} q = record { hold = hold_same rules rules' c.kept agrees h a.voice numbers' s q.hold; chosen = chooses_fitting q.still }
