-- From the tables and an accepted history to the collecting of its first tickets: the totals by weight choose and measure, and by them each sentence weighs
-- what its words' weights make it. A sentence with a derivation weighs something, as none of its words weighs 0.
-- Assumes nothing.
use mathlib.Core.Path.{◌≡◌, refl, sym, ap, ◌∙◌}
use mathlib.Core.Bool.{true}
use mathlib.Core.List.Memᴰ
use mathlib.Core.List.{List, [], ◌∷◌}
use Prim.Native.Nat.{ℕ, suc, ◌+◌, ◌/◌, ◌%◌, ◌≤◌, ◌<◌}
use native.Mathlib.Omega.{arith}
use borrow.Author.Tests.{le-leb, lt-ltb}
use lib.Dec.{ltb}
use lib.ListN.{length, get_or, drop}
use Rattle.answers.specs.declared.refusal.Refusal.{Refusal}
use Rattle.std.specs.Prelude.{Result, Ok}
use Rattle.lists.specs.Joined.{◌∈◌}
use Rattle.lists.specs.Inner.Tables.{entry, Wide}
use Rattle.grammar.specs.Layout.{start}
use Rattle.grammar.specs.Chains.{chain}
use Rattle.grammar.specs.Trees.{sentence}
use Rattle.grammar.specs.Inner.Rules.{start_in, ruled}
use Rattle.grammar.proofs.Kept.{ruled_same, ruled_kept}
use Rattle.grammar.proofs.Enumeration.{sound}
use Rattle.counting.specs.Inner.Letters.{any, weighed, by_letter, Summed}
use Rattle.counting.specs.Totals.{total_by}
use Rattle.counting.specs.Inner.Counted.{Asked, Counted, Tallied}
use Rattle.counting.specs.Inner.Sentences.{weight}
use Rattle.counting.proofs.Asking.{asked_of, counted_kept}
use Rattle.counting.proofs.Lettered.{summed_by}
use Rattle.counting.proofs.Totals.{total_within}
use Rattle.charts.specs.Inner.Letters.{letter_at, weight_by, stands}
use Rattle.charts.specs.Inner.Maps.{row_at, Span, ByLength, weights_row, weights_map}
use Rattle.charts.specs.Inner.Plan.{length_in, needed, end_of}
use Rattle.charts.specs.Inner.Planning.{PlacedAs}
use Rattle.charts.specs.Inner.Ready.{Readies, ReadiedAs}
use Rattle.charts.proofs.Mapping.{map_by_lem, length_weight, length_mapped, all_closed, planned_closed}
use Rattle.charts.proofs.Placing.{room_low, placed_rows}
use Rattle.ranking.specs.Answers.{full_list}
use Rattle.ranking.specs.Inner.Inside as inside
use Rattle.ranking.specs.Inner.Inside.{full_in, Chooses}
use Rattle.ranking.proofs.Inside.{full_is}
use Rattle.ranking.proofs.Weighing.{listed_long}
use Rattle.history.specs.Layout.{records_of}
use Rattle.history.specs.Refusals.{Accepted}
use Rattle.sampling.specs.Question.{plainly}
use Rattle.sampling.specs.Inner.Collect.{beginning, ending, Collects}
use Rattle.sampling.specs.Inner.Preparing.{NumbersBy}
use Rattle.sampling.proofs.Readying.{held_same, hold_same, full_same}
use Rattle.sampling.proofs.Answering.{none_heard, fitted_recorded}
use Rattle.weighing.specs.Weights.{weight_of, weighs}
use Rattle.weighing.specs.Inner.Tables.{Weighed, SumsUp, SummedUpAs}
use Rattle.weighing.specs.Inner.Preparing.{behind_weights, FirstsSought, FirstsAs, RecordsSought, RecordsAs}
use Rattle.weighing.proofs.Weighing.{left_weighty, derived_some}

-- ---- the map of the totals by weight

abbrev by_weight : ByLength weighed weights_row weights_map
by_weight = map_by_lem weighed weights_row

-- every sentence stands by it
weights_stand : (p : ℕ) (s : List ℕ) → p + length s ≤ 16 → stands weights_map p s ≡ true
weights_stand p [] h = refl
weights_stand p (w ∷ s) h =
    rw (le-leb any (letter_at weights_map p) (omega (arith, by_weight.letter p (omega arith))), weights_stand (suc p) s (omega arith))

-- and weighs what the words' weights make it, where these are in the table of rules
weights_weigh : (rules : List (List ℕ)) (weights : List ℕ) → ((w : ℕ) → entry rules 13 w ≡ weight_of weights w) → (p : ℕ) (s : List ℕ) → p + length s ≤ 16
    → weight (weight_by rules weights_map) p s ≡ weighs weights s
weights_weigh rules weights are p [] h = refl
weights_weigh rules weights are p (w ∷ s) h =
    let here : weight_by rules weights_map p w ≡ weight_of weights w = length_weight rules by_weight p w (omega arith) ∙ are w in
    rw (here, weights_weigh rules weights are (suc p) s (omega arith))

module _ {rules totals : List (List ℕ)} {n : ℕ} (c : Counted rules totals n) (t : Tallied rules (by_letter rules weighed) (drop weights_row totals) n) (long : 14 ≤ length rules) where
  letter : (p : ℕ) → p < n → letter_at weights_map p ≡ weighed
  letter p h = by_weight.letter p (omega (arith, c.short))

  pub weights_choose : Chooses rules totals weights_map n
  weights_choose = record {
    counted = c;
    known = λ p m. true;
    closed = all_closed rules n;
    mapped = length_mapped rules by_weight totals t (λ p m. true);
    linked = λ p h l. absurd (omega (arith, letter p h));
    weights = λ p h l. long;
  }

-- rules with the same first four rows and the same weights have the same totals by weight
tallied_kept : {rules after table : List (List ℕ)} {n : ℕ} → 4 ≤ length after → Wide after 256 → ((r : ℕ) → r < 4 → get_or after r [] ≡ get_or rules r [])
    → ((i : ℕ) → entry after 13 i ≡ entry rules 13 i) → Tallied rules (by_letter rules weighed) table n → Tallied after (by_letter after weighed) table n
tallied_kept {rules} {after} {table} {n} long wide same row c =
    let e = ruled_same rules after same in
    let start_is : start_in after ≡ start_in rules = ap (λ (l : List ℕ). get_or l 128 0) (same 3 (omega arith)) in
    let ruled_too = ruled_kept long wide same c.table in
    let asked : (A m : ℕ) → Asked after n A m → Asked rules n A m = λ A m a. asked_of c.table c.some (rw (e, start_is) at a.needed) in
    let is : (A m : ℕ) → total_by (ruled after) (by_letter after weighed) A m ≡ total_by (ruled rules) (by_letter rules weighed) A m
    = λ A m. rw e (total_within (ruled rules) (λ p i. by_letter after weighed i) (λ p i. by_letter rules weighed i) 0 A m (λ p i l u. row i)) in
    record {
      table = ruled_too;
      some = c.some;
      short = c.short;
      long = c.long;
      wide = c.wide;
      right = λ A m a. c.right A m (asked A m a) ∙ sym (is A m);
      fits = λ A m a. omega (arith, is A m, c.fits A m (asked A m a));
      longest = λ A m a l. is A m ∙ c.longest A m (asked A m a) l;
      only = λ A m d x l o. asked_of ruled_too c.some (rw (e, start_is) (c.only A m d x l o).needed);
    }

-- ---- the tables of a grammar and weights

module _ {g : List ℕ} {n : ℕ} {weights : List ℕ} {rules totals : List (List ℕ)} (w : Weighed g n weights rules totals) where
  abbrev counted : Counted rules totals n
  counted = w.tabled.counted

  -- a sentence with a derivation weighs something
  weigh_some : (s : List ℕ) → s ∈ full_in rules n → 1 ≤ weighs weights s
  weigh_some s m =
      let q = Memᴰ.of_map sentence (full_list g n) (rw (full_is w.tabled.holds n) at m) in
      rw (← q.2) (derived_some g w.bank weights (left_weighty g n weights w.good w.light) (sound (chain g) (start g) n q.0 q.1))

  pub weigh_agrees : (s : List ℕ) → length s ≡ n → inside.weighs rules weights_map s ≡ weighs weights s
  weigh_agrees s e = weights_weigh rules weights w.weights_are 0 s (omega (arith, counted.short))

  -- a history without records has nothing heard
  pub firsts_none : (h : List ℕ) (v : ℕ) {numbers ends : List ℕ} → Accepted h → records_of h ≡ 0
      → RecordsAs rules h n v weights rules totals numbers ends (Ok 0)
  firsts_none h v {numbers} {ends} ok none = record {
    recorded = fitted_recorded rules h (plainly n v) ok
        (record {
          hold = none_heard rules (weighs weights) beginning h n v numbers ok none;
          chosen = record { kept = λ r l. refl; chooses = weights_choose counted w.tallied (omega (arith, w.rules_long)); weigh = weigh_agrees };
        });
    ended = λ k e. (0, none_heard rules (weighs weights) ending h n v ends ok none);
  }

  pub firsts_sum : SumsUp rules
  firsts_sum = record { table = counted.table; long = w.rules_long }

  -- summing up leaves the rules, the weights, and the rows of the links
  module _ {summed : List (List ℕ)} (u : SummedUpAs rules summed) where
    summed_row : (r : ℕ) → r < 14 → get_or summed r [] ≡ get_or rules r []
    summed_row r l = u.others r (λ e. omega arith) (λ e. omega arith)

    summed_counted : Counted summed totals n
    summed_counted = counted_kept (omega (arith, u.long, w.rules_long)) u.wide (λ r l. summed_row r (omega arith)) counted

    summed_unlinked : (r i : ℕ) → 4 ≤ r → r < 13 → entry summed r i ≡ 0
    summed_unlinked r i l h = ap (λ (x : List ℕ). get_or x i 0) (summed_row r (omega arith)) ∙ w.unlinked r i l h

    pub firsts_ready : {plan map : List (List ℕ)} → length plan ≡ 4 → length map ≡ 17 → Wide map 16 → end_of behind_weights n ≤ length totals → Readies summed totals n plan map
    firsts_ready p m d room = record {
      blank = record { counted = summed_counted; zeros = w.none; room = omega arith };
      unlinked = record {
        table = summed_counted.table;
        long = omega (arith, u.summed.long);
        no_words = λ x l. summed_unlinked 4 x (omega arith) (omega arith);
        no_pairs = λ x l. summed_unlinked (9 + x / 256) (x % 256) (omega arith) (omega arith);
      };
      plan_long = p;
      map_long = m;
      map_wide = d;
    }

-- ---- the collecting

-- an accepted history with records has what collecting asks
pub firsts_sought : {g : List ℕ} {n : ℕ} {weights : List ℕ} {rules totals : List (List ℕ)} {h numbers ends : List ℕ} → RecordsSought g n weights rules totals h numbers ends
    → Accepted h → 1 ≤ records_of h → FirstsSought g n weights rules totals h numbers ends
firsts_sought s d some = record { weighed = s.weighed; diary = d; room = s.room d; ends_room = s.ends_room d; charts = s.charts d some }

module _ {g : List ℕ} {n : ℕ} {weights : List ℕ} {rules totals : List (List ℕ)} {h numbers ends : List ℕ} (s : FirstsSought g n weights rules totals h numbers ends) where
  abbrev w : Weighed g n weights rules totals
  w = s.weighed

  short : n ≤ 16
  short = (counted w).short

  module _ {summed after plan map₀ : List (List ℕ)} (u : SummedUpAs rules summed) (r : ReadiedAs summed after plan map₀ totals n) where
    -- linking leaves the rules, the weights, and what is summed up of them
    rules_kept : (q : ℕ) → q < 4 → get_or after q [] ≡ get_or rules q []
    rules_kept q l = r.kept q l ∙ summed_row w u q (omega arith)

    row_kept : (i : ℕ) → entry after 13 i ≡ entry rules 13 i
    row_kept i = ap (λ (l : List ℕ). get_or l i 0) (r.rest 13 (omega arith) ∙ summed_row w u 13 (omega arith))

    linked_summed : Summed after
    linked_summed =
        summed_by summed (omega (arith, r.size, u.summed.long)) r.kept (r.rest 13 (omega arith))
        (λ a i l h. rw (r.rest 14 (omega arith), r.rest 15 (omega arith)) (u.summed.before a i l h))

    linked_counted : Counted after totals n
    linked_counted = r.ready.blank.counted

    linked_tallied : Tallied after (by_letter after weighed) (drop weights_row totals) n
    linked_tallied = tallied_kept linked_counted.table.long linked_counted.table.wide rules_kept row_kept w.tallied

    linked_agrees : (t : List ℕ) → length t ≡ n → inside.weighs after weights_map t ≡ weighs weights t
    linked_agrees t e = weights_weigh after weights (λ i. row_kept i ∙ w.weights_are i) 0 t (omega (arith, short))

    pub plan_low : length_in plan ≤ 16
    plan_low = omega (arith, r.ready.planned.length, short)

    module _ {map : List (List ℕ)} (p : PlacedAs (get_or plan 1 []) behind_weights (length_in plan) (length_in plan + 1) map₀ map) where
      pub firsts_collect : Collects after plan map weights_map h n totals numbers
      firsts_collect =
          let e = r.ready.planned.length in
          let q : PlacedAs (get_or plan 1 []) behind_weights n (n + 1) map₀ map = rw e at p in
          let row : (i m : ℕ) → Span n i m → row_at weights_map i m ≡ weights_row + m
          = λ i m d. by_weight.row i m (omega (arith, d.some, d.inside, short)) d.some (omega (arith, d.inside, short)) in
          record {
            planned = e;
            first = behind_weights;
            low = omega (arith, room_low n short);
            ready = record {
              blank = record { counted = linked_counted; zeros = w.none; room = s.charts };
              linked = r.ready.linked;
              planned = record {
                behind = omega arith;
                length = e;
                cut = r.ready.planned.cut;
                rows = placed_rows plan q refl;
              };
              long = q.long;
              wide = q.wide;
            };
            zeros = λ i A l. w.behind i A l;
            measures = record {
              mapped = length_mapped after by_weight totals linked_tallied (needed plan);
              rows = λ i m d. omega (arith, row i m d, d.inside, short);
              weights = λ i l z. linked_summed;
              stand = λ t m.
                  let long = listed_long after n t m in
                  weights_stand 0 t (omega (arith, short))
                  ∙ sym (ap (ltb 0) (linked_agrees t long) ∙ lt-ltb 0 (weighs weights t) (weigh_some w t (rw (full_same rules after rules_kept n) at m)));
              plain = λ l t e. weights_stand 0 t (omega (arith, short));
            };
            diary = s.diary;
            room = s.room;
          }

      -- what is collected by the linked rules is what the rules and the weights say
      pub firsts_heard : {v : ℕ} {totals' : List (List ℕ)} {numbers' ends' : List ℕ} {x : Result ℕ Refusal} → length ends' ≡ length ends
          → NumbersBy after plan weights_map h n v totals' numbers' ends' x → FirstsAs rules h n v weights after totals' numbers' ends' x
      firsts_heard {v} {numbers' = numbers'} {ends'} {x = x} size q = record {
        heard = record {
          hold = hold_same rules after rules_kept linked_agrees h v numbers' x q.hold;
          chosen = record {
            kept = rules_kept;
            chooses = record {
              counted = q.still.counted;
              known = needed plan;
              closed = planned_closed short r.ready.planned;
              mapped = q.still.mapped;
              linked = λ i d l. r.ready.linked;
              weights = λ i d l. omega (arith, linked_summed.long);
            };
            weigh = linked_agrees;
          };
        };
        ended = λ k e.
            let t = q.ended (omega (arith, size, s.ends_room)) k e in
            (t.0, held_same rules after rules_kept linked_agrees h v ending ends' t.0 t.1);
      }
