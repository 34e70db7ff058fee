-- Collecting the heard derivations: what one sentence adds, and what is collected along the chain. The places so far, with what the sentences still
-- to come add, are all of them.
-- Assumes nothing.
use mathlib.Core.Path.{◌≡◌, refl, sym, ap, ◌∙◌}
use mathlib.Core.Bool.{Bool, true, false, cond, ◌&&◌, ◌||◌}
use mathlib.Core.List.Memᴰ
use mathlib.Core.List.{List, [], ◌∷◌, ◌++◌, map, append-nil, append_assoc}
use Prim.Native.Nat.{ℕ, suc, ◌+◌, ◌≤◌, ◌<◌}
use native.Mathlib.Omega.{arith}
use native.Mathlib.Numerals.{add-one}
use borrow.Author.Tests.{eq-eqb, ne_eqb, le-leb, lt-leb}
use lib.ListN.{length, get_or, set, take, length-set}
use lib.Seq.{take-suc-set}
use lib.Dec.{ltb, leb, eqb}
use Rattle.answers.specs.declared.refusal.Refusal.{Refusal}
use Rattle.answers.specs.declared.refusal.Refusal.TheVariants.{HeardAmbiguous}
use Rattle.ranking.specs.declared.rank.Span.{Span as Tickets}
use Rattle.std.specs.Prelude.{Option, None, Some, Result, Ok, Err}
use Rattle.lists.specs.Joined.{◌∈◌, concat_map}
use Rattle.lists.specs.Searched.{some_of, first_place, same, keep}
use Rattle.lists.specs.Inner.Tickets.{first_ticket}
use Rattle.lists.proofs.Members.{get_or_∈}
use Rattle.lists.proofs.Tests.{same_eq}
use Rattle.lists.proofs.Searches.{place_lt, place_hit}
use Rattle.counting.specs.Refusals.{most}
use Rattle.charts.specs.Inner.Letters.{stands}
use Rattle.charts.specs.Inner.Maps.{Fitted}
use Rattle.charts.specs.Inner.Plan.{length_in}
use Rattle.charts.proofs.Mapping.{mapped_kept, clean_start}
use Rattle.ranking.specs.Inner.Inside.{readings_in, full_in, weighs, place_in}
use Rattle.ranking.specs.Inner.Ranking.{FindSought, FoundAs, PlaceSought, PlacedAs}
use Rattle.ranking.proofs.Finding.{place_asks}
use Rattle.history.specs.Layout.{records_of, head_of, record_words}
use Rattle.history.specs.Chain.{numbers_from}
use Rattle.history.specs.Refusals.{Accepted}
use Rattle.history.specs.Inner.Checks.{Inside}
use Rattle.history.specs.Inner.Reading.{sentence_at, next_at}
use Rattle.history.specs.Heard.{makes_heard, sentences_in}
use Rattle.history.proofs.Acceptance.{known}
use Rattle.history.proofs.Chain.{chained, numbers_zero}
use Rattle.history.proofs.Reading.{read_words, read_next, read_step}
use Rattle.sampling.specs.Inner.Collect.{numbers_in, many_in, ambiguous_in, all_numbers_in, Measures, Serves, Adds, HeardFoundAs, Collects, CollectedIs, Still, CollectedAs}

-- ---- what a sentence adds

module _ (rules : List (List ℕ)) (u : List ℕ → ℕ) (n : ℕ) (s : List ℕ) where
  other_none : (length s ≡ n → ⊥) → Adds rules u n s (Ok None)
  other_none h = let e = ne_eqb (length s) n h in (rw e, λ tell. rw e)

  module _ (e : length s ≡ n) where
    l : eqb (length s) n ≡ true
    l = eq-eqb (length s) n e

    read_none : readings_in rules s ≡ 0 → Adds rules u n s (Ok None)
    read_none z =
        let m = lt-leb 2 (readings_in rules s) (omega arith) in
        let o = ne_eqb (readings_in rules s) 1 (λ f. omega arith) in
        (rw (l, m), λ tell. rw (l, o))

    read_many : 2 ≤ readings_in rules s → Adds rules u n s (Err HeardAmbiguous)
    read_many h = (rw (l, le-leb 2 (readings_in rules s) h), refl)

    module _ (z : readings_in rules s ≡ 1) where
      m : leb 2 (readings_in rules s) ≡ false
      m = lt-leb 2 (readings_in rules s) (omega arith)

      o : eqb (readings_in rules s) 1 ≡ true
      o = eq-eqb (readings_in rules s) 1 z

      read_one : ltb 0 (u s) ≡ true → first_ticket u (λ t. same t s) (full_in rules n) + u s ≤ most
          → Adds rules u n s (Ok (Some (record { first = first_ticket u (λ t. same t s) (full_in rules n); weight = u s })))
      read_one p fits = (rw (l, m), (λ tell. rw (l, o, p)), fits)

      read_unfit : ltb 0 (u s) ≡ false → Adds rules u n s (Ok None)
      read_unfit p = (rw (l, m), λ tell. rw (l, o, p))

-- ---- one sentence

-- a sentence with a derivation is listed
listed_read : (rules : List (List ℕ)) (s : List ℕ) → 1 ≤ readings_in rules s → s ∈ full_in rules (length s)
listed_read rules s h =
    let f = full_in rules (length s) in
    let i = place_lt (λ t. same t s) f h in
    let e = same_eq (get_or f (first_place (λ t. same t s) f) []) s (place_hit (λ t. same t s) f [] h) in
    Memᴰ.cast (sym e) (get_or_∈ f (first_place (λ t. same t s) f) [] i)

module _ {rules plan map measure : List (List ℕ)} {sets : List ℕ} {totals : List (List ℕ)} (w : Serves rules plan map measure sets totals) {s : List ℕ} where
  pub heard_other : (length s ≡ length_in plan → ⊥) → HeardFoundAs rules plan map measure s sets totals (Ok None)
  heard_other f = record { adds = other_none rules (weighs rules measure) (length_in plan) s f; serves = w }

  module _ (e : length s ≡ length_in plan) where
    pub heard_sought : FindSought rules plan map w.first s sets totals
    heard_sought = record { ready = rw e w.ready; clean = rw e w.clean }

    pub heard_fitted : Fitted measure s
    heard_fitted = record { short = omega (arith, w.ready.blank.counted.short); plain = λ l. w.measures.plain l s e }

    module _ {map' : List (List ℕ)} {sets' : List ℕ} {totals' : List (List ℕ)} {k : ℕ} (q : FoundAs rules plan map' w.first s totals sets' totals' k) where
      -- the measure's rows are none of the chart's
      measures : Measures rules plan measure totals' w.first (length_in plan)
      measures =
          let m = w.measures in
          record {
            mapped = mapped_kept totals' q.filled.long (λ p j c. q.filled.kept _ (λ l u. omega (arith, m.rows p j c))) m.mapped;
            rows = m.rows;
            weights = m.weights;
            stand = m.stand;
            plain = m.plain;
          }

      serves : Serves rules plan map' measure sets' totals'
      serves = record { first = w.first; ready = rw e at q.ready; clean = rw e at q.clean; measures = measures }

      found : {f : Result (Option Tickets) Refusal} → Adds rules (weighs rules measure) (length_in plan) s f → HeardFoundAs rules plan map' measure s sets' totals' f
      found adds = record { adds = adds; serves = serves }

      pub heard_many : 2 ≤ k → HeardFoundAs rules plan map' measure s sets' totals' (Err HeardAmbiguous)
      heard_many h = found (read_many rules (weighs rules measure) (length_in plan) s e (omega (arith, q.derivations)))

      pub heard_none : k ≡ 0 → HeardFoundAs rules plan map' measure s sets' totals' (Ok None)
      heard_none h = found (read_none rules (weighs rules measure) (length_in plan) s e (sym q.derivations ∙ h))

      module _ (few : k < 2) (some : k ≡ 0 → ⊥) where
        one : readings_in rules s ≡ 1
        one = omega (arith, q.derivations)

        -- it is listed, and so weighs something if it stands
        weigh : stands measure 0 s ≡ ltb 0 (weighs rules measure s)
        weigh = w.measures.stand s (rw e at (listed_read rules s (omega (arith, one))))

        pub heard_unfit : stands measure 0 s ≡ false → HeardFoundAs rules plan map' measure s sets' totals' (Ok None)
        heard_unfit p = found (read_unfit rules (weighs rules measure) (length_in plan) s e one (sym weigh ∙ p))

        pub heard_asks : PlaceSought rules totals' map' measure (length s) s
        heard_asks = place_asks q (omega arith) (rw e measures.mapped) (rw e measures.weights)

        pub heard_place : stands measure 0 s ≡ true → {d : Tickets} → PlacedAs rules measure s d.first d.weight → HeardFoundAs rules plan map' measure s sets' totals' (Ok (Some d))
        heard_place p {d} h =
            let z : place_in rules measure s ≡ first_ticket (weighs rules measure) (λ t. same t s) (full_in rules (length_in plan))
            = ap (λ (n : ℕ). first_ticket (weighs rules measure) (λ t. same t s) (full_in rules n)) e in
            let fits : first_ticket (weighs rules measure) (λ t. same t s) (full_in rules (length_in plan)) + weighs rules measure s ≤ most
            = omega (arith, h.first_is, z, h.weight_is, h.fits) in
            let q = read_one rules (weighs rules measure) (length_in plan) s e one (sym weigh ∙ p) fits in
            found (q.0, (λ tell. rw (h.first_is ∙ z, h.weight_is) (q.1 tell)), rw (h.first_is ∙ z, h.weight_is) q.2)

-- ---- the whole chain

-- a heard sentence with two or more derivations, by the test of a sentence
many_ambiguous : (rules : List (List ℕ)) (n : ℕ) (l : List (List ℕ))
    → some_of (many_in rules n) l ≡ some_of (λ s. leb 2 (readings_in rules s)) (keep (λ s. eqb (length s) n) l)
many_ambiguous rules n [] = refl
many_ambiguous rules n (s ∷ l) = go (eqb (length s) n) (many_ambiguous rules n l)
  where
    go : (b : Bool) → some_of (many_in rules n) l ≡ some_of (λ s. leb 2 (readings_in rules s)) (keep (λ s. eqb (length s) n) l)
        → ((b && leb 2 (readings_in rules s)) || some_of (many_in rules n) l)
        ≡ some_of (λ s. leb 2 (readings_in rules s)) (cond b (s ∷ keep (λ s. eqb (length s) n) l) (keep (λ s. eqb (length s) n) l))
    go true ih = rw ih
    go false ih = ih

-- the sentences, heard in the voice, that a walk from the number r still tells
abbrev pub to_come : (h : List ℕ) (v : ℕ) (r : ℕ) → List (List ℕ)
to_come h v r = map (record_words h) (keep (makes_heard h v) (numbers_from h r))

-- what is told of them, and whether one of them has two or more derivations
abbrev pub numbers_due : (rules : List (List ℕ)) (u : List ℕ → ℕ) (tell : ℕ × ℕ → ℕ) (h : List ℕ) (n v r : ℕ) → List ℕ
numbers_due rules u tell h n v r = concat_map (numbers_in rules u tell n) (to_come h v r)

abbrev pub many_due : (rules : List (List ℕ)) (h : List ℕ) (n v r : ℕ) → Bool
many_due rules h n v r = some_of (many_in rules n) (to_come h v r)

-- before the record `at`, with the first `count` numbers found
pub record Collecting (rules : List (List ℕ)) (u : List ℕ → ℕ) (tell : ℕ × ℕ → ℕ) (h : List ℕ) (n v : ℕ) (numbers : List ℕ) (at count : ℕ) : Type 0 where
  pub due : take count numbers ++ numbers_due rules u tell h n v at ≡ all_numbers_in rules u tell h n v
  pub many : many_due rules h n v at ≡ ambiguous_in rules h n v
  pub room : count + length (numbers_from h at) ≤ records_of h
  pub long : records_of h ≤ length numbers
  pub low : at ≤ records_of h

pub collect_start : (rules : List (List ℕ)) (u : List ℕ → ℕ) (tell : ℕ × ℕ → ℕ) (h : List ℕ) (n v : ℕ) (numbers : List ℕ) → Accepted h → records_of h ≤ length numbers
    → {at : ℕ} → at ≡ head_of h → Collecting rules u tell h n v numbers at 0
collect_start rules u tell h n v numbers diary long e =
    let all = (chained h diary).many in
    rw e
    (record {
      due = refl;
      many = many_ambiguous rules n (sentences_in h v);
      room = omega (arith, all);
      long = long;
      low = (known h diary).head;
    })

module _ {rules : List (List ℕ)} {u : List ℕ → ℕ} {tell : ℕ × ℕ → ℕ} {h : List ℕ} {n v : ℕ} {numbers : List ℕ} {at count : ℕ}
    (w : Collecting rules u tell h n v numbers at count) (diary : Accepted h) where
  -- at the end
  pub collect_end : at ≡ 0 → CollectedIs rules u tell h n v numbers (Ok count)
  collect_end z =
      let e : to_come h v at ≡ [] = ap (λ (l : List ℕ). map (record_words h) (keep (makes_heard h v) l)) (numbers_zero h diary at z) in (
        sym w.many ∙ ap (some_of (many_in rules n)) e,
        omega (arith, w.room),
        sym (append-nil (take count numbers)) ∙ ap (λ (l : List (List ℕ)). take count numbers ++ concat_map (numbers_in rules u tell n) l) (sym e) ∙ w.due,
      )

  -- a record more
  module _ (more : at ≡ 0 → ⊥) where
    pub collect_inside : Inside h at
    collect_inside = record { low = omega arith; high = w.low }

    step : numbers_from h at ≡ at ∷ numbers_from h (next_at h at)
    step = read_step h at diary collect_inside.low w.low

    fewer : length (numbers_from h at) ≡ suc (length (numbers_from h (next_at h at)))
    fewer = ap length step

    pub collect_less : {next : ℕ} → next ≡ next_at h at → length (numbers_from h next) < length (numbers_from h at)
    collect_less e = rw e (omega (arith, fewer))

    -- there is room for its number
    pub collect_room : count < records_of h
    collect_room = omega (arith, w.room, fewer)

    -- the one after it is a record, or the end
    next_low : next_at h at ≤ records_of h
    next_low = omega (arith, read_next h at diary collect_inside.low w.low, (known h diary).nexts at collect_inside.low w.low)

    -- its sentence is the first to come if it makes it heard
    first : {b : Bool} → b ≡ makes_heard h v at → to_come h v at ≡ cond b (record_words h at ∷ to_come h v (next_at h at)) (to_come h v (next_at h at))
    first {b} e =
        ap (λ (l : List ℕ). map (record_words h) (keep (makes_heard h v) l)) step
        ∙ rw (← e) (go b)
      where
        rest : List ℕ
        rest = keep (makes_heard h v) (numbers_from h (next_at h at))

        go : (b : Bool) → map (record_words h) (cond b (at ∷ rest) rest) ≡ cond b (record_words h at ∷ to_come h v (next_at h at)) (to_come h v (next_at h at))
        go true = refl
        go false = refl

    -- the numbers that it adds stand behind those so far
    behind : (k : List ℕ) → many_due rules h n v at ≡ many_due rules h n v (next_at h at) → numbers_due rules u tell h n v at ≡ k ++ numbers_due rules u tell h n v (next_at h at)
        → length k ≤ 1 → {next count' : ℕ} {numbers' : List ℕ} → next ≡ next_at h at → count' ≡ count + length k
        → take count' numbers' ≡ take count numbers ++ k → length numbers' ≡ length numbers
        → Collecting rules u tell h n v numbers' next count'
    behind k many adds few e c front kept =
        rw e
        (record {
          due = ap (λ (l : List ℕ). l ++ numbers_due rules u tell h n v (next_at h at)) front
              ∙ append_assoc (take count numbers) k (numbers_due rules u tell h n v (next_at h at))
              ∙ ap (λ (l : List ℕ). take count numbers ++ l) (sym adds)
              ∙ w.due;
          many = sym many ∙ w.many;
          room = omega (arith, few, w.room, fewer);
          long = omega (arith, w.long);
          low = next_low;
        })

    -- it makes nothing heard
    pub collect_unheard : {b : Bool} → b ≡ makes_heard h v at → b ≡ false → {next : ℕ} → next ≡ next_at h at → Collecting rules u tell h n v numbers next count
    collect_unheard makes fails e =
        let f = first (sym fails ∙ makes) in
        behind [] (ap (some_of (many_in rules n)) f) (ap (concat_map (numbers_in rules u tell n)) f) (omega arith) e (omega arith)
        (sym (append-nil (take count numbers))) refl

    -- it makes its sentence heard, which was read
    module _ {b : Bool} (makes : b ≡ makes_heard h v at) (passes : b ≡ true) {s : List ℕ} (read : s ≡ sentence_at h at) where
      comes : to_come h v at ≡ s ∷ to_come h v (next_at h at)
      comes =
          first (sym passes ∙ makes)
          ∙ ap (λ (x : List ℕ). x ∷ to_come h v (next_at h at)) (sym (read ∙ read_words h at diary collect_inside.low w.low))

      pub collect_many : (r : Refusal) → Adds rules u n s (Err r) → (numbers' : List ℕ) → CollectedIs rules u tell h n v numbers' (Err r)
      collect_many r adds numbers' = (sym w.many ∙ rw (comes, adds.0), adds.1)

      -- the sentence adds these
      added : (k : List ℕ) → many_in rules n s ≡ false → numbers_in rules u tell n s ≡ k → length k ≤ 1
          → {next count' : ℕ} {numbers' : List ℕ} → next ≡ next_at h at → count' ≡ count + length k
          → take count' numbers' ≡ take count numbers ++ k → length numbers' ≡ length numbers
          → Collecting rules u tell h n v numbers' next count'
      added k single numbers_are few =
          behind k
          (ap (some_of (many_in rules n)) comes ∙ ap (λ (b : Bool). b || many_due rules h n v (next_at h at)) single)
          (ap (concat_map (numbers_in rules u tell n)) comes ∙ ap (λ (l : List ℕ). l ++ numbers_due rules u tell h n v (next_at h at)) numbers_are)
          few

      pub collect_none : Adds rules u n s (Ok None) → {next : ℕ} → next ≡ next_at h at → Collecting rules u tell h n v numbers next count
      collect_none q e = added [] q.0 (q.1 tell) (omega arith) e (omega arith) (sym (append-nil (take count numbers))) refl

      pub collect_one : {d : Tickets} → Adds rules u n s (Ok (Some d)) → {next : ℕ} → next ≡ next_at h at
          → Collecting rules u tell h n v (set numbers count (tell (d.first, d.weight))) next (count + 1)
      collect_one {d} q e =
          let t = tell (d.first, d.weight) in
          added (t ∷ []) q.0 (q.1 tell) (omega arith) e refl (rw (add-one, take-suc-set numbers count t (omega (arith, collect_room, w.long))) refl) (length-set numbers count t)

-- the tables serve the first sentence
pub serves_start : {rules plan map measure : List (List ℕ)} {h : List ℕ} {n : ℕ} {totals : List (List ℕ)} {numbers : List ℕ} → Collects rules plan map measure h n totals numbers
    → (sets : List ℕ) → length sets ≡ 290 → Serves rules plan map measure sets totals
serves_start {n = n} {totals = totals} w sets long =
    let e = w.planned in
    let clean = clean_start w.first n sets totals (omega (arith, w.low)) w.zeros in
    record { first = w.first; ready = rw e w.ready; clean = rw e clean; measures = rw e w.measures }

-- what a sentence adds, and what is collected, once its case is known
pub added_case : {rules plan map measure : List (List ℕ)} {s sets : List ℕ} {totals : List (List ℕ)} {f d : Result (Option Tickets) Refusal} {n : ℕ} → length_in plan ≡ n
    → HeardFoundAs rules plan map measure s sets totals f → f ≡ d → Adds rules (weighs rules measure) n s d
added_case long q e = rw (long, e) at q.adds

pub collect_case : {rules plan measure : List (List ℕ)} {h : List ℕ} {n v : ℕ} {totals : List (List ℕ)} {numbers ends : List ℕ} {c d : Result ℕ Refusal}
    → CollectedAs rules plan measure h n v totals numbers ends c → c ≡ d → CollectedAs rules plan measure h n v totals numbers ends d
collect_case q e = rw e at q

-- the counts and the measure are served to the end
pub serves_still : {rules plan map measure : List (List ℕ)} {sets : List ℕ} {totals : List (List ℕ)} {n : ℕ} → length_in plan ≡ n → Serves rules plan map measure sets totals
    → Still rules plan measure totals n
serves_still {rules} {plan} {measure = measure} {totals = totals} e w =
    let q : Still rules plan measure totals (length_in plan) = record { counted = w.ready.blank.counted; mapped = w.measures.mapped } in
    rw e at q
