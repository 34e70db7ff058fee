-- What the walk has at hand, and what follows. Of every cut of a known span the table has the product of the halves' totals: if both halves
-- have derivations they are known; else a factor is 0, and the table is nowhere above the total. What is chosen has tickets, so its halves are
-- known, for choice and measure alike.
-- Assumes nothing.
use mathlib.Core.Path.{◌≡◌, refl, sym, ap, ◌∙◌}
use mathlib.Core.Bool.{true}
use mathlib.Core.List.{List, [], ◌++◌, append_assoc}
use Prim.Native.Nat.{ℕ, zero, suc, ◌+◌, ◌*◌, ◌-◌, ◌/◌, ◌%◌, ◌≤◌, ◌<◌}
use native.Mathlib.Omega.{arith}
use native.Mathlib.Nat.{mod-lt, mod-eq_of_lt, mul-le-mul_left, mul-le-mul_right}
use native.Mathlib.Decide.{dec_le}
use lib.Dec.{eqb-suc-zero}
use lib.ListN.{length, get_or}
use Rattle.lists.specs.Joined.{◌∈◌, sum_over}
use Rattle.lists.proofs.Members.{get_or_∈}
use Rattle.lists.proofs.Owners.{place_inside}
use Rattle.lists.specs.Inner.Tickets.{Owns}
use Rattle.grammar.specs.Chains.{words_of, pairs_of}
use Rattle.grammar.specs.Inner.Rules.{left_at, right_at, pair_from, count_in, words_in, pairs_in, ruled}
use Rattle.grammar.proofs.Ruling.{words_ruled, pairs_ruled, pair_count, pair_here}
use Rattle.counting.specs.Totals.{total, T}
use Rattle.counting.specs.Refusals.{most}
use Rattle.counting.specs.Inner.Sentences.{sentences, split_list}
use Rattle.counting.specs.Inner.Counted.{Asked, longest_at}
use Rattle.counting.specs.Inner.Owned.{halves_total, OwnedAs, InHalves, HalvesAs, ChosenAs}
use Rattle.counting.proofs.Totals.{total_one}
use Rattle.counting.proofs.Counts.{total_sum}
use Rattle.counting.proofs.Asking.{asked_left, asked_right, total_dead}
use Rattle.counting.proofs.Walks as walks
use Rattle.counting.proofs.Choosers as loops
use Rattle.charts.specs.Inner.Letters.{letter_at, weight_by}
use Rattle.charts.specs.Inner.Maps.{total_at, Span, Mapped}
use Rattle.walk.specs.Inner.Sought.{Sought}
use Rattle.walk.specs.Inner.Steps.{Placed, Cut, WordSought, LeafAs, HalvesSought, HalvesFoundAs, scaled, Extends, ExtendedAs}

-- ---- a cut of a known span

module _ {rules totals choice measure : List (List ℕ)} {a p m t : ℕ} (s : Sought rules totals choice measure a p m t) where
  pub few : count_in rules ≤ 32
  few = s.tables.counted.table.few

  pub a_few : a < 32
  a_few = omega (arith, few, s.asked.inside)

  pub short : p + m ≤ 16
  short = omega (arith, s.span.inside, s.tables.counted.short)

  -- the halves with the left length k of a pair rule (b, c)
  module _ {b c : ℕ} (i : (b, c) ∈ pairs_in rules a) {k : ℕ} (h : 1 ≤ k) (l : k < m) where
    left_asked : Asked rules s.n b k
    left_asked = asked_left s.tables.counted.table s.asked (b, c) i k h (omega arith)

    right_asked : Asked rules s.n c (m - k)
    right_asked = asked_right s.tables.counted.table s.asked (b, c) i (m - k) (omega arith) (omega arith)

    left_span : Span s.n p k
    left_span = record { some = h; inside = omega (arith, s.span.inside) }

    right_span : Span s.n (p + k) (m - k)
    right_span = record { some = omega arith; inside = omega (arith, s.span.inside) }

    in_ruled : (b, c) ∈ pairs_of (ruled rules a)
    in_ruled = rw (pairs_ruled rules a) i

    module _ {map : List (List ℕ)} (q : Mapped rules totals map s.n s.tables.known) where
      pub left_placed : Placed totals map b p k
      left_placed = record {
        wide = s.tables.counted.wide;
        low = q.low p k left_span;
        inside = omega (arith, few, left_asked.inside);
        early = omega (arith, short);
        short = omega (arith, short);
      }

      pub right_placed : Placed totals map c (p + k) (m - k)
      right_placed = record {
        wide = s.tables.counted.wide;
        low = q.low (p + k) (m - k) right_span;
        inside = omega (arith, few, right_asked.inside);
        early = omega (arith, short);
        short = omega (arith, short);
      }

      -- the table's product is the product of the totals
      pub table_halves : total_at totals map p b k * total_at totals map (p + k) c (m - k) ≡ halves_total (ruled rules) (weight_by rules map) b c p m k
      table_halves =
          let bl = q.below p b k left_asked left_span in
          let br = q.below (p + k) c (m - k) right_asked right_span in
          let v = weight_by rules map in
          elim (dec_le 1 (T (ruled rules) b k)) [
            | yes x ↦
                elim (dec_le 1 (T (ruled rules) c (m - k))) [
                  | yes y ↦
                      let w = s.tables.closed.halves a b c p m k s.asked i s.span h l s.known x y in
                      rw (q.right p b k left_asked left_span w.0, q.right (p + k) c (m - k) right_asked right_span w.1)
                  | no y ↦
                      let d = total_dead (ruled rules) v (p + k) c (m - k) (omega arith) in
                      let z : total_at totals map (p + k) c (m - k) ≡ 0 = omega (arith, br) in
                      rw (z, d) (omega arith)
                ]
            | no x ↦
                let d = total_dead (ruled rules) v p b k (omega arith) in
                let z : total_at totals map p b k ≡ 0 = omega (arith, bl) in
                rw (z, d) (omega arith)
          ]

      pub cut : Cut totals map b p k c (p + k) (m - k)
      cut = record {
        left = left_placed;
        right = right_placed;
        fits = omega (arith, table_halves, loops.halves_within (ruled rules) (weight_by rules map) a b c p m k h l in_ruled, q.fits p a m s.asked s.span);
      }

-- ---- a pair rule and a left length

-- of the pair rules of a those before the place i are taken, of the last one the left lengths from k on are to come; from `end` on they hold
-- nothing
pub record Going (rules choice measure : List (List ℕ)) (a p m t i b c k end before rest : ℕ) : Type 0 where
  pub from : pair_from rules a ≤ i
  pub some : 1 ≤ k
  pub rule : k < end → (b, c) ∈ pairs_in rules a
  pub high : end ≤ m
  pub none : (j : ℕ) → 1 ≤ j → end ≤ j → j < m → T (ruled rules) b j ≡ 0
  pub choosing : loops.Choosing (ruled rules) (weight_by rules choice) (weight_by rules measure) a p m t (i - pair_from rules a) b c k before rest

module _ {rules totals choice measure : List (List ℕ)} {a p m t : ℕ} (s : Sought rules totals choice measure a p m t) (h : 2 ≤ m) where
  -- at first no rule is taken
  pub going_start : {i : ℕ} → i ≡ pair_from rules a → Going rules choice measure a p m t i 0 0 m m 0 t
  going_start {i} e =
      let z : i - pair_from rules a ≡ 0 = omega arith in
      record {
        from = omega arith;
        some = omega arith;
        rule = λ l. absurd (omega arith);
        high = omega arith;
        none = λ j o l u. absurd (omega arith);
        choosing = rw z (loops.choosing_start (ruled rules) (weight_by rules choice) (weight_by rules measure) a p m t 0 0 h);
      }

  module _ {i b c k end before rest : ℕ} (w : Going rules choice measure a p m t i b c k end before rest) where
    -- ---- no left length is to come: the next rule

    module _ (l : end ≤ k) where
      none_left : split_list (sentences (ruled rules)) b c k (m - k) ≡ []
      none_left = loops.list_dead (ruled rules) b c k m (λ j n u. w.none j (omega (arith, w.some)) (omega arith) u)

      -- while t is a ticket there is one
      more : i - pair_from rules a < length (pairs_of (ruled rules a))
      more = loops.choosing_more w.choosing none_left s.inside

      more_in : i - pair_from rules a < pair_from rules (a + 1) - pair_from rules a
      more_in = omega (arith, more, ap length (pairs_ruled rules a), pair_count rules a)

      pub rule_low : i < 255
      rule_low = omega (arith, more_in, w.from, s.tables.counted.table.pair_low (a + 1) (omega (arith, s.asked.inside)))

      module _ {b' c' : ℕ} (eb : b' ≡ left_at rules i) (ec : c' ≡ right_at rules i) where
        next_is : (b', c') ≡ get_or (pairs_in rules a) (i - pair_from rules a) (0, 0)
        next_is =
            let back : pair_from rules a + (i - pair_from rules a) ≡ i = omega (arith, w.from) in
            sym (rw (back, ← eb, ← ec) at (pair_here rules a (i - pair_from rules a) more_in))

        next_in : (b', c') ∈ pairs_in rules a
        next_in = rw next_is (get_or_∈ (pairs_in rules a) (i - pair_from rules a) (0, 0) (omega (arith, pair_count rules a, more_in)))

        pub left_few : b' < 32
        left_few = omega (arith, few s, (left_asked s next_in {k = 1} (omega arith) (omega arith)).inside)

        pub right_few : c' < 32
        right_few = omega (arith, few s, (right_asked s next_in {k = 1} (omega arith) (omega arith)).inside)

        -- The left lengths at which the right half is longer than its longest derivation hold nothing, nor do those at which the left half is.
        pub going_rule : {k' end' lb lc : ℕ} → lc ≡ longest_at totals c' → (1 ≤ k') × (k' ≤ m) × ((j : ℕ) → 1 ≤ j → j < k' → lc < m - j)
            → lb ≡ longest_at totals b' → (end' ≤ m) × ((j : ℕ) → end' ≤ j → j < m → lb < j)
            → Going rules choice measure a p m t (i + 1) b' c' k' end' before rest
        going_rule {k'} elc f elb g =
            let z : k' - 1 + 1 ≡ k' = omega arith in
            let y : i - pair_from rules a + 1 ≡ i + 1 - pair_from rules a = omega (arith, w.from) in
            let skip = loops.list_skip (ruled rules) b' c' m (k' - 1) (omega arith)
            (λ j o u. s.tables.counted.longest c' (m - j) (right_asked s next_in {k = j} o (omega arith)) (omega (arith, f.2 j o (omega arith)))) in
            record {
              from = omega (arith, w.from);
              some = f.0;
              rule = λ l. next_in;
              high = g.0;
              none = λ j o n u. s.tables.counted.longest b' j (left_asked s next_in {k = j} o u) (omega (arith, g.1 j n u));
              choosing = rw y at (loops.choosing_rule w.choosing none_left b' c' k' more (rw (pairs_ruled rules a) next_is) f.1 (rw z at skip));
            }

    -- ---- the left length k

    module _ (l : k < end) where
      pub low : k < m
      low = omega (arith, w.high)

      -- its halves
      module _ {lb lp lm rc rp rm : ℕ} (el : (lb ≡ b) × (lp ≡ p) × (lm ≡ k)) (er : (rc ≡ c) × (rp ≡ p + k) × (rm ≡ m - k)) where
        pub cut_by : Cut totals choice lb lp lm rc rp rm
        cut_by = rw (el.0, el.1, el.2, er.0, er.1, er.2) (cut s (w.rule l) w.some low s.tables.by)

        pub cut_to : Cut totals measure lb lp lm rc rp rm
        cut_to = rw (el.0, el.1, el.2, er.0, er.1, er.2) (cut s (w.rule l) w.some low s.tables.to)

        module _ {x : ℕ} (ex : x ≡ total_at totals choice lp lb lm * total_at totals choice rp rc rm) where
          x_is : x ≡ halves_total (ruled rules) (weight_by rules choice) b c p m k
          x_is = (rw (el.0, el.1, el.2, er.0, er.1, er.2) at ex) ∙ table_halves s (w.rule l) w.some low s.tables.by

          pub going_found : rest < x → ChosenAs (ruled rules) (weight_by rules choice) (weight_by rules measure) a p m t b c k before rest
          going_found n = loops.choosing_found w.choosing low w.some (in_ruled s (w.rule l) w.some low) (omega (arith, x_is))

          module _ {y : ℕ} (ey : y ≡ total_at totals measure lp lb lm * total_at totals measure rp rc rm) where
            y_is : y ≡ halves_total (ruled rules) (weight_by rules measure) b c p m k
            y_is = (rw (el.0, el.1, el.2, er.0, er.1, er.2) at ey) ∙ table_halves s (w.rule l) w.some low s.tables.to

            pub going_room : before + y ≤ most
            going_room = omega (arith, y_is, loops.choosing_room w.choosing low, s.tables.to.fits p a m s.asked s.span)

            pub going_next : x ≤ rest → Going rules choice measure a p m t i b c (k + 1) end (before + y) (rest - x)
            going_next n =
                record {
                  from = w.from;
                  some = omega arith;
                  rule = λ u. w.rule l;
                  high = w.high;
                  none = w.none;
                  choosing = rw (x_is, y_is) (loops.choosing_next w.choosing low (omega (arith, x_is)));
                }

-- ---- a single word

module _ {rules totals choice measure : List (List ℕ)} {a p m t : ℕ} (s : Sought rules totals choice measure a p m t) (h : m ≡ 1) where
  words_total : (map : List (List ℕ)) → total (ruled rules) (weight_by rules map) p a m ≡ sum_over (weight_by rules map p) (words_in rules a)
  words_total map = rw (h, ← words_ruled rules a) (total_one (ruled rules) (weight_by rules map) p a)

  pub word_sought : WordSought rules (letter_at choice p) (letter_at measure p) a t
  word_sought =
      let i : p < s.n = omega (arith, s.span.inside) in
      record {
        table = s.tables.counted.table;
        inside = s.asked.inside;
        linked = s.tables.linked p i;
        weights = s.tables.weights p i;
        measures = s.tables.measures p i;
        ticket = omega (arith, s.inside, words_total choice);
        fits = omega (arith, s.tables.to.fits p a m s.asked s.span, words_total measure);
      }

  pub leaf_owned : {words : List ℕ} {place measured weight offset : ℕ} → LeafAs rules (letter_at choice p) (letter_at measure p) a t words place measured weight offset
      → OwnedAs (ruled rules) (weight_by rules choice) (weight_by rules measure) a p m t words place measured weight offset
  leaf_owned {place = place} {offset = offset} q =
      let k : Owns (weight_by rules choice p) (weight_by rules measure p) (words_of (ruled rules a)) t q.word place offset = rw (words_ruled rules a) q.picked.owns in
      let o = walks.owned_word {rules = ruled rules} {v = weight_by rules choice} {u = weight_by rules measure} {A = a} {p = p} k in
      rw (h, q.written, q.picked.measured_is, q.picked.weight_is) o

-- ---- two halves

pos_both : (x y : ℕ) → 0 < x * y → (0 < x) × (0 < y)
pos_both zero y h = absurd (omega arith)
pos_both (suc x) zero h = absurd (omega arith)
pos_both (suc x) (suc y) h = (omega arith, omega arith)

live : (rules totals : List (List ℕ)) (map : List (List ℕ)) (p A m : ℕ) → 0 < total (ruled rules) (weight_by rules map) p A m → 1 ≤ T (ruled rules) A m
live rules totals map p A m h =
    elim (dec_le 1 (T (ruled rules) A m)) [
      | yes l ↦ l
      | no l ↦ absurd (omega (arith, total_dead (ruled rules) (weight_by rules map) p A m (omega arith)))
    ]

module _ {rules totals choice measure : List (List ℕ)} {a p m t b c k before rest : ℕ} where
  pub halves_sought : Sought rules totals choice measure a p m t → ChosenAs (ruled rules) (weight_by rules choice) (weight_by rules measure) a p m t b c k before rest
      → HalvesSought rules totals choice measure a p m b c k before rest
  halves_sought s q = record { whole = t; sought = s; chosen = q }

module _ {rules choice measure : List (List ℕ)} {a p m t b c k before rest : ℕ} where
  pub halves_owned : {words : List ℕ} {place measured weight offset : ℕ}
      → ChosenAs (ruled rules) (weight_by rules choice) (weight_by rules measure) a p m t b c k before rest
      → HalvesFoundAs rules choice measure p m b c k before rest words place measured weight offset
      → OwnedAs (ruled rules) (weight_by rules choice) (weight_by rules measure) a p m t words place measured weight offset
  halves_owned q h = rw h.place_is (walks.chosen_owned q h.owned)

module _ {rules totals choice measure : List (List ℕ)} {a p m b c k before rest : ℕ} (s : HalvesSought rules totals choice measure a p m b c k before rest) where
  abbrev by : ℕ → ℕ → ℕ
  by = weight_by rules choice

  abbrev to : ℕ → ℕ → ℕ
  to = weight_by rules measure

  rule_in : (b, c) ∈ pairs_in rules a
  rule_in = rw (pairs_ruled rules a) at s.chosen.rule

  pub k_some : 1 ≤ k
  k_some = s.chosen.some

  pub k_short : k < m
  k_short = s.chosen.short

  pub span_short : p + m ≤ 16
  span_short = short s.sought

  inside : InHalves (ruled rules) by b c p m k rest
  inside = walks.chosen_inside s.chosen

  both_known : (s.sought.tables.known p k ≡ true) × (s.sought.tables.known (p + k) (m - k) ≡ true)
  both_known =
      let q = s.sought in
      let z = pos_both (total (ruled rules) by p b k) (total (ruled rules) by (p + k) c (m - k)) (omega (arith, inside.inside)) in
      q.tables.closed.halves a b c p m k q.asked rule_in q.span k_some k_short q.known (live rules totals choice p b k z.0) (live rules totals choice (p + k) c (m - k) z.1)

  -- its halves, as they are made
  module _ {lb lp lm rc rp rm : ℕ} (el : (lb ≡ b) × (lp ≡ p) × (lm ≡ k)) (er : (rc ≡ c) × (rp ≡ p + k) × (rm ≡ m - k)) where
    pub placed_by : Placed totals choice rc rp rm
    placed_by = rw (er.0, er.1, er.2) (right_placed s.sought rule_in k_some k_short s.sought.tables.by)

    pub placed_to : Placed totals measure rc rp rm
    placed_to = rw (er.0, er.1, er.2) (right_placed s.sought rule_in k_some k_short s.sought.tables.to)

    to_is : {z : ℕ} → z ≡ total_at totals measure rp rc rm → z ≡ total (ruled rules) to (p + k) c (m - k)
    to_is e =
        let q = s.sought in
        (rw (er.0, er.1, er.2) at e) ∙ q.tables.to.right (p + k) c (m - k) (right_asked q rule_in k_some k_short) (right_span q rule_in k_some k_short) both_known.1

    module _ {y : ℕ} (e : y ≡ total_at totals choice rp rc rm) where
      by_is : y ≡ total (ruled rules) by (p + k) c (m - k)
      by_is =
          let q = s.sought in
          (rw (er.0, er.1, er.2) at e) ∙ q.tables.by.right (p + k) c (m - k) (right_asked q rule_in k_some k_short) (right_span q rule_in k_some k_short) both_known.1

      pub some_right : 0 < y
      some_right = rw by_is (walks.right_some inside)

      pub left_sought : {d : ℕ} → d ≡ rest / y → Sought rules totals choice measure lb lp lm d
      left_sought f =
          let q = s.sought in
          rw (el.0, el.1, el.2)
          (record {
            n = q.n;
            tables = q.tables;
            asked = left_asked q rule_in k_some k_short;
            span = left_span q rule_in k_some k_short;
            known = both_known.0;
            inside = rw (f, by_is) (walks.left_ticket inside);
          })

      module _ {d : ℕ} (f : d ≡ rest / y) {words : List ℕ} {n measured w o : ℕ} (l : OwnedAs (ruled rules) by to lb lp lm d words n measured w o) where
        left_owned : OwnedAs (ruled rules) by to b p k (rest / total (ruled rules) by (p + k) c (m - k)) words n measured w o
        left_owned = rw (el.0, el.1, el.2, f, by_is) at l

        pub some_left : 0 < w
        some_left = omega (arith, walks.owned_some l)

        pub rest_fits : o * y + rest % y ≤ most
        rest_fits =
            let q = s.sought in
            rw by_is (omega (arith, walks.rest_room inside left_owned, walks.chosen_tickets s.chosen, q.tables.by.fits p a m q.asked q.span))

        module _ {x : ℕ} (g : x ≡ o * y + rest % y) where
          rest_is : x ≡ walks.right_rest inside left_owned
          rest_is = rw by_is at g

          pub right_sought : {d' : ℕ} → d' ≡ x / w → Sought rules totals choice measure rc rp rm d'
          right_sought f' =
              let q = s.sought in
              rw (er.0, er.1, er.2)
              (record {
                n = q.n;
                tables = q.tables;
                asked = right_asked q rule_in k_some k_short;
                span = right_span q rule_in k_some k_short;
                known = both_known.1;
                inside = rw (f', rest_is) (walks.right_ticket inside left_owned);
              })

          module _ {d' : ℕ} (f' : d' ≡ x / w) {words' : List ℕ} {n' measured' w' o' : ℕ} (r : OwnedAs (ruled rules) by to rc rp rm d' words' n' measured' w' o') where
            both_owned : HalvesAs (ruled rules) by to b c p m k rest (words ++ words') (n * total (ruled rules) to (p + k) c (m - k) + measured * n') (measured * measured') (w * w') (o' * w + x % w)
            both_owned = rw rest_is (walks.halves_owned inside left_owned (rw (er.0, er.1, er.2, f', rest_is) at r))

            pub halves_found : {z : ℕ} → z ≡ total_at totals measure rp rc rm
                → HalvesFoundAs rules choice measure p m b c k before rest (words ++ words') (before + n * z + measured * n') (measured * measured') (w * w') (o' * w + x % w)
            halves_found e' =
                record {
                  inner = n * total (ruled rules) to (p + k) c (m - k) + measured * n';
                  place_is = rw (to_is e') (omega arith);
                  owned = both_owned;
                }

-- ---- part after part: the place, what is measured and weighed, and the offset of what is found behind others

scaled_times : (a b after q : ℕ) → q ≤ after → scaled a b after * q ≡ a * b * q
scaled_times a b zero q h = let z : q ≡ 0 = omega arith in rw z (omega arith)
scaled_times a b (suc n) q h = rw (eqb-suc-zero n) refl

module _ (before n u Z L U : ℕ) (part : n + u ≤ L) (held : before + L * Z ≤ U) where
  inner_low : before + (n + u) * Z ≤ U
  inner_low = omega (arith, mul-le-mul_right Z part)

  place_low : (P M : ℕ) → P + M * U ≤ most → P + M * (before + n * Z) + M * u * Z ≤ most
  place_low P M room = omega (arith, mul-le-mul_left M inner_low)

weight_low : (W w L R U : ℕ) → w ≤ L → L * R ≤ U → W * U ≤ most → W * w * R ≤ most
weight_low W w L R U part held room =
    let h : w * R ≤ U = omega (arith, mul-le-mul_right R part) in omega (arith, mul-le-mul_left W h)

offset_low : (O W r w : ℕ) → O < W → r < w → O + W * r < W * w
offset_low O W r w low part = omega (arith, mul-le-mul_left W part)

at_least : (a b : ℕ) → 0 < b → a ≤ a * b
at_least a b h = omega (arith, mul-le-mul_left a h)

-- room for all that the nonterminal a over the m positions from p on holds, behind what is found so far
pub record Room (rules choice measure : List (List ℕ)) (a p m P M W O : ℕ) : Type 0 where
  pub place : P + M * total (ruled rules) (weight_by rules measure) p a m ≤ most
  pub weight : W * total (ruled rules) (weight_by rules choice) p a m ≤ most
  pub offset : O < W

module _ (rules totals choice measure : List (List ℕ)) (p m b c k before rest : ℕ) where
  -- `done` is written; what is found of the halves at hand, put behind it, is what is found of the first ones
  pub record Along (done : List ℕ) (a p' m' b' c' k' before' rest' P M W O : ℕ) : Type 0 where
    pub sought : HalvesSought rules totals choice measure a p' m' b' c' k' before' rest'
    pub room : Room rules choice measure a p' m' P M W O
    pub found : {words : List ℕ} {n u w o : ℕ} → HalvesFoundAs rules choice measure p' m' b' c' k' before' rest' words n u w o
        → HalvesFoundAs rules choice measure p m b c k before rest (done ++ words) (P + M * n) (M * u) (W * w) (O + W * o)

  -- the same of a right half and its ticket
  pub record Behind (done : List ℕ) (a p' m' t P M W O : ℕ) : Type 0 where
    pub sought : Sought rules totals choice measure a p' m' t
    pub room : Room rules choice measure a p' m' P M W O
    pub found : {words : List ℕ} {n u w o : ℕ} → OwnedAs (ruled rules) (weight_by rules choice) (weight_by rules measure) a p' m' t words n u w o
        → HalvesFoundAs rules choice measure p m b c k before rest (done ++ words) (P + M * n) (M * u) (W * w) (O + W * o)

pub along_start : {rules totals choice measure : List (List ℕ)} {a p m b c k before rest : ℕ} → HalvesSought rules totals choice measure a p m b c k before rest
    → Along rules totals choice measure p m b c k before rest [] a p m b c k before rest 0 1 1 0
along_start {rules} {totals} {choice} {measure} {a} {p} {m} s =
    let q = s.sought in
    record {
      sought = s;
      room = record {
        place = omega (arith, q.tables.to.fits p a m q.asked q.span);
        weight = omega (arith, q.tables.by.fits p a m q.asked q.span);
        offset = omega arith;
      };
      found = λ {words} {n} {u} {w} {o} h.
          let e : 0 + 1 * n ≡ n = omega arith in
          let f : 1 * u ≡ u = omega arith in
          let g : 1 * w ≡ w = omega arith in
          let i : 0 + 1 * o ≡ o = omega arith in
          rw (e, f, g, i) h;
    }

-- ---- the left half is found

module _
    {rules totals choice measure : List (List ℕ)} {p m b c k before rest : ℕ} {done : List ℕ} {a p' m' b' c' k' before' rest' P M W O : ℕ}
    (h : Along rules totals choice measure p m b c k before rest done a p' m' b' c' k' before' rest' P M W O)
    {lb lp lm rc rp rm : ℕ} (el : (lb ≡ b') × (lp ≡ p') × (lm ≡ k')) (er : (rc ≡ c') × (rp ≡ p' + k') × (rm ≡ m' - k'))
    {y z d : ℕ} (ey : y ≡ total_at totals choice rp rc rm) (ez : z ≡ total_at totals measure rp rc rm) (ed : d ≡ rest' / y)
    {words : List ℕ} {n u w o : ℕ} (l : OwnedAs (ruled rules) (weight_by rules choice) (weight_by rules measure) lb lp lm d words n u w o)
    {v : ℕ} (ev : v ≡ rest' % y) where
  abbrev s : HalvesSought rules totals choice measure a p' m' b' c' k' before' rest'
  s = h.sought

  abbrev by_total : (p a m : ℕ) → ℕ
  by_total = total (ruled rules) (weight_by rules choice)

  abbrev to_total : (p a m : ℕ) → ℕ
  to_total = total (ruled rules) (weight_by rules measure)

  left_part : n + u ≤ to_total p' b' k'
  left_part = let q = left_owned s el er ey ed l in omega (arith, place_inside q.owns, q.measure_is, total_sum (ruled rules) (weight_by rules measure) p' b' k')

  over : o * y + v ≡ o * y + rest' % y
  over = rw ev refl

  -- what is measured: the left half, with the right one behind each of its parts
  measured_room : P + M * (before' + n * z) + M * u * z ≤ most
  measured_room = rw (to_is s el er ez)
      (place_low before' n u (to_total (p' + k') c' (m' - k')) (to_total p' b' k') (to_total p' a m') left_part (walks.chosen_room s.chosen) P M h.room.place)

  weighed_room : W * w * y ≤ most
  weighed_room = rw (by_is s el er ey)
      (weight_low W w (by_total p' b' k') (by_total (p' + k') c' (m' - k')) (by_total p' a m') (walks.owned_weighs (left_owned s el er ey ed l)) (walks.chosen_tickets s.chosen) h.room.weight)

  weight_room : W * w ≤ most
  weight_room = omega (arith, weighed_room, at_least (W * w) y (some_right s el er ey))

  offset_room : O + W * ((o * y + v) % w) < W * w
  offset_room = offset_low O W ((o * y + v) % w) w h.room.offset (mod-lt (o * y + v) (some_left s el er ey ed l))

  pub extends : Extends P M W O before' n u w z (o * y + v)
  extends =
      let q = s.sought in
      record {
        inner = rw (to_is s el er ez)
            (omega (
              arith,
              inner_low before' n u (to_total (p' + k') c' (m' - k')) (to_total p' b' k') (to_total p' a m') left_part (walks.chosen_room s.chosen),
              q.tables.to.fits p' a m' q.asked q.span,
            ));
        place_fits = omega (arith, measured_room);
        measured_fits = λ i. omega (arith, measured_room, at_least (M * u) z i);
        weight_fits = weight_room;
        offset_fits = omega (arith, offset_room, weight_room);
        some = some_left s el er ey ed l;
      }

  -- then the right half is sought
  module _ {P' M' W' O' t : ℕ} (e : ExtendedAs P M W O before' n u w z (o * y + v) P' M' W' O') (et : t ≡ (o * y + v) / w) where
    right_room : Room rules choice measure rc rp rm P' M' W' O'
    right_room =
        record {
          place = rw (er.0, er.1, er.2, e.place_is, e.measured_is, ← to_is s el er ez) (omega (arith, measured_room, scaled_times M u z z (omega arith)));
          weight = rw (er.0, er.1, er.2, e.weight_is, ← by_is s el er ey) weighed_room;
          offset = rw (e.offset_is, e.weight_is) offset_room;
        }

    right_found : {words' : List ℕ} {n' u' w' o' : ℕ} → OwnedAs (ruled rules) (weight_by rules choice) (weight_by rules measure) rc rp rm t words' n' u' w' o'
        → HalvesFoundAs rules choice measure p m b c k before rest ((done ++ words) ++ words') (P' + M' * n') (M' * u') (W' * w') (O' + W' * o')
    right_found {words'} {n'} {u'} {w'} {o'} r =
        let low : n' + u' ≤ z = rw (to_is s el er ez, ← er.0, ← er.1, ← er.2) (omega (arith, place_inside r.owns, r.measure_is, total_sum (ruled rules) (weight_by rules measure) rp rc rm)) in
        let ep : P' + M' * n' ≡ P + M * (before' + n * z + u * n') = rw (e.place_is, e.measured_is) (omega (arith, scaled_times M u z n' (omega arith))) in
        let em : M' * u' ≡ M * (u * u') = rw e.measured_is (omega (arith, scaled_times M u z u' (omega arith))) in
        let ew : W' * w' ≡ W * (w * w') = rw e.weight_is (omega arith) in
        let eo : O' + W' * o' ≡ O + W * (o' * w + (o * y + v) % w) = rw (e.offset_is, e.weight_is) (omega arith) in
        rw (append_assoc done words words', ep, em, ew, eo) (h.found (halves_found s el er ey ed l over et r ez))

    pub behind : Behind rules totals choice measure p m b c k before rest (done ++ words) rc rp rm t P' M' W' O'
    behind = record { sought = right_sought s el er ey ed l over et; room = right_room; found = right_found }

-- ---- the right half: a word ends the walk, halves of its own are the next

module _
    {rules totals choice measure : List (List ℕ)} {p m b c k before rest : ℕ} {done : List ℕ} {a p' m' t P M W O : ℕ}
    (h : Behind rules totals choice measure p m b c k before rest done a p' m' t P M W O) where
  pub along : {b' c' k' before' rest' : ℕ} → ChosenAs (ruled rules) (weight_by rules choice) (weight_by rules measure) a p' m' t b' c' k' before' rest'
      → Along rules totals choice measure p m b c k before rest done a p' m' b' c' k' before' rest' P M W O
  along q = record { sought = halves_sought h.sought q; room = h.room; found = λ f. h.found (halves_owned q f) }

  module _ {words : List ℕ} {n u w o : ℕ} (r : OwnedAs (ruled rules) (weight_by rules choice) (weight_by rules measure) a p' m' t words n u w o) where
    last_low : n + u ≤ total (ruled rules) (weight_by rules measure) p' a m'
    last_low = omega (arith, place_inside r.owns, r.measure_is, total_sum (ruled rules) (weight_by rules measure) p' a m')

    last_weight : W * w ≤ most
    last_weight = omega (arith, mul-le-mul_left W (walks.owned_weighs r), h.room.weight)

    pub extends_last : Extends P M W O 0 n u w 1 o
    extends_last =
        let q = h.sought in
        let some : 0 < w = omega (arith, walks.owned_some r) in
        record {
          inner = omega (arith, last_low, q.tables.to.fits p' a m' q.asked q.span);
          place_fits = omega (arith, mul-le-mul_left M last_low, h.room.place);
          measured_fits = λ i. omega (arith, mul-le-mul_left M last_low, h.room.place);
          weight_fits = last_weight;
          offset_fits = omega (arith, offset_low O W (o % w) w h.room.offset (mod-lt o some), last_weight);
          some = some;
        }

    pub found_last : {P' M' W' O' : ℕ} → ExtendedAs P M W O 0 n u w 1 o P' M' W' O' → HalvesFoundAs rules choice measure p m b c k before rest (done ++ words) P' M' W' O'
    found_last {P'} {M'} {W'} {O'} e =
        let ep : P' ≡ P + M * n = omega (arith, e.place_is) in
        let eo : O' ≡ O + W * o = e.offset_is ∙ rw (mod-eq_of_lt (walks.owned_some r)) refl in
        rw (ep, e.measured_is, e.weight_is, eo) (h.found r)
