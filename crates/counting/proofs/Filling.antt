-- The turns of the loops that fill the table of totals, each as a law over plain numbers and lists. A nonterminal's sum so far, with what its
-- later pair rules add, comes to T; a row is right for the nonterminals passed; the rows passed have what is asked for. The loop over one pair rule's left
-- lengths is in PairSums.antt.
-- Assumes nothing.
use mathlib.Core.Path.{◌≡◌, refl, sym, ap, ◌∙◌}
use mathlib.Core.Bool.{Bool, true, false, not, false≢true}
use mathlib.Core.List.{List, [], ◌∷◌}
use Prim.Native.Nat.{ℕ, suc, ◌+◌, ◌*◌, ◌-◌, ◌≤◌, ◌<◌}
use native.Mathlib.Omega.{arith}
use native.Mathlib.Decide.{ℕ_discrete}
use borrow.Author.Tests.{eq-eqb, ne_eqb}
use lib.ListN.{length, get_or, set, drop, length-set}
use lib.Seq.{drop-cons, drop-length}
use Rattle.lists.specs.Joined.{◌∈◌, sum_over}
use Rattle.lists.specs.Inner.Tables.{put, Wide, Kept}
use Rattle.lists.proofs.Members.{get_or_∈}
use Rattle.lists.proofs.Tables.{put_same, put_row, put_other_row, put_beside, kept_same, kept_then, kept_put}
use Rattle.sets.specs.Inner.Sets.{members}
use Rattle.sets.proofs.Digits.{member_none}
use Rattle.sets.proofs.Loops.{lowest_low, turn_out, first_member, none_out}
use Rattle.grammar.specs.Inner.Rules.{word_at, left_at, right_at, word_from, pair_from, start_in, words_in, pairs_in, ruled}
use Rattle.grammar.proofs.Ruling.{words_ruled, pairs_ruled, word_count_lem, pair_count, word_here, pair_here}
use Rattle.counting.specs.Totals.{total_by}
use Rattle.counting.specs.Needed.{Needed}
use Rattle.counting.specs.Refusals.{most}
use Rattle.counting.specs.Inner.Counted.{count_at, longest_at, Asked}
use Rattle.counting.specs.Inner.Letters.{any, by_letter}
use Rattle.counting.specs.Inner.Needs.{needs_at, NeedsAs, MemberOf, FoundAs}
use Rattle.counting.specs.Inner.Filling.{Filling, FilledAs, part_sum, Halves, Below, Deriving, WordsBy, longer, stored, RowFilling, RowTo, RowFilledAs}
use Rattle.counting.proofs.Totals.{pair_total, by_one, by_more}
use Rattle.counting.proofs.Lettered.{letter_ones}
use Rattle.counting.proofs.Needed.{overflows_needed, overflows_fit}
use Rattle.counting.proofs.Asking.{asked_of}
use Rattle.counting.proofs.PairSums.{halves_asked, part_counts, halves_below}

-- ---- the loop over a nonterminal's pair rules

-- before the pair rule at i of the table: the sum so far, with what the pair rules from there on add, is T(a, m)
pub record Summing (rules : List (List ℕ)) (u : ℕ → ℕ) (a m i sum : ℕ) : Type 0 where
  pub from : pair_from rules a ≤ i
  pub to : i ≤ pair_from rules (a + 1)
  pub due : sum + sum_over (pair_total (λ p. total_by (ruled rules) u) 0 m) (drop (i - pair_from rules a) (pairs_in rules a)) ≡ total_by (ruled rules) u a m

module _ {rules totals : List (List ℕ)} {u : ℕ → ℕ} {m a : ℕ} (d : Deriving rules u totals m a) (more : 2 ≤ m) where
  pub summing_start : {i : ℕ} → i ≡ pair_from rules a → Summing rules u a m i 0
  summing_start {i} e =
      let z : i - pair_from rules a ≡ 0 = omega arith in
      record {
        from = omega arith;
        to = omega (arith, d.table.pair_rises a d.inside);
        due = rw z (omega (arith, rw (pairs_ruled rules a) at (by_more (ruled rules) u a m more)));
      }

  module _ {i sum : ℕ} (w : Summing rules u a m i sum) where
    pub summing_end : pair_from rules (a + 1) ≤ i → sum ≡ total_by (ruled rules) u a m
    summing_end l =
        let z : i - pair_from rules a ≡ length (pairs_in rules a) = omega (arith, pair_count rules a) in
        omega (arith, rw (z, drop-length (pairs_in rules a)) at w.due)

    module _ (l : i < pair_from rules (a + 1)) {B C : ℕ} (e_b : B ≡ left_at rules i) (e_c : C ≡ right_at rules i) where
      abbrev rule : ℕ × ℕ
      rule = get_or (pairs_in rules a) (i - pair_from rules a) (0, 0)

      here : rule ≡ (B, C)
      here =
          let z : pair_from rules a + (i - pair_from rules a) ≡ i = omega arith in
          rw z at (pair_here rules a (i - pair_from rules a) (omega arith)) ∙ rw (e_b, e_c)

      there : i - pair_from rules a < length (pairs_in rules a)
      there = omega (arith, pair_count rules a)

      pub listed : (B, C) ∈ pairs_in rules a
      listed = rw (← here) (get_or_∈ (pairs_in rules a) (i - pair_from rules a) (0, 0) there)

      step : sum + part_sum (count_at totals) B C m (m - 1) + sum_over (pair_total (λ p. total_by (ruled rules) u) 0 m) (drop (i + 1 - pair_from rules a) (pairs_in rules a)) ≡ total_by (ruled rules) u a m
      step =
          let z : i + 1 - pair_from rules a ≡ suc (i - pair_from rules a) = omega arith in
          let added : part_sum (count_at totals) B C m (m - 1) ≡ pair_total (λ p. total_by (ruled rules) u) 0 m rule
          = part_counts d listed {k = m - 1} (omega arith) ∙ rw here in
          rw z (omega (arith, rw (drop-cons (pairs_in rules a) (i - pair_from rules a) (0, 0) there) at w.due, added))

      pub summing_asks : {to : ℕ} → to ≡ m - 1 → Halves totals B C m to
      summing_asks e = halves_asked d listed (omega arith)

      pub summing_added : {v : ℕ} → v ≡ sum + part_sum (count_at totals) B C m (m - 1) → Summing rules u a m (i + 1) v
      summing_added f = record { from = omega arith; to = omega arith; due = omega (arith, step, f) }

      pub summing_past : most < sum + part_sum (count_at totals) B C m (m - 1) → most < total_by (ruled rules) u a m
      summing_past f = omega (arith, step, f)

-- ---- the loop over a nonterminal's words

-- before the word at i of the table: the sum so far, with what the words from there on count for, is what all do; each counts for 255 at most
pub record Wording (rules : List (List ℕ)) (u : ℕ → ℕ) (a i sum : ℕ) : Type 0 where
  pub from : word_from rules a ≤ i
  pub to : i ≤ word_from rules (a + 1)
  pub due : sum + sum_over u (drop (i - word_from rules a) (words_in rules a)) ≡ sum_over u (words_in rules a)
  pub low : sum ≤ 255 * (i - word_from rules a)

module _ {rules : List (List ℕ)} {letter a : ℕ} (d : WordsBy rules letter a) where
  abbrev by : ℕ → ℕ
  by = by_letter rules letter

  pub words_few : (a < 32) × (word_from rules a ≤ word_from rules (a + 1)) × (word_from rules (a + 1) ≤ 255)
  words_few = (omega (arith, d.table.few, d.inside), d.table.word_rises a d.inside, d.table.word_low (a + 1) (omega (arith, d.inside)))

  -- by `any` they count for as many as they are
  pub words_any : letter ≡ any → {from to : ℕ} → from ≡ word_from rules a → to ≡ word_from rules (a + 1) → to - from ≡ sum_over by (words_in rules a)
  words_any e f t = omega (arith, letter_ones rules letter e (words_in rules a), word_count_lem rules a)

  pub wording_start : {i : ℕ} → i ≡ word_from rules a → Wording rules by a i 0
  wording_start {i} e =
      let z : i - word_from rules a ≡ 0 = omega arith in
      record { from = omega arith; to = omega (arith, words_few); due = rw z (omega arith); low = omega arith }

  module _ {i sum : ℕ} (w : Wording rules by a i sum) where
    pub wording_end : word_from rules (a + 1) ≤ i → sum ≡ sum_over by (words_in rules a)
    wording_end l =
        let z : i - word_from rules a ≡ length (words_in rules a) = omega (arith, word_count_lem rules a, w.to) in
        omega (arith, rw (z, drop-length (words_in rules a)) at w.due)

    module _ (l : i < word_from rules (a + 1)) {x v : ℕ} (ex : x ≡ word_at rules i) (ev : v ≡ by x) (small : v ≤ 255) where
      pub wording_room : sum + v ≤ 65280
      wording_room = omega (arith, w.low, w.from, words_few)

      pub wording_step : Wording rules by a (i + 1) (sum + v)
      wording_step =
          let k = i - word_from rules a in
          let s : i + 1 - word_from rules a ≡ suc k = omega (arith, w.from) in
          let z : word_from rules a + k ≡ i = omega (arith, w.from) in
          let there : k < length (words_in rules a) = omega (arith, word_count_lem rules a, w.from) in
          let here : get_or (words_in rules a) k 0 ≡ x = rw z at (word_here rules a k (omega (arith, w.from))) ∙ sym ex in
          let due = rw (drop-cons (words_in rules a) k 0 there, here) at w.due in
          record { from = omega (arith, w.from); to = omega arith; due = rw s (omega (arith, due)); low = omega (arith, w.low, w.from) }

-- and are the total of the length 1
pub words_total : {rules totals : List (List ℕ)} {u : ℕ → ℕ} {m a v : ℕ} → Deriving rules u totals m a → m ≡ 1 → v ≡ sum_over u (words_in rules a) → v ≡ total_by (ruled rules) u a m
words_total {rules} {u = u} {a = a} d e s = rw e (s ∙ sym (by_one (ruled rules) u a ∙ ap (sum_over u) (words_ruled rules a)))

-- ---- what a store leaves

kept_stored : (totals : List (List ℕ)) (a m v : ℕ) → m ≤ 16 → Wide totals 32 → Kept 17 32 totals (stored totals a m v)
kept_stored totals a m v h k = kept_put 0 a (longer (longest_at totals a) m v) (omega arith) (kept_put m a v (omega arith) (kept_same k))

-- the entries once v is stored at a and m
module _ (totals : List (List ℕ)) (m a v : ℕ) (long : 17 ≤ length totals) (wide : Wide totals 32) (ha : a < 32) (h₁ : 1 ≤ m) (h : m ≤ 16) where
  abbrev once : List (List ℕ)
  once = put totals m a v

  once_long : length once ≡ length totals
  once_long = length-set totals m (set (get_or totals m []) a v)

  row_width : (r : ℕ) → r ≤ 16 → a < length (get_or totals r [])
  row_width r l = omega (arith, wide.row r (omega arith))

  high_same : count_at (stored totals a m v) a m ≡ v
  high_same =
      put_other_row once 0 a (longer (longest_at totals a) m v) m a (λ e. omega arith) ∙ put_same totals m a v (omega arith) (row_width m h)

  high_beside : (A : ℕ) → (A ≡ a → ⊥) → count_at (stored totals a m v) A m ≡ count_at totals A m
  high_beside A n =
      put_other_row once 0 a (longer (longest_at totals a) m v) m A (λ e. omega arith) ∙ put_beside totals m a v A (omega arith) n

  low_same : longest_at (stored totals a m v) a ≡ longer (longest_at totals a) m v
  low_same =
      put_same once 0 a (longer (longest_at totals a) m v) (omega (arith, once_long))
      (omega (arith, ap length (put_row totals m a v 0 (λ e. omega arith)), row_width 0 (omega arith)))

  low_other : (A : ℕ) → (A ≡ a → ⊥) → longest_at (stored totals a m v) A ≡ longest_at totals A
  low_other A n =
      put_beside once 0 a (longer (longest_at totals a) m v) A (omega (arith, once_long)) n ∙ put_other_row totals m a v 0 A (λ e. omega arith)

-- ---- the loop over a row's nonterminals

-- a length above the longest is above what was the longest, and there is no derivation of the length m
longer_past : {old m v k : ℕ} → longer old m v < k → k ≤ m → (old < k) × (v ≡ 0)
longer_past {old} {m} {v} {k} l u =
    elim (ℕ_discrete v 0) [
      | yes z ↦ (rw (eq-eqb v 0 z) at l, z)
      | no n ↦ let q : m < k = rw (ne_eqb v 0 n) at l in absurd (omega arith)
    ]

module _ {rules start : List (List ℕ)} {u : ℕ → ℕ} {m set : ℕ} (f : RowFilling rules u start m set) where
  -- at first all members are left
  pub row_start : RowTo rules u start start m set set
  row_start = record {
    right = λ A i o. absurd (false≢true (sym o ∙ i.1));
    fits = λ A i o. absurd (false≢true (sym o ∙ i.1));
    longest = λ A i o l. absurd (false≢true (sym o ∙ i.1));
    only = λ A h o. absurd (omega (arith, f.zeros A));
    risen = λ A k h l. l;
    others = λ r h n. refl;
    kept = kept_same f.wide;
  }

  module _ {totals : List (List ℕ)} {left : ℕ} (w : RowTo rules u start totals m set left) where
    pub row_long : 17 ≤ length totals
    row_long = omega (arith, w.kept.long, f.long)

    -- counts below m are there as they were
    below_still : {X : ℕ} → Below rules u start m X → Below rules u totals m X
    below_still {X} b = record {
      inside = b.inside;
      right = λ k l u. ap (λ (r : List ℕ). get_or r X 0) (w.others k l (λ e. omega arith)) ∙ b.right k l u;
      longest = λ k l u o. b.longest k l u (w.risen X k (omega arith) o);
    }

    pub row_end : members left ≡ [] → RowFilledAs rules u start totals m set true
    row_end e = record {
      row = λ _. record {
        right = λ A i o. w.right A i (none_out left A e i.0);
        fits = λ A i o. w.fits A i (none_out left A e i.0);
        longest = λ A i o. w.longest A i (none_out left A e i.0);
        only = w.only;
        risen = w.risen;
        others = w.others;
        kept = w.kept;
      };
      over = λ z. absurd (false≢true (sym z));
      kept = w.kept;
    }

    module _ {a : ℕ} {rest : List ℕ} (first : members left ≡ a ∷ rest) (among : (A : ℕ) → MemberOf left A → MemberOf set A) where
      chosen : MemberOf set a
      chosen = among a (lowest_low left a first, first_member left a rest first)

      pub row_asks : Deriving rules u totals m a
      row_asks = record {
        table = f.owners.table;
        some = f.some;
        short = f.short;
        inside = f.owners.inside a chosen;
        long = row_long;
        halves = λ x i. let h = f.halves a chosen x i in (below_still h.0, below_still h.1);
      }

      pub row_over : most < total_by (ruled rules) u a m → RowFilledAs rules u start totals m set false
      row_over s = record { row = λ z. absurd (false≢true z); over = λ _. (a, chosen, s); kept = w.kept }

      abbrev wide : Wide totals 32
      wide = w.kept.wide

      module _ (v : ℕ) where
        own : count_at (stored totals a m v) a m ≡ v
        own = high_same totals m a v row_long wide chosen.0 f.some f.short

        beside : (A : ℕ) → (A ≡ a → ⊥) → count_at (stored totals a m v) A m ≡ count_at totals A m
        beside = high_beside totals m a v row_long wide chosen.0 f.some f.short

        past : {A : ℕ} → (A ≡ a → ⊥) → {k : ℕ} → longest_at (stored totals a m v) A < k → longest_at totals A < k
        past {A} n l = rw (low_other totals m a v row_long wide chosen.0 f.some f.short A n) at l

        past_own : {k : ℕ} → longest_at (stored totals a m v) a < k → k ≤ m → (longest_at totals a < k) × (v ≡ 0)
        past_own l u = longer_past (rw (low_same totals m a v row_long wide chosen.0 f.some f.short) at l) u

      pub row_step : (next : ℕ) → rest ≡ members next → {after : List (List ℕ)} → total_by (ruled rules) u a m ≤ most
          → after ≡ stored totals a m (total_by (ruled rules) u a m) → RowTo rules u start after m set next
      row_step next z small s =
          let v = total_by (ruled rules) u a m in
          let turned = rw z at first in
          rw s
          (record {
            right = λ A i o. elim (ℕ_discrete A a) [
              | yes z ↦ rw z (own v)
              | no n ↦ beside v A n ∙ w.right A i (turn_out left a next turned A i.0 o n)
            ];
            fits = λ A i o. elim (ℕ_discrete A a) [
              | yes z ↦ rw z small
              | no n ↦ w.fits A i (turn_out left a next turned A i.0 o n)
            ];
            longest = λ A i o l. elim (ℕ_discrete A a) [
              | yes z ↦ rw z (past_own v (rw z at l) (omega arith)).1
              | no n ↦ w.longest A i (turn_out left a next turned A i.0 o n) (past v n l)
            ];
            only = λ A h o. elim (ℕ_discrete A a) [
              | yes z ↦ rw z chosen
              | no n ↦ w.only A h (rw (beside v A n) at o)
            ];
            risen = λ A k j l. elim (ℕ_discrete A a) [
              | yes z ↦ w.risen A k j (rw z (past_own v (rw z at l) j).0)
              | no n ↦ w.risen A k j (past v n l)
            ];
            others = λ r h n. put_row (put totals m a v) 0 a (longer (longest_at totals a) m v) r (λ z. omega arith) ∙ put_row totals m a v r n ∙ w.others r h n;
            kept = kept_then w.kept (kept_stored totals a m v f.short wide);
          })

-- ---- the loop over the rows

-- before the row m: those below it have their counts where they are asked for, and these fit; nothing else has one, and the others are all 0
pub record Rising (rules : List (List ℕ)) (u : ℕ → ℕ) (start totals : List (List ℕ)) (n m : ℕ) : Type 0 where
  pub some : 1 ≤ m
  pub right : (A k : ℕ) → Asked rules n A k → k < m → count_at totals A k ≡ total_by (ruled rules) u A k
  pub fits : (A k : ℕ) → Asked rules n A k → k < m → total_by (ruled rules) u A k ≤ most
  pub longest : (A k : ℕ) → Asked rules n A k → k < m → longest_at totals A < k → total_by (ruled rules) u A k ≡ 0
  pub only : (A k : ℕ) → A < 32 → 1 ≤ k → k < m → 1 ≤ count_at totals A k → Asked rules n A k
  pub zeros : (k A : ℕ) → m ≤ k → k ≤ 16 → count_at totals A k ≡ 0
  pub kept : Kept 17 32 start totals

module _ {rules start : List (List ℕ)} {n : ℕ} (u : ℕ → ℕ) (f : Filling rules n start) where
  -- at first no row is there
  pub rising_start : Rising rules u start start n 1
  rising_start = record {
    some = omega arith;
    right = λ A k a l. absurd (omega (arith, a.some));
    fits = λ A k a l. absurd (omega (arith, a.some));
    longest = λ A k a l. absurd (omega (arith, a.some));
    only = λ A k h s l. absurd (omega arith);
    zeros = λ k A l u. f.zeros k A u;
    kept = kept_same f.wide;
  }

  module _ {totals : List (List ℕ)} {m : ℕ} (r : Rising rules u start totals n m) where
    module _ (short : m ≤ n) {needs : List ℕ} (found : FoundAs rules n needs) {set : ℕ} (e : set ≡ needs_at needs m) where
      found_here : NeedsAs rules n m set
      found_here = rw e (found.each m r.some short)

      pub rising_asks : RowFilling rules u totals m set
      rising_asks = record {
        owners = record { table = f.table; inside = λ A i. ((found_here A i.0).0 i.1).inside };
        some = r.some;
        short = omega (arith, f.short);
        long = omega (arith, r.kept.long, f.long);
        wide = r.kept.wide;
        zeros = λ A. r.zeros m A (omega arith) (omega (arith, f.short));
        halves = λ A i. halves_below f.table ((found_here A i.0).0 i.1) (λ B k a l. (r.right B k a l, r.longest B k a l));
      }

      pub rising_over : {after : List (List ℕ)} {b : Bool} → b ≡ false → RowFilledAs rules u totals after m set b → FilledAs rules u n start after false
      rising_over z d =
          let q = d.over z in
          let kept = kept_then r.kept d.kept in
          record {
            says = ap not (sym ((overflows_needed (ruled rules) (λ p w. u w)).1 (q.0, m, ((found_here q.0 q.1.0).0 q.1.1).needed, q.2)));
            counted = λ z. absurd (false≢true z);
            long = kept.long;
            wide = kept.wide;
            rest = kept.rest;
          }

      module _ {after : List (List ℕ)} (d : RowTo rules u totals after m set 0) where
        member_here : {A k : ℕ} → Asked rules n A k → k ≡ m → MemberOf set A
        member_here {A} a z =
            let l : A < 32 = omega (arith, a.inside, f.table.few) in
            (l, (found_here A l).1 (rw z at a))

        row_still : (A k : ℕ) → 1 ≤ k → k < m → count_at after A k ≡ count_at totals A k
        row_still A k l u = ap (λ (r : List ℕ). get_or r A 0) (d.others k l (λ z. omega arith))

        pub rising_step : Rising rules u start after n (m + 1)
        rising_step = record {
          some = omega arith;
          right = λ A k a u. elim (ℕ_discrete k m) [
            | yes z ↦ rw z (d.right A (member_here a z) (member_none A))
            | no n ↦ row_still A k a.some (omega arith) ∙ r.right A k a (omega arith)
          ];
          fits = λ A k a u. elim (ℕ_discrete k m) [
            | yes z ↦ rw z (d.fits A (member_here a z) (member_none A))
            | no n ↦ r.fits A k a (omega arith)
          ];
          longest = λ A k a u l. elim (ℕ_discrete k m) [
            | yes z ↦ rw z (d.longest A (member_here a z) (member_none A) (rw z at l))
            | no n ↦ r.longest A k a (omega arith) (d.risen A k (omega arith) l)
          ];
          only = λ A k h s u o. elim (ℕ_discrete k m) [
            | yes z ↦ let i = d.only A h (rw z at o) in rw z ((found_here A h).0 i.1)
            | no n ↦ r.only A k h s (omega arith) (rw (row_still A k s (omega arith)) at o)
          ];
          zeros = λ k A l u. ap (λ (r : List ℕ). get_or r A 0) (d.others k (omega arith) (λ z. omega arith)) ∙ r.zeros k A (omega arith) u;
          kept = kept_then r.kept d.kept;
        }

    pub rising_end : n < m → FilledAs rules u n start totals true
    rising_end h =
        let kept = r.kept in
        let fit : (A k : ℕ) → Needed (ruled rules) (start_in rules) n A k → total_by (ruled rules) u A k ≤ most
        = λ A k a. let q = asked_of f.table f.some a in r.fits A k q (omega (arith, q.short)) in
        record {
          says = ap not (sym ((overflows_fit (ruled rules) (λ p w. u w)).1 fit));
          counted = λ _. record {
            table = f.table;
            some = f.some;
            short = f.short;
            long = omega (arith, kept.long, f.long);
            wide = kept.wide;
            right = λ A k a. r.right A k a (omega (arith, a.short));
            fits = λ A k a. r.fits A k a (omega (arith, a.short));
            longest = λ A k a. r.longest A k a (omega (arith, a.short));
            only = λ A k i s l. r.only A k i s (omega arith);
          };
          long = kept.long;
          wide = kept.wide;
          rest = kept.rest;
        }
