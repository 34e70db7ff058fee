-- What the grammar, the question and the weights are answered, line by line: past 1 to 9 and 22, 10, 24 and 25. The weights' row is none that the rules or
-- their counts are read from, and the totals by it are those by the words' weights. No count is above its total by weight, so where these fit 10 doesn't
-- apply; where one doesn't, or the weights are bad, the counts alone tell whether it does.
-- Assumes nothing.
use mathlib.Core.Path.{◌≡◌, refl, sym, ap, ◌∙◌}
use mathlib.Core.Bool.{Bool, true, false, not}
use mathlib.Core.List.{List, [], ◌∷◌, ◌++◌, append_assoc}
use Prim.Native.Nat.{ℕ, ◌≤◌, ◌<◌}
use native.Mathlib.Omega.{arith}
use lib.ListN.{length, get_or}
use borrow.Author.Tests.{not-true, not-false, lt-ltb, le-ltb}
use Rattle.std.specs.Prelude.{Result, Ok, Err, ⊤}
use Rattle.lists.specs.Inner.Tables.{entry, Wide}
use Rattle.lists.proofs.Tests.{both_ways}
use Rattle.answers.specs.Answer.{Row, first_that_applies}
use Rattle.answers.specs.Length.{bad_length}
use Rattle.answers.specs.Voice.{bad_voice}
use Rattle.answers.specs.Inner.Refusals.{refusal_number}
use Rattle.answers.specs.declared.refusal.Refusal.{Refusal}
use Rattle.answers.specs.declared.refusal.Refusal.TheVariants.{BadVoice}
use Rattle.answers.proofs.Numbers.{number_some}
use Rattle.answers.proofs.Refusals.{row_applies, row_passed, rows_stop, rows_pass, rows_tail, rows_clear}
use Rattle.grammar.specs.Layout.{words, head_of}
use Rattle.grammar.specs.Chains.{Rule, chain}
use Rattle.grammar.specs.Refusals.{grammar_rows, Accepted}
use Rattle.grammar.specs.Inner.Rules.{start_in, ruled, Holds}
use Rattle.grammar.proofs.Kept.{ruled_kept, words_kept, pairs_kept}
use Rattle.grammar.proofs.Walks.{rest_inside, words_∈}
use Rattle.counting.specs.Refusals.{overflows, too_large, open_rows}
use Rattle.counting.specs.Inner.Letters.{weighed, by_letter}
use Rattle.counting.specs.Inner.Filling.{EachCounts, Beside, BesideAs, Filling, FilledAs}
use Rattle.counting.specs.Inner.Preparing.{Opened, OpenedAs}
use Rattle.counting.proofs.Needed.{overflows_needed}
use Rattle.counting.proofs.Totals.{total_within}
use Rattle.counting.proofs.Tabled.{tabled_overflows, tabled_large}
use Rattle.counting.proofs.Preparing.{refused_ready}
use Rattle.charts.specs.Inner.Maps.{weights_row}
use Rattle.sampling.specs.Pattern.{bad_pattern}
use Rattle.weighing.specs.Weights.{weight_of, bad_weights, too_heavy}
use Rattle.weighing.specs.Weighted.{weighed_rows}
use Rattle.weighing.specs.Inner.Tables.{Sets, SetAs, last_rows, Lent, WeighedAs}
use Rattle.weighing.proofs.Weighing.{left_good}
use Rattle.weighing.proofs.Writing.{set_all}
use Rattle.weighing.proofs.Tallying.{tally_asks, tally_size, tally_counts, tally_counted, tally_none, tally_behind}

-- ---- tables that differ in rows that aren't read

-- a table with the same first four rows holds the same rules
holds_kept : {g : List ℕ} {rules after : List (List ℕ)} → 4 ≤ length after → Wide after 256 → ((r : ℕ) → r < 4 → get_or after r [] ≡ get_or rules r []) → Holds g rules → Holds g after
holds_kept {rules = rules} {after} long wide same h =
    let begins = same 3 (omega arith) in
    record {
      table = ruled_kept long wide same h.table;
      count_is = ap (λ (l : List ℕ). get_or l 129 0) begins ∙ h.count_is;
      start_is = ap (λ (l : List ℕ). get_or l 128 0) begins ∙ h.start_is;
      width_is = ap (λ (l : List ℕ). get_or l 130 0) begins ∙ h.width_is;
      words_are = λ a l. words_kept rules after same a ∙ h.words_are a l;
      pairs_are = λ a l. pairs_kept rules after same a ∙ h.pairs_are a l;
    }

-- weights that agree overflow alike
overflows_over : (rules : ℕ → List Rule) (v u : ℕ → ℕ → ℕ) (S n : ℕ) → ((p w : ℕ) → v p w ≡ u p w) → overflows rules v S n ≡ true → overflows rules u S n ≡ true
overflows_over rules v u S n same e =
    let q = (overflows_needed rules v).0 e in
    (overflows_needed rules u).1 (q.0, q.1, q.2, rw (← total_within rules v u 0 q.0 q.1 (λ p w l h. same p w)) q.3)

overflows_same : (rules : ℕ → List Rule) (v u : ℕ → ℕ → ℕ) (S n : ℕ) → ((p w : ℕ) → v p w ≡ u p w) → overflows rules v S n ≡ overflows rules u S n
overflows_same rules v u S n same =
    both_ways (overflows rules v S n) (overflows rules u S n) (overflows_over rules v u S n same) (overflows_over rules u v S n (λ p w. sym (same p w)))

-- ---- the tables, once 1 to 9 are passed

module _ {g : List ℕ} {n : ℕ} {rules₀ rules totals₀ : List (List ℕ)} {p : Result ⊤ Refusal} (l : Lent rules₀ totals₀) (o : OpenedAs g n rules₀ rules p) (e : p ≡ Ok tt) where
  none_opened : first_that_applies (open_rows g n) ≡ 0
  none_opened = sym o.refusal ∙ rw e

  bank : Accepted g
  bank = (rows_clear (grammar_rows g) ((bad_length n, 9) ∷ []) refl none_opened).0

  -- the rows behind the rules are as they were lent
  empty : (r i : ℕ) → 4 ≤ r → entry rules r i ≡ 0
  empty r i h = ap (λ (x : List ℕ). get_or x i 0) (o.kept.rest r h) ∙ l.unruled r i

  pub set_asks : {weights : List ℕ} → bad_weights (words g) weights ≡ false → words g < 256 → Sets weights rules
  set_asks {weights} good low = record {
    long = omega (arith, o.kept.long, l.rules_long);
    wide = o.kept.wide;
    few = omega (arith, left_good (words g) weights good);
    none = λ w. empty 13 w (omega arith);
  }

  module _ {weights : List ℕ} {set : List (List ℕ)} (s : SetAs weights rules set) where
    same : (r : ℕ) → r < 4 → get_or set r [] ≡ get_or rules r []
    same r h = s.others r (λ z. omega arith)

    set_long : 16 ≤ length set
    set_long = omega (arith, s.long, o.kept.long, l.rules_long)

    pub set_opened : Opened g n set
    set_opened =
        let q = o.ready e in
        record { holds = holds_kept (omega (arith, set_long)) s.wide same q.holds; some = q.some; short = q.short }

    module _ (good : bad_weights (words g) weights ≡ false) where
      -- the words are below W, and none of them weighs 0
      each : EachCounts set (by_letter set weighed)
      each A w h i =
          let holds = set_opened.holds in
          let word = rw (holds.words_are A (omega (arith, holds.count_is))) at i in
          let left = left_good (words g) weights good in
          omega (arith, set_all s w, left.1 w (omega (arith, left.0, rest_inside g bank (head_of g A) (words_∈ (chain g A) word))))

      pub tally_sought : Beside set weighed weights_row (λ u t. Filling set n t) totals₀
      tally_sought = tally_asks l set_opened (omega (arith, set_long)) each

-- ---- the lines behind 9

-- what the test of the weights says, by the grammar's words
pub bad_told : (weights : List ℕ) {told bad : Bool} {W W' : ℕ} → told ≡ bad_weights W weights → W ≡ W' → told ≡ bad → bad_weights W' weights ≡ bad
bad_told weights says words_are e = rw words_are at (sym says ∙ e)

-- what the counts alone tell
module _ {rules before after : List (List ℕ)} {n : ℕ} {fits : Bool} (known : ℕ) (f : FilledAs rules (λ w. 1) n before after fits) where
  pub told_large : fits ≡ false → 10 ≡ first_that_applies (last_rows rules n known)
  told_large z = sym (row_applies 10 _ (not-false _ (sym f.says ∙ z)))

  pub told_known : fits ≡ true → known ≡ first_that_applies (last_rows rules n known)
  told_known z = sym (row_passed 10 _ (not-true _ (sym f.says ∙ z)) ∙ row_applies known [] refl)

module _ {g : List ℕ} {n : ℕ} (v : ℕ) (weights : List ℕ) {rules₀ rules totals₀ : List (List ℕ)} {p : Result ⊤ Refusal} (l : Lent rules₀ totals₀) (o : OpenedAs g n rules₀ rules p) where
  abbrev weight_rows : List Row
  weight_rows = (bad_weights (words g) weights, 24) ∷ (too_heavy g n weights, 25) ∷ []

  abbrev later : List Row
  later = (bad_voice v, 22) ∷ (too_large g n, 10) ∷ (bad_pattern (words g) [], 21) ∷ weight_rows

  rows_are : weighed_rows g n v weights ≡ open_rows g n ++ later
  rows_are = append_assoc (open_rows g n) ((bad_voice v, 22) ∷ (too_large g n, 10) ∷ (bad_pattern (words g) [], 21) ∷ []) weight_rows

  weigh_refused : {rules' totals : List (List ℕ)} {r : Refusal} → length totals ≡ length totals₀ → first_that_applies (weighed_rows g n v weights) ≡ refusal_number r
      → WeighedAs g n v weights rules' totals₀ totals (Err r)
  weigh_refused size e = record { refusal = sym e; ready = λ z. absurd (refused_ready z); size = size }

  pub weigh_unopened : {r : Refusal} → p ≡ Err r → WeighedAs g n v weights rules totals₀ totals₀ (Err r)
  weigh_unopened {r} e =
      let k : first_that_applies (open_rows g n) ≡ refusal_number r = sym o.refusal ∙ rw e in
      weigh_refused refl (ap first_that_applies rows_are ∙ rows_stop (open_rows g n) later (omega (arith, number_some r)) ∙ k)

  module _ (e : p ≡ Ok tt) where
    past_opening : first_that_applies (weighed_rows g n v weights) ≡ first_that_applies later
    past_opening = ap first_that_applies rows_are ∙ rows_pass (open_rows g n) later refl (none_opened l o e)

    pub weigh_voice : 15 < v → WeighedAs g n v weights rules totals₀ totals₀ (Err BadVoice)
    weigh_voice h = weigh_refused refl (past_opening ∙ row_applies 22 _ (lt-ltb 15 v h))

    module _ (voiced : v ≤ 15) where
      -- there is no pattern, so 21 doesn't apply
      past_voice : first_that_applies (weighed_rows g n v weights) ≡ first_that_applies ((too_large g n, 10) ∷ weight_rows)
      unfolding bad_pattern
      past_voice =
          past_opening ∙ row_passed 22 _ (le-ltb 15 v voiced)
          ∙ rows_tail ((too_large g n, 10) ∷ []) ((bad_pattern (words g) [], 21) ∷ weight_rows) weight_rows (row_passed 21 weight_rows refl)

      -- 10, or else the one of 24 and 25 that applies, by any table that holds the rules
      refused_last : {rules' totals : List (List ℕ)} {r : Refusal} (known : ℕ) → Holds g rules' → first_that_applies weight_rows ≡ known
          → length totals ≡ length totals₀ → refusal_number r ≡ first_that_applies (last_rows rules' n known) → WeighedAs g n v weights rules' totals₀ totals (Err r)
      refused_last known holds applies size k =
          let same : first_that_applies weight_rows ≡ first_that_applies ((true, known) ∷ []) = applies ∙ sym (row_applies known [] refl) in
          weigh_refused size (past_voice ∙ rows_tail ((too_large g n, 10) ∷ []) weight_rows ((true, known) ∷ []) same ∙ sym (rw (← tabled_large holds n) at k))

      pub weigh_bad : {r : Refusal} → bad_weights (words g) weights ≡ true → refusal_number r ≡ first_that_applies (last_rows rules n 24)
          → WeighedAs g n v weights rules totals₀ totals₀ (Err r)
      weigh_bad z k = refused_last 24 (o.ready e).holds (row_applies 24 _ z) refl k

      module _ (good : bad_weights (words g) weights ≡ false) {set : List (List ℕ)} (s : SetAs weights rules set) {totals : List (List ℕ)} {fits : Bool}
          (t : BesideAs set weighed weights_row (λ u b t. FilledAs set u n b t) totals₀ totals fits) where
        holds : Holds g set
        holds = (set_opened l o e s).holds

        -- the totals of the table's row are those by the words' weights
        fits_says : fits ≡ not (too_heavy g n weights)
        unfolding too_heavy
        fits_says =
            t.own.says
            ∙ ap not
            (overflows_same (ruled set) (λ p w. by_letter set weighed w) (λ p w. weight_of weights w) (start_in set) n (λ p w. set_all s w)
            ∙ sym (tabled_overflows holds (λ p w. weight_of weights w) n))

        pub weigh_heavy : {r : Refusal} → fits ≡ false → refusal_number r ≡ first_that_applies (last_rows set n 25) → WeighedAs g n v weights set totals₀ totals (Err r)
        weigh_heavy z k =
            let heavy = not-false (too_heavy g n weights) (sym fits_says ∙ z) in
            refused_last 25 holds (row_passed 24 ((too_heavy g n weights, 25) ∷ []) good ∙ row_applies 25 [] heavy) (tally_size l t) k

        pub weigh_ready : fits ≡ true → WeighedAs g n v weights set totals₀ totals (Ok tt)
        unfolding first_that_applies
        weigh_ready z =
            let light = not-true (too_heavy g n weights) (sym fits_says ∙ z) in
            let few = not-true (too_large g n) (sym ((tally_counts l t z).says ∙ sym (ap not (tabled_large holds n)))) in
            record {
              refusal = sym (past_voice ∙ row_passed 10 weight_rows few ∙ row_passed 24 ((too_heavy g n weights, 25) ∷ []) good ∙ row_passed 25 [] light);
              ready = λ _. record {
                bank = bank l o e;
                tabled = record { holds = holds; fits = few; counted = tally_counted l t z };
                rules_long = set_long l o e s;
                weights_are = set_all s;
                unlinked = λ r i a b. ap (λ (x : List ℕ). get_or x i 0) (s.others r (λ z. omega arith)) ∙ empty l o e r i a;
                tallied = t.own.counted z;
                good = good;
                light = light;
                none = tally_none l t z;
                behind = tally_behind l t z;
              };
              size = tally_size l t;
            }
