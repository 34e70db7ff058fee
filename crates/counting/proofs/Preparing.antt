-- What opening and preparing a grammar and a length answer, as their tests are made one after another: the refusal is the first of the lines
-- 1 to 8, 9 and 10 that applies. And what *Count* answers then.
-- Assumes nothing.
use mathlib.Core.Path.{◌≡◌, refl, sym, ap, ◌∙◌}
use mathlib.Core.Bool.{Bool, true, false, not}
use mathlib.Core.List.{List, [], ◌∷◌}
use Prim.Native.Nat.{ℕ, ◌≤◌, ◌<◌}
use native.Mathlib.Omega.{arith}
use borrow.Author.Tests.{not-true, not-false}
use lib.ListN.{length}
use Rattle.std.specs.Prelude.{Result, Ok, Err, ⊤, is_ok}
use Rattle.lists.proofs.Tests.{within_low, within_high, within_both}
use Rattle.answers.specs.Answer.{Answer, first_that_applies}
use Rattle.answers.specs.Length.{bad_length}
use Rattle.answers.specs.Inner.Refusals.{refusal_number}
use Rattle.answers.specs.declared.refusal.Refusal.{Refusal}
use Rattle.answers.specs.declared.refusal.Refusal.TheVariants.{BadLength, TooManyDerivations}
use Rattle.answers.proofs.Numbers.{number_some}
use Rattle.answers.proofs.Refusals.{row_applies, row_passed, rows_stop, rows_pass, answer_number, answer_accepted, answer_refused}
use Rattle.grammar.specs.Layout.{nonterminals, words, start}
use Rattle.grammar.specs.Chains.{chain}
use Rattle.grammar.specs.Inner.Rules.{start_in}
use Rattle.grammar.specs.Refusals.{grammar_rows, grammar_refusal, Accepted}
use Rattle.grammar.specs.Answers.{check_grammar}
use Rattle.grammar.specs.Inner.Says.{grammar_says}
use Rattle.grammar.specs.Inner.Reading.{ReadAs}
use Rattle.grammar.specs.declared.checks.Sizes.{Sizes}
use Rattle.counting.specs.Totals.{T}
use Rattle.counting.specs.Refusals.{too_large, open_rows, prepared_rows}
use Rattle.lists.specs.Inner.Tables.{Kept}
use Rattle.counting.specs.Inner.Counted.{count_at}
use Rattle.counting.specs.Inner.Letters.{any}
use Rattle.counting.specs.Inner.Filling.{Beside, Filling, FilledAs}
use Rattle.counting.specs.Inner.Preparing.{OpenedAs, Lent, Tabled, PreparedAs}
use Rattle.counting.specs.Answers.{count_of}
use Rattle.counting.specs.Inner.Says.{count_says}
use Rattle.lists.proofs.Tables.{kept_same}
use Rattle.counting.proofs.Asking.{asked_whole}
use Rattle.counting.proofs.Besides.{alone}
use Rattle.counting.proofs.Tabled.{tabled_T, tabled_large}

pub refused_ready : {r : Refusal} → ◌≡◌ {A = Result ⊤ Refusal} (Err r) (Ok tt) → ⊥
refused_ready e = let q = ap is_ok e in cc

-- ---- what reading the grammar says

past_grammar : (g : List ℕ) (n : ℕ) → Accepted g → first_that_applies (open_rows g n) ≡ first_that_applies ((bad_length n, 9) ∷ [])
past_grammar g n ok = rows_pass (grammar_rows g) _ refl ok

module _ {g : List ℕ} {before after : List (List ℕ)} {a : Result Sizes Refusal} (h : ReadAs g before after a) where
  read_number : (grammar_says a).refusal ≡ grammar_refusal g
  unfolding check_grammar
  read_number = ap (λ (x : Answer). x.refusal) h.says ∙ answer_number (grammar_refusal g) (nonterminals g ∷ words g ∷ []) [] []

  read_accepted : {x : Sizes} → a ≡ Ok x → Accepted g
  read_accepted e = sym read_number ∙ rw e

  read_kept : Kept 4 256 before after
  read_kept = record { long = h.long; wide = h.wide; rest = h.rest }

  -- ---- each answer of opening

  module _ {n : ℕ} where
    open_refused : {r : Refusal} → first_that_applies (open_rows g n) ≡ refusal_number r → OpenedAs g n before after (Err r)
    open_refused e = record { refusal = sym e; ready = λ z. absurd (refused_ready z); kept = read_kept }

    pub open_by_grammar : {r : Refusal} → a ≡ Err r → OpenedAs g n before after (Err r)
    open_by_grammar {r} e =
        let k : grammar_refusal g ≡ refusal_number r = sym read_number ∙ rw e in
        open_refused (rows_stop (grammar_rows g) _ (omega (arith, number_some r)) ∙ k)

    module _ {x : Sizes} (e : a ≡ Ok x) where
      pub open_too_short : n < 1 → OpenedAs g n before after (Err BadLength)
      unfolding bad_length
      open_too_short l = open_refused (past_grammar g n (read_accepted e) ∙ row_applies 9 [] (within_low 1 16 n l))

      pub open_too_long : 16 < n → OpenedAs g n before after (Err BadLength)
      unfolding bad_length
      open_too_long l = open_refused (past_grammar g n (read_accepted e) ∙ row_applies 9 [] (within_high 1 16 n l))

      pub open_ready : 1 ≤ n → n ≤ 16 → OpenedAs g n before after (Ok tt)
      unfolding bad_length first_that_applies
      open_ready l u = record {
        refusal = sym (past_grammar g n (read_accepted e) ∙ row_passed 9 [] (within_both 1 16 n l u));
        ready = λ z. record { holds = h.holds (read_accepted e); some = l; short = u };
        kept = read_kept;
      }

-- ---- each answer of preparing

module _ {g : List ℕ} {n : ℕ} {rules₀ rules totals₀ : List (List ℕ)} {p : Result ⊤ Refusal} (lent : Lent rules₀ totals₀) (o : OpenedAs g n rules₀ rules p) where
  pub prepare_by_opening : {r : Refusal} → p ≡ Err r → PreparedAs g n rules₀ rules totals₀ totals₀ (Err r)
  prepare_by_opening {r} e =
      let k : first_that_applies (open_rows g n) ≡ refusal_number r = sym o.refusal ∙ rw e in
      record {
        refusal = sym (rows_stop (open_rows g n) ((too_large g n, 10) ∷ []) (omega (arith, number_some r)) ∙ k);
        ready = λ z. absurd (refused_ready z);
        rules_kept = o.kept;
        totals_kept = kept_same lent.wide;
      }

  module _ (e : p ≡ Ok tt) where
    past_opening : first_that_applies (prepared_rows g n) ≡ first_that_applies ((too_large g n, 10) ∷ [])
    past_opening =
        let k : first_that_applies (open_rows g n) ≡ 0 = sym o.refusal ∙ rw e in
        rows_pass (open_rows g n) ((too_large g n, 10) ∷ []) refl k

    pub prepare_asks : Beside rules any 0 (λ u t. Filling rules n t) totals₀
    prepare_asks =
        let q = o.ready e in
        alone any (λ z. absurd (omega arith))
        (record { table = q.holds.table; some = q.some; short = q.short; long = lent.long; wide = lent.wide; zeros = lent.zeros })

    module _ {totals : List (List ℕ)} {fits : Bool} (f : FilledAs rules (λ w. 1) n totals₀ totals fits) where
      fits_says : fits ≡ not (too_large g n)
      fits_says = f.says ∙ sym (ap not (tabled_large (o.ready e).holds n))

      pub filled_large : fits ≡ false → too_large g n ≡ true
      filled_large z = not-false (too_large g n) (sym fits_says ∙ z)

      pub filled_tabled : fits ≡ true → Tabled g n rules totals
      filled_tabled z = record { holds = (o.ready e).holds; fits = not-true (too_large g n) (sym fits_says ∙ z); counted = f.counted z }

      totals_stay : Kept 17 32 totals₀ totals
      totals_stay = record { long = f.long; wide = f.wide; rest = f.rest }

      pub prepare_too_large : fits ≡ false → PreparedAs g n rules₀ rules totals₀ totals (Err TooManyDerivations)
      prepare_too_large z = record {
        refusal = sym (past_opening ∙ row_applies 10 [] (filled_large z));
        ready = λ z. absurd (refused_ready z);
        rules_kept = o.kept;
        totals_kept = totals_stay;
      }

      pub prepare_ready : fits ≡ true → PreparedAs g n rules₀ rules totals₀ totals (Ok tt)
      unfolding first_that_applies
      prepare_ready z =
          let t = filled_tabled z in
          record { refusal = sym (past_opening ∙ row_passed 10 [] t.fits); ready = λ _. t; rules_kept = o.kept; totals_kept = totals_stay }

-- ---- *Count*

module _ {g : List ℕ} {n : ℕ} {rules₀ rules totals₀ totals : List (List ℕ)} {p : Result ⊤ Refusal} (s : PreparedAs g n rules₀ rules totals₀ totals p) where
  pub count_refused : {r : Refusal} → p ≡ Err r → count_says (Err r) ≡ count_of g n
  unfolding count_of
  count_refused {r} e =
      let k : first_that_applies (prepared_rows g n) ≡ refusal_number r = sym s.refusal ∙ rw e in
      rw k (sym (answer_refused (refusal_number r) (T (chain g) (start g) n ∷ []) [] [] (number_some r)))

  module _ (e : p ≡ Ok tt) {S : ℕ} (f : S ≡ start_in rules) where
    pub count_asks : (17 ≤ length totals) × (S < 32) × (n ≤ 16)
    count_asks =
        let t = s.ready e in
        (t.counted.long, omega (arith, t.holds.table.starts, t.holds.table.few), t.counted.short)

    pub count_given : {x : ℕ} → x ≡ count_at totals S n → count_says (Ok x) ≡ count_of g n
    unfolding count_of
    count_given {x} u =
        let t = s.ready e in
        let h = t.holds in
        let k : first_that_applies (prepared_rows g n) ≡ 0 = sym s.refusal ∙ rw e in
        let S_is : S ≡ start g = f ∙ h.start_is in
        let right = t.counted.right S n (rw f (asked_whole h.table t.counted.some)) in
        let z : x ≡ T (chain g) (start g) n = rw S_is at (u ∙ right ∙ sym (tabled_T h S n (omega (arith, h.table.starts, h.count_is)))) in
        rw z (sym (answer_accepted (T (chain g) (start g) n ∷ []) [] [] k))
