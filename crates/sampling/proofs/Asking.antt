-- What the grammar and the question are answered, line by line of 1 to 9, 22, 10 and 21.
-- Assumes nothing.
use mathlib.Core.Path.{◌≡◌, refl, sym, ◌∙◌}
use mathlib.Core.Bool.{true, false}
use mathlib.Core.List.{List, [], ◌∷◌}
use Prim.Native.Nat.{ℕ, ◌≤◌, ◌<◌}
use native.Mathlib.Omega.{arith}
use borrow.Author.Tests.{lt-ltb, le-ltb}
use Rattle.std.specs.Prelude.{Result, Ok, Err, ⊤}
use Rattle.lists.specs.Inner.Tables.{Kept}
use Rattle.answers.specs.Answer.{Row, first_that_applies}
use Rattle.answers.specs.Voice.{bad_voice}
use Rattle.answers.specs.Inner.Refusals.{refusal_number}
use Rattle.answers.specs.declared.refusal.Refusal.{Refusal}
use Rattle.answers.specs.declared.refusal.Refusal.TheVariants.{BadVoice, TooManyDerivations, BadPattern}
use Rattle.answers.proofs.Numbers.{number_some}
use Rattle.answers.proofs.Refusals.{row_applies, row_passed, rows_stop, rows_pass}
use Rattle.grammar.specs.Layout.{words}
use Rattle.counting.specs.Refusals.{too_large, open_rows}
use Rattle.counting.specs.Inner.Preparing.{OpenedAs, Tabled}
use Rattle.counting.proofs.Preparing.{refused_ready}
use Rattle.sampling.specs.Pattern.{bad_pattern}
use Rattle.sampling.specs.Question.{Question}
use Rattle.sampling.specs.Answers.{asked_rows}
use Rattle.sampling.specs.Inner.Preparing.{AskedAs}

-- the tables as they were lent, and as they are: opening writes the rules, filling the counts
module _ {g : List ℕ} (a : Question) {rules₀ rules totals₀ : List (List ℕ)} {p : Result ⊤ Refusal} (o : OpenedAs g a.length rules₀ rules p) (lent : Kept 17 32 totals₀ totals₀) where
  -- the lines behind 9
  abbrev later : List Row
  later = (bad_voice a.voice, 22) ∷ (too_large g a.length, 10) ∷ (bad_pattern (words g) a.pattern, 21) ∷ []

  ask_refused : {totals : List (List ℕ)} {r : Refusal} → Kept 17 32 totals₀ totals → first_that_applies (asked_rows g a) ≡ refusal_number r
      → AskedAs g a rules₀ rules totals₀ totals (Err r)
  ask_refused k e = record { refusal = sym e; ready = λ z. absurd (refused_ready z); rules_kept = o.kept; totals_kept = k }

  pub ask_unopened : {r : Refusal} → p ≡ Err r → AskedAs g a rules₀ rules totals₀ totals₀ (Err r)
  ask_unopened {r = r} e =
      let k : first_that_applies (open_rows g a.length) ≡ refusal_number r = sym o.refusal ∙ rw e in
      ask_refused lent (rows_stop (open_rows g a.length) later (omega (arith, number_some r)) ∙ k)

  module _ (e : p ≡ Ok tt) where
    past_opening : first_that_applies (asked_rows g a) ≡ first_that_applies later
    past_opening = let k : first_that_applies (open_rows g a.length) ≡ 0 = sym o.refusal ∙ rw e in rows_pass (open_rows g a.length) later refl k

    pub ask_voice : 15 < a.voice → AskedAs g a rules₀ rules totals₀ totals₀ (Err BadVoice)
    ask_voice l = ask_refused lent (past_opening ∙ row_applies 22 _ (lt-ltb 15 a.voice l))

    module _ (voiced : a.voice ≤ 15) {totals : List (List ℕ)} (k : Kept 17 32 totals₀ totals) where
      past_voice : first_that_applies (asked_rows g a) ≡ first_that_applies ((too_large g a.length, 10) ∷ (bad_pattern (words g) a.pattern, 21) ∷ [])
      past_voice = past_opening ∙ row_passed 22 _ (le-ltb 15 a.voice voiced)

      pub ask_large : too_large g a.length ≡ true → AskedAs g a rules₀ rules totals₀ totals (Err TooManyDerivations)
      ask_large l = ask_refused k (past_voice ∙ row_applies 10 _ l)

      module _ (t : Tabled g a.length rules totals) where
        past_counts : first_that_applies (asked_rows g a) ≡ first_that_applies ((bad_pattern (words g) a.pattern, 21) ∷ [])
        past_counts = past_voice ∙ row_passed 10 _ t.fits

        pub ask_pattern : bad_pattern (words g) a.pattern ≡ true → AskedAs g a rules₀ rules totals₀ totals (Err BadPattern)
        ask_pattern l = ask_refused k (past_counts ∙ row_applies 21 [] l)

        pub ask_ready : bad_pattern (words g) a.pattern ≡ false → AskedAs g a rules₀ rules totals₀ totals (Ok tt)
        unfolding first_that_applies
        ask_ready l = record { refusal = sym (past_counts ∙ row_passed 21 [] l); ready = λ _. t; rules_kept = o.kept; totals_kept = k }

-- what was answered, once its case is known
module _ {g : List ℕ} {a : Question} {rules₀ rules totals₀ totals : List (List ℕ)} {p : Result ⊤ Refusal} (k : AskedAs g a rules₀ rules totals₀ totals p) where
  pub asked_none : p ≡ Ok tt → first_that_applies (asked_rows g a) ≡ 0
  asked_none e = sym k.refusal ∙ rw e

  pub asked_refused : (r : Refusal) → p ≡ Err r → refusal_number r ≡ first_that_applies (asked_rows g a)
  asked_refused r e = sym (sym k.refusal ∙ rw e)
