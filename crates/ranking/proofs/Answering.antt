-- What *Give* and *Number* answer once 1 to 10 are passed, line by line of what is left of their refusals; and that the table of a grammar's
-- rules so answers for the grammar.
-- Assumes nothing.
use mathlib.Core.Path.{◌≡◌, refl, sym, ap, ◌∙◌}
use mathlib.Core.List.{List, [], ◌∷◌, ◌++◌}
use Prim.Native.Nat.{ℕ, ◌≤◌, ◌<◌}
use native.Mathlib.Omega.{arith}
use native.Mathlib.Decide.{dec_lt}
use lib.ListN.{length, drop}
use Rattle.std.specs.Prelude.{Result, Ok, Err, ⊤}
use lib.Dec.{ltb, leb, eqb, lit<}
use borrow.Author.Tests.{le-leb, lt-leb, lt-ltb, le-ltb, eq-eqb, ne_eqb}
use Rattle.answers.specs.Answer.{Row, first_that_applies, given, refused}
use Rattle.answers.specs.Inner.Refusals.{refusal_number}
use Rattle.answers.specs.Inner.Results.{result_number}
use Rattle.answers.specs.declared.refusal.Refusal.{Refusal}
use Rattle.answers.proofs.Numbers.{number_some}
use Rattle.answers.proofs.Refusals.{row_applies, row_passed, rows_stop, rows_pass, answer_accepted, answer_refused}
use Rattle.grammar.specs.Inner.Rules.{Holds}
use Rattle.counting.specs.Refusals.{prepared_rows}
use Rattle.counting.specs.Inner.Preparing.{PreparedAs}
use Rattle.ranking.specs.Answers.{total_of, entry_of, unrank_of, readings_of, number_of, rank_of}
use Rattle.ranking.specs.Inner.Inside.{total_in, entry_in, readings_in, number_in, unrank_in, rank_in}
use Rattle.ranking.proofs.Inside.{total_is, entry_is, readings_are, number_is}

-- ---- *Give*, by the table

module _ (rules : List (List ℕ)) (n d : ℕ) (out : List ℕ) where
  give_refused : (k : ℕ) → first_that_applies ((leb (total_in rules n) d, 16) ∷ (ltb (length out) n, 20) ∷ []) ≡ k → 0 < k
      → refused k 1 out ≡ unrank_in rules n d out
  unfolding unrank_in
  give_refused k e h = rw e (sym (answer_refused k (total_in rules n ∷ []) out (entry_in rules n d ++ drop n out) h))

  pub give_beyond : total_in rules n ≤ d → refused 16 1 out ≡ unrank_in rules n d out
  give_beyond h = give_refused 16 (row_applies 16 _ (le-leb (total_in rules n) d h)) (lit< tt)

  pub give_short : d < total_in rules n → length out < n → refused 20 1 out ≡ unrank_in rules n d out
  give_short h l = give_refused 20 (row_passed 16 _ (lt-leb (total_in rules n) d h) ∙ row_applies 20 _ (lt-ltb (length out) n l)) (lit< tt)

  pub give_written : d < total_in rules n → n ≤ length out → (total : ℕ) (words : List ℕ) → total ≡ total_in rules n → words ≡ entry_in rules n d ++ drop n out
      → given (total ∷ []) words ≡ unrank_in rules n d out
  unfolding unrank_in first_that_applies
  give_written h l total words e f =
      rw (e, f)
      (sym (answer_accepted (total_in rules n ∷ []) out (entry_in rules n d ++ drop n out)
      (row_passed 16 ((ltb (length out) n, 20) ∷ []) (lt-leb (total_in rules n) d h) ∙ row_passed 20 [] (le-ltb (length out) n l))))

-- ---- *Number*, by the table

module _ (rules : List (List ℕ)) (s : List ℕ) where
  abbrev figures : List ℕ
  figures = number_in rules s ∷ total_in rules (length s) ∷ readings_in rules s ∷ []

  pub rank_none : readings_in rules s ≡ 0 → refused 17 3 [] ≡ rank_in rules s
  unfolding rank_in
  rank_none e = rw (row_applies 17 [] (eq-eqb (readings_in rules s) 0 e)) (sym (answer_refused 17 figures [] [] (lit< tt)))

  pub rank_found : {d total k : ℕ} → 1 ≤ k → k ≡ readings_in rules s → d ≡ number_in rules s → total ≡ total_in rules (length s)
      → given (d ∷ total ∷ k ∷ []) [] ≡ rank_in rules s
  unfolding rank_in first_that_applies
  rank_found some i e f =
      rw (e, f, i) (sym (answer_accepted figures [] [] (row_passed 17 [] (ne_eqb (readings_in rules s) 0 (λ z. omega arith)))))

-- ---- for the grammar

-- what preparing answers, by its case
module _ {g : List ℕ} {n : ℕ} {rules₀ rules totals₀ totals : List (List ℕ)} {p : Result ⊤ Refusal} (q : PreparedAs g n rules₀ rules totals₀ totals p) where
  pub prepared_none : p ≡ Ok tt → first_that_applies (prepared_rows g n) ≡ 0
  prepared_none e = sym q.refusal ∙ ap result_number e

  pub prepared_refused : (r : Refusal) → p ≡ Err r → refusal_number r ≡ first_that_applies (prepared_rows g n)
  prepared_refused r e = sym (ap result_number e) ∙ q.refusal

-- none of 1 to 10 applies: what is left of a call's refusals
pub left_of_lem : (g : List ℕ) (n : ℕ) (rows : List Row) → first_that_applies (prepared_rows g n) ≡ 0 → first_that_applies (prepared_rows g n ++ rows) ≡ first_that_applies rows
left_of_lem g n rows e = rows_pass (prepared_rows g n) rows refl e

-- one of 1 to 10 applies
pub refused_of : (g : List ℕ) (n : ℕ) (r : Refusal) (rows : List Row) → refusal_number r ≡ first_that_applies (prepared_rows g n)
    → first_that_applies (prepared_rows g n ++ rows) ≡ refusal_number r
refused_of g n r rows e = rows_stop (prepared_rows g n) rows (omega (arith, number_some r)) ∙ sym e

module _ (g : List ℕ) (n d : ℕ) (out : List ℕ) where
  pub give_unprepared : (r : Refusal) → refusal_number r ≡ first_that_applies (prepared_rows g n)
      → refused (refusal_number r) 1 out ≡ unrank_of g n d out
  unfolding unrank_of
  give_unprepared r e = rw (refused_of g n r _ e) (sym (answer_refused (refusal_number r) (total_of g n ∷ []) out (entry_of g n d ++ drop n out) (number_some r)))

  pub give_tabled : {rules : List (List ℕ)} → first_that_applies (prepared_rows g n) ≡ 0 → Holds g rules → unrank_in rules n d out ≡ unrank_of g n d out
  unfolding unrank_of unrank_in
  give_tabled {rules} none h =
      let t = total_is h n in
      let rest : List Row = (leb (total_of g n) d, 16) ∷ (ltb (length out) n, 20) ∷ [] in
      elim (dec_lt d (total_of g n)) [
        | yes l ↦ rw (left_of_lem g n rest none, t, entry_is h n d l)
        | no l ↦
            let e : first_that_applies rest ≡ 16 = row_applies 16 _ (le-leb (total_of g n) d (omega arith)) in
            rw (left_of_lem g n rest none, t, e)
            (answer_refused 16 (total_of g n ∷ []) out (entry_in rules n d ++ drop n out) (lit< tt)
            ∙ sym (answer_refused 16 (total_of g n ∷ []) out (entry_of g n d ++ drop n out) (lit< tt)))
      ]

module _ (g s : List ℕ) where
  pub rank_unprepared : (r : Refusal) → refusal_number r ≡ first_that_applies (prepared_rows g (length s))
      → refused (refusal_number r) 3 [] ≡ rank_of g s
  unfolding rank_of
  rank_unprepared r e =
      rw (refused_of g (length s) r _ e) (sym (answer_refused (refusal_number r) (number_of g s ∷ total_of g (length s) ∷ readings_of g s ∷ []) [] [] (number_some r)))

  pub rank_tabled : {rules : List (List ℕ)} → first_that_applies (prepared_rows g (length s)) ≡ 0 → Holds g rules → rank_in rules s ≡ rank_of g s
  unfolding rank_of rank_in
  rank_tabled none h =
      rw (left_of_lem g (length s) ((eqb (readings_of g s) 0, 17) ∷ []) none, total_is h (length s), readings_are h s, number_is h s)
