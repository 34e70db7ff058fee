-- 10: it applies exactly if the count of a needed pair doesn't fit. The needed pairs of an accepted grammar lie within it and the length, so they are
-- among those that 10 looked at before document 02's U2; where that test didn't refuse, the list of refusals says what it said.
-- Assumes nothing.
use mathlib.Core.Path.{◌≡◌, refl, sym, ◌∙◌}
use mathlib.Core.Logic.{◌↔◌, ◌≢◌}
use mathlib.Core.Bool.{Bool, true, false, false≢true}
use mathlib.Core.List.{List, [], ◌∷◌, ◌++◌}
use Prim.Native.Nat.{ℕ, ◌≤◌, ◌<◌}
use native.Mathlib.Omega.{arith}
use native.Mathlib.Decide.{ℕ_discrete}
use lib.Dec.{ltb}
use borrow.Author.Tests.{lt-ltb}
use Rattle.lists.specs.Joined.{◌∈◌}
use Rattle.lists.specs.Searched.{some_below}
use Rattle.lists.proofs.Tests.{within_facts, below_some, to_some}
use Rattle.answers.specs.Answer.{Row, first_that_applies}
use Rattle.answers.specs.Length.{bad_length}
use Rattle.answers.proofs.Refusals.{row_applies, row_passed, row_clear, rows_stop, rows_pass, rows_clear}
use Rattle.grammar.specs.Layout.{nonterminals, start, head_of}
use Rattle.grammar.specs.Chains.{chain, pairs_of}
use Rattle.grammar.specs.Refusals.{grammar_rows, Accepted}
use Rattle.grammar.proofs.Acceptance.{known}
use Rattle.grammar.proofs.Walks.{rest_inside, pairs_∈}
use Rattle.counting.specs.Totals.{T}
use Rattle.counting.specs.Needed.{Needed}
use Rattle.counting.specs.Refusals.{most, AllFit, too_large, Ten, open_rows, former_too_large}
use Rattle.counting.proofs.Needed.{needed_some, needed_short, needed_inside, needed_listed, overflows_needed, overflows_fit}

module _ (g : List ℕ) (n : ℕ) where
  pub ten : Ten g n
  unfolding too_large
  ten = record { listed = needed_listed (chain g); applies = overflows_needed (chain g) (λ p w. 1) }

  pub counts_small : (too_large g n ≡ false) ↔ AllFit (chain g) (λ p w. 1) (start g) n
  unfolding too_large
  counts_small = overflows_fit (chain g) (λ p w. 1)

  -- ---- an accepted grammar

  module _ (ok : Accepted g) (some : 1 ≤ n) where
    pairs_inside : (A : ℕ) (x : ℕ × ℕ) → A < nonterminals g → x ∈ pairs_of (chain g A) → (x.0 < nonterminals g) × (x.1 < nonterminals g)
    pairs_inside A x h i = rest_inside g ok (head_of g A) (pairs_∈ (chain g A) i)

    -- the needed pairs lie within it and the length
    pub needed_within : {A m : ℕ} → Needed (chain g) (start g) n A m → (A < nonterminals g) × (1 ≤ m) × (m ≤ n)
    needed_within a = (needed_inside (nonterminals g) (known g ok).ranges.start_inside pairs_inside a, needed_some some a, needed_short a)

    -- so where 10 applies it did before
    pub former_large : too_large g n ≡ true → former_too_large g n ≡ true
    unfolding former_too_large
    former_large e =
        let q = ten.applies.0 e in
        let w = needed_within q.2 in
        to_some (λ m. some_below (λ A. ltb most (T (chain g) A m)) (nonterminals g)) n q.1 w.1 w.2
        (below_some (λ A. ltb most (T (chain g) A q.1)) (nonterminals g) q.0 w.0 (lt-ltb most (T (chain g) q.0 q.1) q.3))

    pub former_fits : former_too_large g n ≡ false → too_large g n ≡ false
    former_fits e = go (too_large g n) refl
      where
        go : (t : Bool) → too_large g n ≡ t → too_large g n ≡ false
        go false z = z
        go true z = absurd (false≢true (sym e ∙ former_large z))

  -- ---- the list of refusals, with the former test in the place of 10's

  module _ (later : List Row) where
    abbrev first : Bool → ℕ
    first t = first_that_applies (open_rows g n ++ ((t, 10) ∷ later))

    pub former_first : first (former_too_large g n) ≢ 10 → first (too_large g n) ≡ first (former_too_large g n)
    unfolding bad_length
    former_first no-ten =
        elim (ℕ_discrete (first_that_applies (open_rows g n)) 0) [
          | no o ↦
              rows_stop (open_rows g n) ((too_large g n, 10) ∷ later) (omega arith)
              ∙ sym (rows_stop (open_rows g n) ((former_too_large g n, 10) ∷ later) (omega arith))
          | yes o ↦ opened o (former_too_large g n) refl
        ]
      where
        opened : first_that_applies (open_rows g n) ≡ 0 → (t : Bool) → former_too_large g n ≡ t → first (too_large g n) ≡ first (former_too_large g n)
        opened o true e = absurd (no-ten (rows_pass (open_rows g n) ((former_too_large g n, 10) ∷ later) refl o ∙ row_applies 10 later e))
        opened o false e =
            let a = rows_clear (grammar_rows g) ((bad_length n, 9) ∷ []) refl o in
            let some = (within_facts 1 16 n (row_clear 9 [] (bad_length n) (omega arith) a.1).0).0 in
            rows_pass (open_rows g n) ((too_large g n, 10) ∷ later) refl o
            ∙ row_passed 10 later (former_fits a.0 some e)
            ∙ sym (rows_pass (open_rows g n) ((former_too_large g n, 10) ∷ later) refl o ∙ row_passed 10 later e)
