-- A row of sets, one store after another, and the turns of the loops that gather pair rules, wanted nonterminals and left lengths.
-- Assumes nothing.
use mathlib.Core.Path.{◌≡◌, refl, ◌∙◌}
use mathlib.Core.Bool.{true, ◌||◌}
use mathlib.Core.Logic.{inl, inr}
use mathlib.Core.List.{List, []}
use Prim.Native.Nat.{ℕ, ◌+◌, ◌-◌, ◌≤◌, ◌<◌}
use native.Mathlib.Omega.{arith}
use native.Mathlib.Decide.{ℕ_discrete}
use borrow.Author.Count.{below_more}
use lib.Dec.{eqb}
use lib.ListN.{length, set, length-set}
use lib.Seq.{get_or-set_same, get_or-set_other}
use Rattle.lists.specs.Inner.Tables.{entry}
use Rattle.sets.specs.Inner.Sets.{member, members}
use Rattle.sets.proofs.Loops.{with_more, with_new, with_only, none_member}
use Rattle.grammar.specs.Inner.Rules.{left_at, right_at, count_in}
use Rattle.charts.specs.Inner.Planning.{at, Sides, WantedAs, CutAs, AllCutAs}

-- ---- a row of sets

module _ (row : List ℕ) (long : length row ≡ 32) (i x : ℕ) (low : i < 32) where
  pub stored_long : length (set row i x) ≡ 32
  stored_long = length-set row i x ∙ long

  pub stored_same : at (set row i x) i ≡ x
  stored_same = get_or-set_same row i x 0 (omega arith)

  -- no member is lost where the set stored has those that stood there
  pub stored_more : ((a : ℕ) → member (at row i) a ≡ true → member x a ≡ true) → (j a : ℕ) → member (at row j) a ≡ true → member (at (set row i x) j) a ≡ true
  stored_more more j a t =
      elim (ℕ_discrete j i) [
        | yes e ↦ rw (e, stored_same) (more a (rw e at t))
        | no n ↦ rw (get_or-set_other row i j x 0 n) t
      ]

-- ---- pair rules

-- places and nonterminals are small
pub sides_low : {rules : List (List ℕ)} {end : ℕ} {row : List ℕ} → Sides rules end row → {i : ℕ} → i < end → (i < 256) × (left_at rules i < 32) × (right_at rules i < 32)
sides_low {rules} s {i} h =
    let l = s.table.pair_low (count_in rules) (omega arith) in
    let f = s.table.few in
    let e = s.all in
    (omega arith, omega (arith, s.table.lefts i (omega arith)), omega (arith, s.table.rights i (omega arith)))

-- ---- wanted nonterminals

pub wants_start : (totals : List (List ℕ)) (m s : ℕ) → members s ≡ [] → WantedAs totals 0 m s
wants_start totals m s e = record { has = λ A h t. absurd (omega arith); only = λ A h t. absurd (none_member s A e h t) }

module _ {totals : List (List ℕ)} {a m s : ℕ} (w : WantedAs totals a m s) where
  pub wants_put : (r : ℕ) → 1 ≤ entry totals m a → ((b : ℕ) → member r b ≡ (member s b || eqb a b)) → WantedAs totals (a + 1) m r
  wants_put r n e =
      record {
        has = below_more (λ A. 1 ≤ entry totals m A → member r A ≡ true) a (λ A h t. with_more s a r e A (w.has A h t)) (λ t. with_new s a r e a refl);
        only = λ A h t.
            elim (with_only s a r e A t) [
              | inl l ↦ w.only A h l
              | inr q ↦ rw (← q) n
            ];
      }

  pub wants_pass : entry totals m a ≡ 0 → WantedAs totals (a + 1) m s
  wants_pass z =
      record {
        has = below_more (λ A. 1 ≤ entry totals m A → member s A ≡ true) a (λ A h t. w.has A h t) (λ t. absurd (omega arith));
        only = w.only;
      }

-- ---- left lengths

-- those below k
pub record CutsTo (wanted : List ℕ) (lefts rights m k s : ℕ) : Type 0 where
  pub has : (j : ℕ) → j < k → (B C : ℕ) → 1 ≤ j → member lefts B ≡ true → member (at wanted j) B ≡ true → member rights C ≡ true
      → member (at wanted (m - j)) C ≡ true → member s j ≡ true
  pub only : (j : ℕ) → j < 32 → member s j ≡ true → (1 ≤ j) × (j < k)

pub cuts_start : (wanted : List ℕ) (lefts rights m s : ℕ) → members s ≡ [] → CutsTo wanted lefts rights m 1 s
cuts_start wanted lefts rights m s e =
    record { has = λ j h B C l. absurd (omega arith); only = λ j h t. absurd (none_member s j e h t) }

module _ {wanted : List ℕ} {lefts rights m k s : ℕ} (w : CutsTo wanted lefts rights m k s) (some : 1 ≤ k) where
  abbrev Here : (r j : ℕ) → Type 0
  Here r j = (B C : ℕ) → 1 ≤ j → member lefts B ≡ true → member (at wanted j) B ≡ true → member rights C ≡ true
      → member (at wanted (m - j)) C ≡ true → member r j ≡ true

  pub cuts_put : (r : ℕ) → ((b : ℕ) → member r b ≡ (member s b || eqb k b)) → CutsTo wanted lefts rights m (k + 1) r
  cuts_put r e =
      record {
        has = below_more (Here r) k (λ j h B C l a b c d. with_more s k r e j (w.has j h B C l a b c d)) (λ B C l a b c d. with_new s k r e k refl);
        only = λ j h t.
            elim (with_only s k r e j t) [
              | inl l ↦ let q = w.only j h l in (q.0, omega (arith, q.1))
              | inr q ↦ (omega arith, omega arith)
            ];
      }

  -- where one of the lengths has no nonterminal of its side
  pub cuts_pass : ((B C : ℕ) → member lefts B ≡ true → member (at wanted k) B ≡ true → member rights C ≡ true → member (at wanted (m - k)) C ≡ true → ⊥)
      → CutsTo wanted lefts rights m (k + 1) s
  cuts_pass none =
      record {
        has = below_more (Here s) k w.has (λ B C l a b c d. absurd (none B C a b c d));
        only = λ j h t. let q = w.only j h t in (q.0, omega (arith, q.1));
      }

pub cuts_end : {wanted : List ℕ} {lefts rights m k s : ℕ} → CutsTo wanted lefts rights m k s → k ≡ m → CutAs wanted lefts rights m s
cuts_end w e =
    record {
      has = λ B C j some less a b c d. w.has j (omega arith) B C some a b c d;
      only = λ j u t. let q = w.only j u t in (q.0, omega (arith, q.1));
    }

-- the row's first place, which no length has, is free for the plan's own length
pub cutting_length : {wanted : List ℕ} {lefts rights n : ℕ} {row : List ℕ} → AllCutAs wanted lefts rights n row → (x : ℕ) → AllCutAs wanted lefts rights n (set row 0 x)
cutting_length {row = row} c x = record {
  long = length-set row 0 x ∙ c.long;
  each = λ m h l. rw (get_or-set_other row 0 m x 0 (λ e. omega arith)) (c.each m h l);
}

pub length_held : {wanted : List ℕ} {lefts rights n : ℕ} {row : List ℕ} → AllCutAs wanted lefts rights n row → (x : ℕ) → at (set row 0 x) 0 ≡ x
length_held {row = row} c x = get_or-set_same row 0 x 0 (omega (arith, c.long))
