-- What each test of *Check bank* says of the bytes, and what an accepted grammar is known to have.
-- Assumes nothing.
use mathlib.Core.Path.{◌≡◌, refl}
use mathlib.Core.Logic.{◌⊎◌, inl, inr}
use mathlib.Core.Bool.{true, false, not, ◌||◌, false≢true}
use mathlib.Core.List.{List}
use Prim.Native.Nat.{ℕ, zero, suc, ◌≤◌, ◌<◌}
use native.Mathlib.Omega.{arith}
use lib.ListN.{length}
use lib.Dec.{ltb, leb, eqb, lit<}
use borrow.Author.Tests.{leb-false, ltb-true, ltb-false, eqb-true, eqb-false, not-false}
use Rattle.lists.specs.Searched.{within, some_below, some_to, times}
use Rattle.lists.proofs.Tests.{within_facts, and_left, and_right, or_left, or_right, below_at, to_at}
use Rattle.answers.proofs.Refusals.{row_clear}
use Rattle.grammar.specs.Layout.{nonterminals, words, rules, start, head_of, kind_of, a_of, b_of, next_of, size_of}
use Rattle.grammar.specs.Chains.{met}
use Rattle.grammar.specs.Refusals.{too_short, out_of_range, wrong_size, fits, misfit, bad_rule, head_above, next_above, bad_link, met_twice, on_no_chain, repeated, Accepted}
use Rattle.grammar.specs.Inner.Checks.{Readable}

-- ---- 2: the ranges

pub record Ranges (g : List ℕ) : Type 0 where
  pub some_nonterminal : 1 ≤ nonterminals g
  pub few_nonterminals : nonterminals g ≤ 32
  pub some_word : 1 ≤ words g
  pub few_words : words g ≤ 255
  pub some_rule : 1 ≤ rules g
  pub few_rules : rules g ≤ 255
  pub start_inside : start g < nonterminals g

module _ (g : List ℕ) where
  pub range_facts : out_of_range g ≡ false → Ranges g
  unfolding out_of_range
  range_facts e =
      let N = not (within 1 32 (nonterminals g)) in
      let W = not (within 1 255 (words g)) in
      let R = not (within 1 255 (rules g)) in
      let S = not (ltb (start g) (nonterminals g)) in
      let e₁ = or_right N (W || (R || S)) e in
      let e₂ = or_right W (R || S) e₁ in
      let n = within_facts 1 32 (nonterminals g) (or_left N (W || (R || S)) e) in
      let w = within_facts 1 255 (words g) (or_left W (R || S) e₁) in
      let r = within_facts 1 255 (rules g) (or_left R S e₂) in
      let s = ltb-true (start g) (nonterminals g) (not-false (ltb (start g) (nonterminals g)) (or_right R S e₂)) in
      record {
        some_nonterminal = n.0;
        few_nonterminals = n.1;
        some_word = w.0;
        few_words = w.1;
        some_rule = r.0;
        few_rules = r.1;
        start_inside = s;
      }

-- ---- 4: the rules

-- a word rule that fits, or a pair rule that fits
pub fits_cases : (N W kind a b : ℕ) → fits N W kind a b ≡ true → ((kind ≡ 0) × (a < W) × (b ≡ 0)) ⊎ ((kind ≡ 1) × (a < N) × (b < N))
unfolding fits
fits_cases N W zero a b e =
    inl (refl, ltb-true a W (and_left (ltb a W) (eqb b 0) e), eqb-true b 0 (and_right (ltb a W) (eqb b 0) e))
fits_cases N W (suc zero) a b e =
    inr (refl, ltb-true a N (and_left (ltb a N) (ltb b N) e), ltb-true b N (and_right (ltb a N) (ltb b N) e))
fits_cases N W (suc (suc kind)) a b e = absurd (false≢true e)

pub rule_fits : (g : List ℕ) → bad_rule g ≡ false → (r : ℕ) → 1 ≤ r → r ≤ rules g
    → fits (nonterminals g) (words g) (kind_of g r) (a_of g r) (b_of g r) ≡ true
unfolding bad_rule
rule_fits g e r h k = not-false _ (to_at (misfit g) (rules g) r e h k)

one_left : (x : ℕ) → x < 2 → (x ≡ 0 → ⊥) → x ≡ 1
one_left zero h n = absurd (n refl)
one_left (suc x) h n = omega arith

-- ---- what an accepted grammar is known to have

pub record Known (g : List ℕ) : Type 0 where
  pub ranges : Ranges g
  pub size : length g ≡ size_of g
  pub fit : bad_rule g ≡ false
  pub heads : (A : ℕ) → A < nonterminals g → head_of g A ≤ rules g
  pub nexts : (r : ℕ) → 1 ≤ r → r ≤ rules g → next_of g r ≤ rules g
  pub once : (r : ℕ) → 1 ≤ r → r ≤ rules g → times r (met g) ≡ 1
  pub apart : repeated g ≡ false

pub known : (g : List ℕ) → Accepted g → Known g
unfolding wrong_size bad_link met_twice on_no_chain
known g ok =
    let c₁ = row_clear 1 _ (too_short g) (lit< tt) ok in
    let c₂ = row_clear 2 _ (out_of_range g) (lit< tt) c₁.1 in
    let c₃ = row_clear 3 _ (wrong_size g) (lit< tt) c₂.1 in
    let c₄ = row_clear 4 _ (bad_rule g) (lit< tt) c₃.1 in
    let c₅ = row_clear 5 _ (bad_link g) (lit< tt) c₄.1 in
    let c₆ = row_clear 6 _ (met_twice g) (lit< tt) c₅.1 in
    let c₇ = row_clear 7 _ (on_no_chain g) (lit< tt) c₆.1 in
    let c₈ = row_clear 8 _ (repeated g) (lit< tt) c₇.1 in
    let hs = some_below (head_above g) (nonterminals g) in
    let ns = some_to (next_above g) (rules g) in
    record {
      ranges = range_facts g c₂.0;
      size = eqb-true (length g) (size_of g) (not-false _ c₃.0);
      fit = c₄.0;
      heads = λ A h. ltb-false (rules g) (head_of g A) (below_at (head_above g) (nonterminals g) A (or_left hs ns c₅.0) h);
      nexts = λ r h k. ltb-false (rules g) (next_of g r) (to_at (next_above g) (rules g) r (or_right hs ns c₅.0) h k);
      once = λ r h k.
          let twice = leb-false 2 (times r (met g)) (to_at (λ q. leb 2 (times q (met g))) (rules g) r c₆.0 h k) in
          let none = eqb-false (times r (met g)) 0 (to_at (λ q. eqb (times q (met g)) 0) (rules g) r c₇.0 h k) in
          one_left (times r (met g)) twice none;
      apart = c₈.0;
    }

-- its walks can read every rule
pub readable : (g : List ℕ) → Known g → Readable g
readable g ok =
    record {
      sized = record { heads = refl; bodies = refl; few = ok.ranges.few_nonterminals; numbered = ok.ranges.few_rules; size = ok.size };
      words_low = ok.ranges.few_words;
      fit = ok.fit;
    }
