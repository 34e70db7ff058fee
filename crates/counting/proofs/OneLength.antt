-- Nonterminals whose derivations all have one length: by word rules alone, or by one pair rule of two such nonterminals. Then T is a product,
-- and 0 at every other length. And a nonterminal that puts one of y words behind what it has, whose T is a power of y.
-- Assumes nothing.
use mathlib.Core.Path.{◌≡◌, refl, ◌∙◌}
use mathlib.Core.List.{List, [], ◌∷◌}
use Prim.Native.Nat.{ℕ, zero, suc, ◌+◌, ◌*◌, ◌-◌, ◌≤◌, ◌<◌}
use native.Mathlib.Omega.{arith}
use native.Mathlib.Decide.{ℕ_discrete}
use lib.ListN.{length}
use Rattle.lists.proofs.Runs.{run_step, run_last, run_none, run_later}
use Rattle.grammar.specs.Chains.{Rule, words_of, pairs_of}
use Rattle.counting.specs.Totals.{T, added_after}
use Rattle.counting.proofs.Totals.{product_at, left_none, right_none, T_one, T_more, total_none}

-- n derivations of A, each with b words
pub record OneLength (chain : ℕ → List Rule) (A b n : ℕ) : Type 0 where
  pub some : 1 ≤ b
  pub here : T chain A b ≡ n
  pub elsewhere : (m : ℕ) → (m ≡ b → ⊥) → T chain A m ≡ 0

module _ (chain : ℕ → List Rule) (A : ℕ) where
  pub words_alone : pairs_of (chain A) ≡ [] → OneLength chain A 1 (length (words_of (chain A)))
  words_alone e = record { some = omega arith; here = T_one chain A; elsewhere = elsewhere }
    where
      elsewhere : (m : ℕ) → (m ≡ 1 → ⊥) → T chain A m ≡ 0
      elsewhere zero h = total_none chain (λ p w. 1) 0 A
      elsewhere (suc zero) h = absurd (h refl)
      elsewhere (suc (suc m)) h = T_more chain A (suc (suc m)) (omega arith) ∙ rw e

  module _ {B C b c x y : ℕ} (no_words : words_of (chain A) ≡ []) (one_pair : pairs_of (chain A) ≡ (B, C) ∷ []) (h_b : OneLength chain B b x) (h_c : OneLength chain C c y) where
    abbrev product : ℕ → ℕ → ℕ
    product m = product_at (λ q. T chain) B C 0 m

    pair_total_lem : (m : ℕ) → 2 ≤ m → T chain A m ≡ added_after chain B C m (m - 1)
    pair_total_lem m h = T_more chain A m h ∙ rw one_pair (omega arith)

    at_sum : T chain A (b + c) ≡ x * y
    at_sum =
        let h = h_b.some in
        let k = h_c.some in
        let z : 1 + (b - 1) ≡ b = omega arith in
        let q : b + c - 1 - (b - 1) ≡ b + c - b = omega arith in
        let r : b + c - b ≡ c = omega arith in
        let skip = rw (z, q) at (run_later (product (b + c)) 1 (b - 1) (b + c - 1) (omega arith)
        (λ i l u. right_none (λ q. T chain) B C 0 (b + c) i (h_c.elsewhere (b + c - i) (λ e. omega arith)))) in
        let here : T chain B b * T chain C (b + c - b) ≡ x * y = rw (r, h_b.here, h_c.here) in
        let dead = run_none (product (b + c)) (b + 1) (b + c - (b + 1)) (λ i l u. left_none (λ q. T chain) B C 0 (b + c) i (h_b.elsewhere i (λ e. omega arith))) in
        omega (arith, pair_total_lem (b + c) (omega arith), skip, run_step (product (b + c)) b (b + c) (omega arith), here, dead)

    not_sum : (m : ℕ) → (m ≡ b + c → ⊥) → T chain A m ≡ 0
    not_sum zero h = total_none chain (λ p w. 1) 0 A
    not_sum (suc zero) h = T_one chain A ∙ rw no_words
    not_sum (suc (suc m)) h = pair_total_lem (suc (suc m)) (omega arith) ∙ run_none (product (suc (suc m))) 1 (suc (suc m) - 1) none
      where
        none : (i : ℕ) → 1 ≤ i → i < 1 + (suc (suc m) - 1) → product (suc (suc m)) i ≡ 0
        none i h₁ l = elim (ℕ_discrete i b) [
          | yes e ↦ right_none (λ q. T chain) B C 0 (suc (suc m)) i (h_c.elsewhere (suc (suc m) - i) (λ q. h (omega arith)))
          | no e ↦ left_none (λ q. T chain) B C 0 (suc (suc m)) i (h_b.elsewhere i e)
        ]

    pub pair_alone : OneLength chain A (b + c) (x * y)
    pair_alone = record { some = omega (arith, h_b.some); here = at_sum; elsewhere = not_sum }

-- ---- a word more with every length

-- where all derivations of the right half have one word, only the left length one below adds
one_right : (rules : ℕ → List Rule) (B C y : ℕ) → OneLength rules C 1 y → (m : ℕ) → 2 ≤ m → added_after rules B C m (m - 1) ≡ T rules B (m - 1) * y
one_right rules B C y one m h =
    let product = product_at (λ q. T rules) B C 0 m in
    let z : 1 + (m - 2) ≡ m - 1 = omega arith in
    let s : m - 2 + 1 ≡ m - 1 = omega arith in
    let r : m - (m - 1) ≡ 1 = omega arith in
    let none = run_none product 1 (m - 2) (λ i l u. right_none (λ q. T rules) B C 0 m i (one.elsewhere (m - i) (λ e. omega arith))) in
    let last : product (m - 1) ≡ T rules B (m - 1) * y = rw (r, one.here) in
    omega (arith, none, rw (z, s) at (run_last product 1 (m - 2)), last)

-- y with the exponent m + 2
abbrev pub power : (y m : ℕ) → ℕ
power y zero = y * y
power y (suc m) = power y m * y

-- S begins with two of A's y words and puts one more behind
module _ (rules : ℕ → List Rule) (S A y : ℕ) (no_words : words_of (rules S) ≡ []) (two_pairs : pairs_of (rules S) ≡ (A, A) ∷ (S, A) ∷ []) (words : OneLength rules A 1 y) where
  T_next : (m : ℕ) → T rules S (suc (suc m)) ≡ T rules A (suc m) * y + T rules S (suc m) * y
  T_next m =
      let e : suc (suc m) - 1 ≡ suc m = omega arith in
      let a = rw e at (one_right rules A A y words (suc (suc m)) (omega arith)) in
      let b = rw e at (one_right rules S A y words (suc (suc m)) (omega arith)) in
      let c = rw (two_pairs, e) at (T_more rules S (suc (suc m)) (omega arith)) in
      omega (arith, a, b, c)

  pub T_power : (m : ℕ) → T rules S (suc (suc m)) ≡ power y m
  T_power zero =
      let none : T rules S 1 ≡ 0 = T_one rules S ∙ rw no_words in
      T_next 0 ∙ rw (words.here, none) (omega arith)
  T_power (suc m) =
      T_next (suc m) ∙ rw (words.elsewhere (suc (suc m)) (λ e. omega arith), T_power m) (omega arith)
