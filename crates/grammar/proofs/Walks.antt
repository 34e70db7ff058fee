-- The walks of an accepted grammar: each chain's walk ends, the walks together meet every rule and none twice, and so what a walk
-- yields can be said step by step, with no bound on its length. What a step tells needs less: that each rule can be read.
-- The argument: R rules, none of them met twice, make walks of at most R steps, so none of the R + 1 allowed is missing.
-- Assumes nothing.
use mathlib.Core.Path.{◌≡◌, refl, sym, ap, ◌∙◌}
use mathlib.Core.Logic.{◌⊎◌, inl, inr, ⊎_elim}
use mathlib.Core.Bool.{Bool, true, false}
use mathlib.Core.List.Memᴰ
use mathlib.Core.List.{List, [], ◌∷◌, map}
use Prim.Native.Nat.{ℕ, ◌+◌, ◌*◌, ◌≤◌, ◌<◌}
use native.Mathlib.Omega.{arith}
use lib.ListN.{length}
use borrow.Author.Tests.{eq-eqb}
use Rattle.lists.specs.Joined.{◌∈◌, up_from}
use Rattle.lists.specs.Linked.{is_number}
use Rattle.lists.proofs.Members.{concat_∈, up_from_∈, ∈_up_from}
use Rattle.lists.proofs.Searches.{times_few, ∈_times, times_distinct, times_concat}
use Rattle.lists.proofs.Linked.{zero_none, above_none, inside_one, one_inside, met_none, met_inside, met_free, met_walk}
use Rattle.grammar.specs.declared.cursor.Step.{Step}
use Rattle.grammar.specs.declared.cursor.Step.TheVariants.{Word, Pair, End}
use Rattle.grammar.specs.Layout.{byte_at, nonterminals, words, rules, head_of, kind_of, a_of, b_of, next_of}
use Rattle.grammar.specs.Chains.{Rule, word, pair, rule_of, numbers_from, chain_numbers, met, rest, words_of, pairs_of, Chained}
use Rattle.grammar.specs.Refusals.{Accepted}
use Rattle.grammar.specs.Inner.Checks.{Readable}
use Rattle.grammar.specs.Inner.Steps.{handed, step_at, yielded}
use Rattle.grammar.proofs.Acceptance.{Known, known, readable, fits_cases, rule_fits}

-- ---- of an accepted grammar

module _ (g : List ℕ) (ok : Known g) where
  -- a chain meets no rule twice, so it is over within its bound
  chain_over : (A : ℕ) → A < nonterminals g → length (chain_numbers g A) < rules g + 1
  chain_over A h =
      let few = times_few 1 (rules g) (chain_numbers g A)
      (λ x m. let q = met_inside (next_of g) (rules g) (rules g + 1) (head_of g A) m in omega arith)
      (λ r m. let q = up_from_∈ 1 (rules g) m in
      omega (
        arith,
        ok.once r (omega arith) (omega arith),
        times_concat r (chain_numbers g) A (up_from 0 (nonterminals g)) (∈_up_from A 0 (nonterminals g) (omega arith) (omega arith)),
      )) in
      omega arith

  -- each rule is on a chain, so the bound can be left out of the step from it
  pub numbers_step : (r : ℕ) → 1 ≤ r → r ≤ rules g → numbers_from g (rules g + 1) r ≡ r ∷ numbers_from g (rules g + 1) (next_of g r)
  numbers_step r h k =
      let m : r ∈ met g = ∈_times r (met g) (omega (arith, ok.once r h k)) in
      let q = concat_∈ (chain_numbers g) (up_from 0 (nonterminals g)) m in
      let inside = up_from_∈ 0 (nonterminals g) q.1 in
      met_free (next_of g) (rules g) (rules g + 1) (head_of g q.0) r (chain_over q.0 (omega arith)) q.2

pub chained : (g : List ℕ) → Accepted g → Chained g
chained g ok =
    let k = known g ok in
    record {
      over = λ A h. met_walk (next_of g) (rules g) k.nexts (rules g + 1) (head_of g A) (k.heads A h) (chain_over g k A h);
      once = times_distinct (met g)
          (λ r m.
          let q = concat_∈ (chain_numbers g) (up_from 0 (nonterminals g)) m in
          let i = met_inside (next_of g) (rules g) (rules g + 1) (head_of g q.0) q.2 in
          omega (arith, k.once r i.0 i.1));
      all = λ r h j. ∈_times r (met g) (omega (arith, k.once r h j));
    }

-- ---- a step of a walk

-- there is no rule of another kind than the two
pub rule_kind : (g : List ℕ) → Readable g → (r : ℕ) → 1 ≤ r → r ≤ rules g
    → ((kind_of g r ≡ 0) × (a_of g r < words g) × (b_of g r ≡ 0)) ⊎ ((kind_of g r ≡ 1) × (a_of g r < nonterminals g) × (b_of g r < nonterminals g))
rule_kind g ok r h k = fits_cases (nonterminals g) (words g) (kind_of g r) (a_of g r) (b_of g r) (rule_fits g ok.fit r h k)

pub rule_word : (g : List ℕ) (r : ℕ) → kind_of g r ≡ 0 → rule_of g r ≡ word (a_of g r)
rule_word g r e = rw (eq-eqb (kind_of g r) 0 e)

pub rule_pair : (g : List ℕ) (r : ℕ) → kind_of g r ≡ 1 → rule_of g r ≡ pair (a_of g r) (b_of g r)
rule_pair g r e = rw e

-- the step at the number r, as the code comes to it
module _ (g : List ℕ) (r : ℕ) where
  step_none : is_number (rules g) r ≡ false → End ≡ step_at g r
  unfolding step_at
  step_none e = rw e

  pub step_zero : r ≡ 0 → End ≡ step_at g r
  step_zero e = step_none (zero_none (rules g) r e)

  pub step_above : rules g < r → End ≡ step_at g r
  step_above h = step_none (above_none (rules g) r h)

  -- at a rule, whose bytes are found with n for N
  module _ (h : 1 ≤ r) (k : r ≤ rules g) {n : ℕ} (en : n ≡ nonterminals g) where
    pub step_word : byte_at g (n + 4 * r) ≡ 0 → Word (byte_at g (n + 4 * r + 1)) (record { at = byte_at g (n + 4 * r + 3) }) ≡ step_at g r
    unfolding step_at
    step_word e = rw (en, inside_one (rules g) r h k, rule_word g r (rw en at e))

    pub step_pair : byte_at g (n + 4 * r) ≡ 1
        → Pair (byte_at g (n + 4 * r + 1)) (byte_at g (n + 4 * r + 2)) (record { at = byte_at g (n + 4 * r + 3) }) ≡ step_at g r
    unfolding step_at
    step_pair e = rw (en, inside_one (rules g) r h k, rule_pair g r (rw en at e))

    pub step_other : Readable g → (byte_at g (n + 4 * r) ≡ 0 → ⊥) → (byte_at g (n + 4 * r) ≡ 1 → ⊥) → ⊥
    step_other ok a b = ⊎_elim (λ q. a (rw en q.0)) (λ q. b (rw en q.0)) (rule_kind g ok r h k)

-- r is the number of the rule x, and next stands at the rule after it
pub record Met (g : List ℕ) (r : ℕ) (x : Rule) (next : ℕ) : Type 0 where
  pub some : 1 ≤ r
  pub inside : r ≤ rules g
  pub rule : rule_of g r ≡ x
  pub link : next ≡ next_of g r

-- what a step at r tells
abbrev pub Stepped : (g : List ℕ) (r : ℕ) → Step → Type 0
Stepped g r (Word w next) = Met g r (word w) next.at
Stepped g r (Pair B C next) = Met g r (pair B C) next.at
Stepped g r End = is_number (rules g) r ≡ false

handed_stepped : (g : List ℕ) (r : ℕ) (has : Bool) (x : Rule) → is_number (rules g) r ≡ has → rule_of g r ≡ x → Stepped g r (handed has x (next_of g r))
handed_stepped g r true (word w) e f = let q = one_inside (rules g) r e in record { some = q.0; inside = q.1; rule = f; link = refl }
handed_stepped g r true (pair B C) e f = let q = one_inside (rules g) r e in record { some = q.0; inside = q.1; rule = f; link = refl }
handed_stepped g r false x e f = e

pub step_met : (g : List ℕ) (r : ℕ) {s t : Step} → s ≡ step_at g r → s ≡ t → Stepped g r t
unfolding step_at
step_met g r {s} {t} e f =
    let z : handed (is_number (rules g) r) (rule_of g r) (next_of g r) ≡ t = sym e ∙ f in
    rw z at (handed_stepped g r (is_number (rules g) r) (rule_of g r) refl refl)

-- ---- what a walk yields: the laws that crates above use, and no byte

stepped_yields : (g : List ℕ) → Known g → (r : ℕ) (s : Step) → Stepped g r s → rest g r ≡ yielded (rest g) s
unfolding rest
stepped_yields g ok r (Word w next) m = ap (map (rule_of g)) (numbers_step g ok r m.some m.inside) ∙ rw (m.rule, m.link)
stepped_yields g ok r (Pair B C next) m = ap (map (rule_of g)) (numbers_step g ok r m.some m.inside) ∙ rw (m.rule, m.link)
stepped_yields g ok r End e = ap (map (rule_of g)) (met_none (next_of g) (rules g) (rules g + 1) r e)

-- of an accepted grammar: the rule of the step, and what the walk after it yields
pub step_yields : (g : List ℕ) → Accepted g → (r : ℕ) {s : Step} → s ≡ step_at g r → rest g r ≡ yielded (rest g) s
step_yields g ok r {s} e = stepped_yields g (known g ok) r s (step_met g r e refl)

-- the words of a rule are below W, its nonterminals below N
abbrev pub Inside : List ℕ → Rule → Type 0
Inside g (word w) = w < words g
Inside g (pair B C) = (B < nonterminals g) × (C < nonterminals g)

rule_inside : (g : List ℕ) → Readable g → (r : ℕ) → 1 ≤ r → r ≤ rules g → Inside g (rule_of g r)
rule_inside g ok r h k =
    elim (rule_kind g ok r h k) [
      | inl q ↦ rw (rule_word g r q.0) q.1
      | inr q ↦ rw (rule_pair g r q.0) (q.1, q.2)
    ]

pub readable_inside : (g : List ℕ) → Readable g → (r : ℕ) {x : Rule} → x ∈ rest g r → Inside g x
unfolding rest
readable_inside g ok r m =
    let q = Memᴰ.of_map (rule_of g) (numbers_from g (rules g + 1) r) m in
    let i = met_inside (next_of g) (rules g) (rules g + 1) r q.1 in
    rw (← q.2) (rule_inside g ok q.0 i.0 i.1)

pub rest_inside : (g : List ℕ) → Accepted g → (r : ℕ) {x : Rule} → x ∈ rest g r → Inside g x
rest_inside g ok = readable_inside g (readable g (known g ok))

-- a word, or a pair of nonterminals, is that of a rule
pub words_∈ : {x : ℕ} (rs : List Rule) → x ∈ words_of rs → word x ∈ rs
words_∈ [] i = absurd (Memᴰ.not-nil i)
words_∈ (word w ∷ rs) (Memᴰ.head e) = Memᴰ.head (ap word e)
words_∈ (word w ∷ rs) (Memᴰ.tail i) = Memᴰ.tail (words_∈ rs i)
words_∈ (pair B C ∷ rs) i = Memᴰ.tail (words_∈ rs i)

pub pairs_∈ : {x : ℕ × ℕ} (rs : List Rule) → x ∈ pairs_of rs → pair x.0 x.1 ∈ rs
pairs_∈ [] i = absurd (Memᴰ.not-nil i)
pairs_∈ (word w ∷ rs) i = Memᴰ.tail (pairs_∈ rs i)
pairs_∈ (pair B C ∷ rs) (Memᴰ.head e) = Memᴰ.head (ap (λ (x : ℕ × ℕ). pair x.0 x.1) e)
pairs_∈ (pair B C ∷ rs) (Memᴰ.tail i) = Memᴰ.tail (pairs_∈ rs i)
