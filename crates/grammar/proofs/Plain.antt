-- Plain grammars: each nonterminal derives sentences of one length, by word rules or by one pair rule; a test that computes decides it. In
-- a plain grammar no two derivations have the same sentence, by induction on the derivations. Every derivation of A has A's length. Two word
-- rules of A with one word stand at one place; a word rule and a pair rule would give A two lengths; and A has one pair rule at most, whose left
-- half has the length of its nonterminal, so that equal sentences part at one point.
-- Assumes nothing.
use mathlib.Core.Path.{◌≡◌, refl, sym, ap, ◌∙◌}
use mathlib.Core.Bool.{Bool, true, false, not, ◌&&◌, ◌||◌}
use mathlib.Core.List.{List, map}
use Prim.Native.Nat.{ℕ, suc, ◌+◌, ◌<◌}
use native.Mathlib.Omega.{arith}
use borrow.Author.Tests.{ltb-true, eqb-true, not-true, not-false}
use lib.Dec.{ltb, eqb}
use lib.ListN.{length}
use Rattle.lists.specs.Joined.{At}
use Rattle.lists.specs.Searched.{some_of, repeats, some_below}
use Rattle.lists.proofs.Members.{At_∈, At_get_or}
use Rattle.lists.proofs.Places.{parted}
use Rattle.lists.proofs.Tests.{and_left, and_right, or_left, or_right, none_∈, below_at, one_place}
use Rattle.grammar.specs.Chains.{Rule, word, pair}
use Rattle.grammar.specs.Trees.{Tree, sentence, Derives, by_word, by_pair}
use Rattle.grammar.proofs.Enumeration.{sentence_size, derives_size, derives_some}

-- ---- the test: over the chain of each nonterminal and a length proposed for it

-- what rules on one chain must differ in: each word has a mark of its own, and all pair rules have one
abbrev pub mark : Rule → ℕ
mark (word w) = suc w
mark (pair B C) = 0

module _ (len : ℕ → ℕ) (N : ℕ) where
  -- the rule derives sentences of another length than n, or names a nonterminal that is not below N
  abbrev pub strays : (n : ℕ) → Rule → Bool
  strays n (word w) = not (eqb n 1)
  strays n (pair B C) = not (ltb B N && ltb C N && eqb n (len B + len C))

  -- some rule strays from the length n, or two have one mark: the same word, or two pair rules
  abbrev pub mixed : (n : ℕ) → List Rule → Bool
  mixed n rs = some_of (strays n) rs || repeats (map mark rs)

-- no nonterminal below N has mixed rules
unfoldable pub plain : (chain : ℕ → List Rule) (len : ℕ → ℕ) (N : ℕ) → Bool
plain chain len N = not (some_below (λ A. mixed len N (len A) (chain A)) N)

module _ (chain : ℕ → List Rule) (len : ℕ → ℕ) (N : ℕ) (passes : plain chain len N ≡ true) where
  -- ---- the rules of A

  module _ {A : ℕ} (inside : A < N) where
    unmixed : mixed len N (len A) (chain A) ≡ false
    unfolding plain
    unmixed = below_at (λ B. mixed len N (len B) (chain B)) N A (not-true _ passes) inside

    none_strays : (i : ℕ) (r : Rule) → At (chain A) i r → strays len N (len A) r ≡ false
    none_strays i r a =
        none_∈ (strays len N (len A)) (chain A) (or_left (some_of (strays len N (len A)) (chain A)) (repeats (map mark (chain A))) unmixed) r
        (At_∈ (chain A) i a)

    word_length : (i w : ℕ) → At (chain A) i (word w) → len A ≡ 1
    word_length i w a = eqb-true (len A) 1 (not-false (eqb (len A) 1) (none_strays i (word w) a))

    pair_length : (i B C : ℕ) → At (chain A) i (pair B C) → (B < N) × (C < N) × (len A ≡ len B + len C)
    pair_length i B C a =
        let both = ltb B N && ltb C N in
        let sum = eqb (len A) (len B + len C) in
        let t = not-false (both && sum) (none_strays i (pair B C) a) in
        let b = and_left both sum t in (
          ltb-true B N (and_left (ltb B N) (ltb C N) b),
          ltb-true C N (and_right (ltb B N) (ltb C N) b),
          eqb-true (len A) (len B + len C) (and_right both sum t),
        )

    same_rule_lem : (i j : ℕ) (r s : Rule) → At (chain A) i r → At (chain A) j s → mark r ≡ mark s → (i ≡ j) × (r ≡ s)
    same_rule_lem i j r s a b h =
        let apart = or_right (some_of (strays len N (len A)) (chain A)) (repeats (map mark (chain A))) unmixed in
        let e = one_place mark (chain A) i j r s apart a b h in
        (e, sym (At_get_or (chain A) j r r (rw e at a)) ∙ At_get_or (chain A) j s r b)

  -- ---- the derivations of A

  -- they have A's length
  pub plain_length : {A m : ℕ} {t : Tree} → A < N → Derives chain A m t → m ≡ len A
  plain_length h (by_word {i = i} {w = w} a e) = e ∙ sym (word_length h i w a)
  plain_length h (by_pair {B = B} {C = C} {i = i} a e l r) =
      let q = pair_length h i B C a in
      omega (arith, plain_length q.0 l, plain_length q.1 r)

  sentence_length : {A m : ℕ} {t : Tree} → A < N → Derives chain A m t → length (sentence t) ≡ len A
  sentence_length {t = t} h d = sentence_size t ∙ derives_size chain d ∙ plain_length h d

  -- they begin with rules of one kind
  one_kind : {A B C k j : ℕ} {l r : Tree} (i i' w : ℕ) → A < N → At (chain A) i (word w) → At (chain A) i' (pair B C)
      → Derives chain B k l → Derives chain C j r → ⊥
  one_kind {B = B} {C = C} i i' w h a b l r =
      let q = pair_length h i' B C b in
      omega (arith, word_length h i w a, plain_length q.0 l, plain_length q.1 r, derives_some chain l, derives_some chain r)

  -- no two have the same sentence
  pub plain_single : {A m m' : ℕ} {t u : Tree} → A < N → Derives chain A m t → Derives chain A m' u → sentence t ≡ sentence u → t ≡ u
  plain_single h (by_word {i = i} {w = w} a e) (by_word {i = j} {w = x} b f) q =
      let z : w ≡ x = cc in
      let p = same_rule_lem h i j (word w) (word x) a b (ap suc z) in
      cc
  plain_single h (by_word {i = i} {w = w} a e) (by_pair {i = j} b f l r) q = absurd (one_kind i j w h a b l r)
  plain_single h (by_pair {i = i} a e l r) (by_word {i = j} {w = w} b f) q = absurd (one_kind j i w h b a l r)
  plain_single h (by_pair {B = B} {C = C} {i = i} {l = t} {r = u} a e l r) (by_pair {B = D} {C = E} {i = j} {l = t'} {r = u'} b f l' r') q =
      let p = same_rule_lem h i j (pair B C) (pair D E) a b refl in
      let e_b : D ≡ B = cc in
      let e_c : E ≡ C = cc in
      let n = pair_length h i B C a in
      let s = parted (len B) (sentence t) (sentence u) (sentence t') (sentence u') (sentence_length n.0 l) (sentence_length n.0 (rw e_b at l')) q in
      let x = plain_single n.0 l (rw e_b at l') s.0 in
      let y = plain_single n.1 r (rw e_c at r') s.1 in
      cc
