-- Totals and sentences depend on a chain only by the words and the pair rules of its nonterminals: two chains that have the same of both
-- have the same totals, needed pairs and sentences. By induction on the length. So what is asked of a grammar may be asked of its table of rules.
-- Assumes nothing.
use mathlib.Core.Path.{◌≡◌, refl, sym, ap, ◌∙◌}
use mathlib.Core.Bool.{true}
use mathlib.Core.List.{List, [], ◌∷◌, map}
use Prim.Native.Nat.{ℕ, zero, suc, ◌+◌, ◌-◌, ◌≤◌, ◌<◌}
use native.Mathlib.Omega.{arith}
use Rattle.lists.specs.Joined.{◌∈◌, sum_over, concat_map}
use Rattle.lists.proofs.Sums.{sum_ext, concat_ext}
use Rattle.lists.proofs.Tests.{both_ways}
use Rattle.grammar.specs.Layout.{nonterminals, start}
use Rattle.grammar.specs.Chains.{Rule, chain, words_of, pairs_of}
use Rattle.grammar.specs.Inner.Rules.{start_in, ruled, Holds}
use Rattle.grammar.proofs.Ruling.{words_ruled, pairs_ruled, pair_inside}
use Rattle.counting.specs.Totals.{total, T}
use Rattle.counting.specs.Inner.Sentences.{sentences, split_list}
use Rattle.counting.specs.Needed.{Needed, whole, left, right}
use Rattle.counting.specs.Refusals.{overflows, too_large}
use Rattle.counting.specs.Inner.Counted.{Asked}
use Rattle.counting.proofs.Totals.{pair_total, pair_moved, total_none, total_one, total_more}
use Rattle.counting.proofs.Sentences.{sentences_none, sentences_one, sentences_more}
use Rattle.counting.proofs.Needed.{needed_inside, overflows_needed}
use Rattle.counting.proofs.Asking.{asked_of}

-- two chains have the same words and the same pair rules, and these lead nowhere else
pub record SameRules (c d : ℕ → List Rule) (N : ℕ) : Type 0 where
  pub words : (A : ℕ) → A < N → words_of (c A) ≡ words_of (d A)
  pub pairs : (A : ℕ) → A < N → pairs_of (c A) ≡ pairs_of (d A)
  pub inside : (A : ℕ) (x : ℕ × ℕ) → A < N → x ∈ pairs_of (c A) → (x.0 < N) × (x.1 < N)

-- halves that are equal make equal sentences

list_same : (f h : ℕ → ℕ → List (List ℕ)) (B C k j : ℕ) → 1 ≤ k → ((i : ℕ) → i < k + j → (f B i ≡ h B i) × (f C i ≡ h C i))
    → split_list f B C k j ≡ split_list h B C k j
list_same f h B C k zero l e = refl
list_same f h B C k (suc j) l e =
    rw ((e k (omega arith)).0, (e (suc j) (omega arith)).1, list_same f h B C (suc k) j (omega arith) (λ i u. e i (omega arith)))

module _ {c d : ℕ → List Rule} {N : ℕ} (s : SameRules c d N) where
  -- ---- the same totals

  module _ (v : ℕ → ℕ → ℕ) where
    total_below : (n p A m : ℕ) → m < n → A < N → total c v p A m ≡ total d v p A m
    total_below zero p A m l h = absurd (omega arith)
    total_below (suc n) p A zero l h = total_none c v p A ∙ sym (total_none d v p A)
    total_below (suc n) p A (suc zero) l h = total_one c v p A ∙ ap (sum_over (v p)) (s.words A h) ∙ sym (total_one d v p A)
    total_below (suc n) p A (suc (suc m)) l h =
        total_more c v p A (suc (suc m)) (omega arith)
        ∙ sum_ext (pair_total (total c v) p (suc (suc m))) (pair_total (total d v) p (suc (suc m))) (pairs_of (c A))
        (λ x i. let in_N = s.inside A x h i in
        pair_moved (total c v) (total d v) p p (suc (suc m)) x (λ k a b. total_below n p x.0 k (omega arith) in_N.0)
        (λ k a b. total_below n (p + k) x.1 (suc (suc m) - k) (omega arith) in_N.1))
        ∙ ap (sum_over (pair_total (total d v) p (suc (suc m)))) (s.pairs A h)
        ∙ sym (total_more d v p A (suc (suc m)) (omega arith))

    pub total_alike : (p A m : ℕ) → A < N → total c v p A m ≡ total d v p A m
    total_alike p A m h = total_below (suc m) p A m (omega arith) h

  -- ---- the same needed pairs

  pub same_back : SameRules d c N
  same_back = record {
    words = λ A h. sym (s.words A h);
    pairs = λ A h. sym (s.pairs A h);
    inside = λ A x h i. s.inside A x h (rw (← s.pairs A h) at i);
  }

  module _ {S : ℕ} (start : S < N) where
    pub needed_alike : {n A m : ℕ} → Needed c S n A m → Needed d S n A m
    needed_alike whole = whole
    needed_alike (left {A = A} a i l u) = left (needed_alike a) (rw (s.pairs A (needed_inside N start s.inside a)) at i) l u
    needed_alike (right {A = A} a i l u) = right (needed_alike a) (rw (s.pairs A (needed_inside N start s.inside a)) at i) l u

    overflows_over : (v : ℕ → ℕ → ℕ) (n : ℕ) → overflows c v S n ≡ true → overflows d v S n ≡ true
    overflows_over v n e =
        let q = (overflows_needed c v).0 e in
        (overflows_needed d v).1 (q.0, q.1, needed_alike q.2, rw (← total_alike v 0 q.0 q.1 (needed_inside N start s.inside q.2)) q.3)

  -- ---- the same sentences

  sentences_below : (n A m : ℕ) → m < n → A < N → sentences c A m ≡ sentences d A m
  sentences_below zero A m l h = absurd (omega arith)
  sentences_below (suc n) A zero l h = sentences_none c A ∙ sym (sentences_none d A)
  sentences_below (suc n) A (suc zero) l h = sentences_one c A ∙ ap (map (λ (w : ℕ). w ∷ [])) (s.words A h) ∙ sym (sentences_one d A)
  sentences_below (suc n) A (suc (suc m)) l h =
      sentences_more c A (suc (suc m)) (omega arith)
      ∙ concat_ext (λ x. split_list (sentences c) x.0 x.1 1 (suc (suc m) - 1)) (λ x. split_list (sentences d) x.0 x.1 1 (suc (suc m) - 1)) (pairs_of (c A))
      (λ x i. let in_N = s.inside A x h i in
      list_same (sentences c) (sentences d) x.0 x.1 1 (suc (suc m) - 1) (omega arith)
      (λ k u. (sentences_below n x.0 k (omega arith) in_N.0, sentences_below n x.1 k (omega arith) in_N.1)))
      ∙ ap (concat_map (λ (x : ℕ × ℕ). split_list (sentences d) x.0 x.1 1 (suc (suc m) - 1))) (s.pairs A h)
      ∙ sym (sentences_more d A (suc (suc m)) (omega arith))

  pub sentences_alike : (A m : ℕ) → A < N → sentences c A m ≡ sentences d A m
  sentences_alike A m h = sentences_below (suc m) A m (omega arith) h

-- the same totals that don't fit
pub overflows_alike : {c d : ℕ → List Rule} {N S : ℕ} → SameRules c d N → S < N → (v : ℕ → ℕ → ℕ) (n : ℕ) → overflows c v S n ≡ overflows d v S n
overflows_alike s h v n = both_ways (overflows _ v _ n) (overflows _ v _ n) (overflows_over s h v n) (overflows_over (same_back s) h v n)

-- ---- a grammar and its table of rules

module _ {g : List ℕ} {rules : List (List ℕ)} (h : Holds g rules) where
  pub tabled_alike : SameRules (chain g) (ruled rules) (nonterminals g)
  tabled_alike = record {
    words = λ A l. sym (words_ruled rules A ∙ h.words_are A l);
    pairs = λ A l. sym (pairs_ruled rules A ∙ h.pairs_are A l);
    inside = λ A x l i. rw h.count_is at (pair_inside h.table A x (omega (arith, h.count_is)) (rw (← h.pairs_are A l) at i));
  }

  pub tabled_total : (v : ℕ → ℕ → ℕ) (p A m : ℕ) → A < nonterminals g → total (chain g) v p A m ≡ total (ruled rules) v p A m
  tabled_total v p A m l = total_alike tabled_alike v p A m l

  pub tabled_T : (A m : ℕ) → A < nonterminals g → T (chain g) A m ≡ T (ruled rules) A m
  tabled_T A m l = tabled_total (λ p w. 1) 0 A m l

  pub tabled_sentences : (A m : ℕ) → A < nonterminals g → sentences (chain g) A m ≡ sentences (ruled rules) A m
  tabled_sentences A m l = sentences_alike tabled_alike A m l

  -- 10, of the table
  pub tabled_overflows : (v : ℕ → ℕ → ℕ) (n : ℕ) → overflows (chain g) v (start g) n ≡ overflows (ruled rules) v (start_in rules) n
  tabled_overflows v n = rw h.start_is (overflows_alike tabled_alike (rw (← h.start_is, ← h.count_is) h.table.starts) v n)

  pub tabled_large : (n : ℕ) → too_large g n ≡ overflows (ruled rules) (λ p w. 1) (start_in rules) n
  unfolding too_large
  tabled_large n = tabled_overflows (λ p w. 1) n

  -- the needed pairs of the grammar are asked for
  pub tabled_asked : {n A m : ℕ} → 1 ≤ n → Needed (chain g) (start g) n A m → Asked rules n A m
  tabled_asked l a = asked_of h.table l (rw h.start_is (needed_alike tabled_alike (rw (← h.start_is, ← h.count_is) h.table.starts) a))
