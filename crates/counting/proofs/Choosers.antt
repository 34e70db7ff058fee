-- Choosing a pair rule and a left length as a loop does, a left length at a time: what is gone through, what comes next, and when it is found.
-- Assumes nothing.
use mathlib.Core.Path.{◌≡◌, refl, sym, ◌∙◌}
use mathlib.Core.List.{List, [], ◌∷◌, ◌++◌, append_assoc}
use Prim.Native.Nat.{ℕ, zero, suc, ◌+◌, ◌-◌, ◌≤◌, ◌<◌}
use native.Mathlib.Omega.{arith}
use native.Mathlib.Numerals.{add-one}
use native.Mathlib.Decide.{dec_lt}
use lib.ListN.{length, get_or, drop, drop_of_length-le}
use lib.Seq.{drop-cons}
use Rattle.lists.specs.Joined.{◌∈◌, concat_map, combine}
use Rattle.lists.proofs.Sums.{sum_append, sum_part}
use Rattle.lists.proofs.Runs.{run_part}
use Rattle.grammar.specs.Chains.{Rule, pairs_of}
use Rattle.counting.specs.Totals.{total, T}
use Rattle.counting.specs.Inner.Sentences.{sentences, weight, split_list}
use Rattle.counting.proofs.Totals.{product_at, pair_total, total_more}
use Rattle.counting.proofs.Sentences.{sentences_more}
use Rattle.counting.proofs.Counts.{total_sum, T_sentences}
use Rattle.lists.specs.Inner.Parts.{Passed}
use Rattle.counting.specs.Inner.Owned.{halves, halves_total, rule_sentences, ChosenAs}
use Rattle.lists.proofs.Parts.{passed_none, passed_size, passed_many, passed_more, passed_part}
use Rattle.counting.proofs.Walks.{halves_total_lem}

-- ---- a left length

module _ (rules : ℕ → List Rule) where
  -- what two halves hold is no more than the nonterminal holds
  pub halves_within : (v : ℕ → ℕ → ℕ) (A B C p m k : ℕ) → 1 ≤ k → k < m → (B, C) ∈ pairs_of (rules A) → halves_total rules v B C p m k ≤ total rules v p A m
  halves_within v A B C p m k h l i =
      rw (total_more rules v p A m (omega arith))
      (omega (arith, run_part (product_at (total rules v) B C p m) 1 (m - 1) k h (omega arith), sum_part (pair_total (total rules v) p m) (pairs_of (rules A)) i))

  -- one left length more, as a loop that counts up to m meets it
  list_step : (B C k m : ℕ) → k < m
      → split_list (sentences rules) B C k (m - k) ≡ halves rules B C k m ++ split_list (sentences rules) B C (k + 1) (m - (k + 1))
  list_step B C k m h = let e : m - k ≡ suc (m - (k + 1)) = omega arith in rw (e, add-one k)

  -- left lengths at which the left half has no derivation have no sentences, and so have those at which the right half has none
  none_of : (A m : ℕ) → T rules A m ≡ 0 → sentences rules A m ≡ []
  none_of A m e = nil (sentences rules A m) (sym (T_sentences rules A m) ∙ e)
    where
      nil : (l : List (List ℕ)) → length l ≡ 0 → l ≡ []
      nil [] e = refl
      nil (x ∷ l) e = absurd (omega arith)

  combine_nil : (l : List (List ℕ)) → combine ◌++◌ l [] ≡ []
  combine_nil [] = refl
  combine_nil (x ∷ l) = combine_nil l

  dead_by : (B C k j : ℕ) → ((i : ℕ) → k ≤ i → i < k + j → T rules B i ≡ 0) → split_list (sentences rules) B C k j ≡ []
  dead_by B C k zero h = refl
  dead_by B C k (suc j) h = rw (none_of B k (h k (omega arith) (omega arith))) (dead_by B C (suc k) j (λ i l u. h i (omega arith) (omega arith)))

  pub list_dead : (B C k m : ℕ) → ((i : ℕ) → k ≤ i → i < m → T rules B i ≡ 0) → split_list (sentences rules) B C k (m - k) ≡ []
  list_dead B C k m h = dead_by B C k (m - k) (λ i l u. h i l (omega arith))

  pub list_skip : (B C m d : ℕ) → d + 1 ≤ m → ((i : ℕ) → 1 ≤ i → i < d + 1 → T rules C (m - i) ≡ 0)
      → split_list (sentences rules) B C 1 (m - 1) ≡ split_list (sentences rules) B C (d + 1) (m - (d + 1))
  list_skip B C m zero h e = refl
  list_skip B C m (suc d) h e =
      let q : suc d + 1 ≡ d + 1 + 1 = omega arith in
      let none = none_of C (m - (d + 1)) (e (d + 1) (omega arith) (omega arith)) in
      rw q
      (list_skip B C m d (omega arith) (λ i l u. e i l (omega arith))
      ∙ list_step B C (d + 1) m (omega arith)
      ∙ rw (none, combine_nil (sentences rules B (d + 1))))

-- ---- the pair rules of a nonterminal, left length after left length

-- what the pair rules of A hold from the place `gone` on
abbrev later : (rules : ℕ → List Rule) (A m gone : ℕ) → List (List ℕ)
later rules A m gone = concat_map (λ x. rule_sentences rules x.0 x.1 m) (drop gone (pairs_of (rules A)))

-- to come are the left lengths of (B, C) from k on, then the pair rules of A from the place `gone` on
pub record Choosing (rules : ℕ → List Rule) (v u : ℕ → ℕ → ℕ) (A p m t gone B C k before rest : ℕ) : Type 0 where
  pub high : k ≤ m
  pub passed : Passed (weight v p) (weight u p) (sentences rules A m) (split_list (sentences rules) B C k (m - k) ++ later rules A m gone) t before rest

-- at first no left length, then all rules
pub choosing_start : (rules : ℕ → List Rule) (v u : ℕ → ℕ → ℕ) (A p m t B C : ℕ) → 2 ≤ m → Choosing rules v u A p m t 0 B C m 0 t
choosing_start rules v u A p m t B C h =
    let e : m - m ≡ 0 = omega arith in
    record { high = omega arith; passed = rw (e, ← sentences_more rules A m h) (passed_none (weight v p) (weight u p) (sentences rules A m) t) }

module _ {rules : ℕ → List Rule} {v u : ℕ → ℕ → ℕ} {A p m t gone B C k before rest : ℕ} (w : Choosing rules v u A p m t gone B C k before rest) where
  -- no left length of (B, C) is to come that holds something
  module _ (none : split_list (sentences rules) B C k (m - k) ≡ []) where
    at_rules : Passed (weight v p) (weight u p) (sentences rules A m) (later rules A m gone) t before rest
    at_rules = rw none at w.passed

    -- while t is a ticket, a rule is left
    pub choosing_more : t < total rules v p A m → gone < length (pairs_of (rules A))
    choosing_more h =
        elim (dec_lt gone (length (pairs_of (rules A)))) [
          | yes l ↦ l
          | no k ↦
              let e : drop gone (pairs_of (rules A)) ≡ [] = drop_of_length-le (pairs_of (rules A)) {i = gone} (omega arith) in
              let q = rw e at at_rules in
              absurd (omega (arith, passed_many q, total_sum rules v p A m))
        ]

    -- its left lengths are next, without the first ones that hold nothing
    pub choosing_rule : (B' C' k' : ℕ) → gone < length (pairs_of (rules A)) → (B', C') ≡ get_or (pairs_of (rules A)) gone (0, 0) → k' ≤ m
        → rule_sentences rules B' C' m ≡ split_list (sentences rules) B' C' k' (m - k') → Choosing rules v u A p m t (gone + 1) B' C' k' before rest
    choosing_rule B' C' k' more e h skip =
        let c : drop gone (pairs_of (rules A)) ≡ (B', C') ∷ drop (gone + 1) (pairs_of (rules A))
        = rw add-one (drop-cons (pairs_of (rules A)) gone (0, 0) more ∙ rw (← e)) in
        record { high = h; passed = rw (c, skip) at at_rules }

  module _ (h : k < m) where
    entered : Passed (weight v p) (weight u p) (sentences rules A m)
        (halves rules B C k m ++ (split_list (sentences rules) B C (k + 1) (m - (k + 1)) ++ later rules A m gone)) t before rest
    entered =
        let s = append_assoc (halves rules B C k m) (split_list (sentences rules) B C (k + 1) (m - (k + 1))) (later rules A m gone) in
        rw (← s, ← list_step rules B C k m h) w.passed

    -- room for what stands before this left length and in it
    pub choosing_room : before + halves_total rules u B C p m k ≤ total rules u p A m
    choosing_room =
        omega (
          arith,
          passed_size entered,
          sum_append (weight u p) (halves rules B C k m) (split_list (sentences rules) B C (k + 1) (m - (k + 1)) ++ later rules A m gone),
          halves_total_lem rules u B C p m k,
          total_sum rules u p A m,
        )

    pub choosing_found : 1 ≤ k → (B, C) ∈ pairs_of (rules A) → rest < halves_total rules v B C p m k → ChosenAs rules v u A p m t B C k before rest
    choosing_found o i l =
        record {
          rule = i;
          some = o;
          short = h;
          part = passed_part (halves rules B C k m) (split_list (sentences rules) B C (k + 1) (m - (k + 1)) ++ later rules A m gone) entered
              (omega (arith, halves_total_lem rules v B C p m k));
        }

    pub choosing_next : halves_total rules v B C p m k ≤ rest
        → Choosing rules v u A p m t gone B C (k + 1) (before + halves_total rules u B C p m k) (rest - halves_total rules v B C p m k)
    choosing_next l =
        record {
          high = omega arith;
          passed = passed_more (halves rules B C k m) (split_list (sentences rules) B C (k + 1) (m - (k + 1)) ++ later rules A m gone) entered
              (before + halves_total rules u B C p m k) (rest - halves_total rules v B C p m k)
              (omega (arith, halves_total_lem rules u B C p m k)) (omega (arith, halves_total_lem rules v B C p m k));
        }
