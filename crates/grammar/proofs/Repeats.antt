-- Two rules on one chain that are alike: then two entries of one kind are the same. Each entry is a number below 1,024, and a scan that
-- stamps the number of each entry finds a stamp at the second of two. What the scan keeps is `Scanning`: the answer is what it would find
-- among the entries ahead.
-- Assumes nothing.
use mathlib.Core.Path.{◌≡◌, refl, sym, ap, ◌∙◌}
use mathlib.Core.Logic.{inl, inr}
use mathlib.Core.Bool.{Bool, true, false, ◌||◌, and-true, or_assoc}
use mathlib.Core.List.Memᴰ
use mathlib.Core.List.{List, [], ◌∷◌, map, map-map}
use Prim.Native.Nat.{ℕ, ◌+◌, ◌*◌, ◌-◌, ◌≤◌, ◌<◌}
use native.Mathlib.Omega.{arith}
use native.Mathlib.Decide.{ℕ_discrete}
use native.Mathlib.Numerals.{add-one}
use borrow.Author.Tests.{eq-eqb, ne_eqb}
use lib.Dec.{eqb}
use lib.ListN.{length, get_or, set, replicate, length-set}
use Rattle.lists.specs.Joined.{◌∈◌, up_from}
use Rattle.lists.specs.Searched.{some_of, some_below, times, repeats}
use Rattle.lists.proofs.Members.{∈_up_from}
use Rattle.lists.proofs.Places.{get_or_same, up_from_step, set_le}
use Rattle.lists.proofs.Tests.{or_true, or_left, or_right, some_never, some_stamped, below_at, below_some, below_none}
use Rattle.lists.proofs.Linked.{met_inside}
use Rattle.grammar.specs.Layout.{nonterminals, rules, head_of, a_of, b_of, next_of}
use Rattle.grammar.specs.Chains.{Rule, word, pair, rule_of, chain_numbers, rest, chain, words_of, pairs_of}
use Rattle.grammar.specs.Refusals.{alike, some_alike, repeated}
use Rattle.grammar.specs.Inner.Checks.{Readable, begins_at, entry_at, entries_from, entries, Stamping, StampedAs}
use Rattle.grammar.specs.Inner.Rules.{left_at, right_at, pair_from, words_in, pairs_in}
use Rattle.grammar.specs.Inner.Links.{both}
use Rattle.grammar.specs.Inner.Entering.{Sorted}
use Rattle.grammar.proofs.Ruling.{both_same}
use Rattle.grammar.proofs.Walks.{rule_kind, rule_word, rule_pair, readable_inside, words_∈, pairs_∈}

-- the two nonterminals of a pair rule as one number
abbrev pair_number : ℕ × ℕ → ℕ
pair_number q = both q.0 q.1

-- ---- rules that are alike, by kind

or_past : (a b c : Bool) → (a || (b || c)) ≡ (b || (a || c))
or_past true b c = sym (or_true b true refl)
or_past false b c = refl

-- two rules are the same, by their entries
abbrev same_rule : Rule → Rule → Bool
same_rule (word w) (word v) = eqb w v
same_rule (word w) (pair B C) = false
same_rule (pair B C) (word v) = false
same_rule (pair B C) (pair B' C') = eqb (pair_number (B, C)) (pair_number (B', C'))

some_words : (w : ℕ) (rs : List Rule) → some_of (same_rule (word w)) rs ≡ some_of (eqb w) (words_of rs)
some_words w [] = refl
some_words w (word v ∷ rs) = rw (some_words w rs)
some_words w (pair B C ∷ rs) = some_words w rs

some_pairs : (B C : ℕ) (rs : List Rule) → some_of (same_rule (pair B C)) rs ≡ some_of (eqb (pair_number (B, C))) (map pair_number (pairs_of rs))
some_pairs B C [] = refl
some_pairs B C (word v ∷ rs) = some_pairs B C rs
some_pairs B C (pair B' C' ∷ rs) = rw (some_pairs B C rs)

-- the entries of one kind
abbrev kind_only : (pairs : Bool) → List Rule → List ℕ
kind_only false rs = words_of rs
kind_only true rs = map pair_number (pairs_of rs)

-- two of one kind are the same
abbrev repeats_by_kind : List Rule → Bool
repeats_by_kind rs = repeats (kind_only false rs) || repeats (kind_only true rs)

kind_repeats : (pairs : Bool) (rs : List Rule) → repeats (kind_only pairs rs) ≡ true → repeats_by_kind rs ≡ true
kind_repeats false rs e = rw e
kind_repeats true rs e = or_true (repeats (words_of rs)) (repeats (map pair_number (pairs_of rs))) e

kind_more : (x : Rule) (rs : List Rule) → (some_of (same_rule x) rs || repeats_by_kind rs) ≡ repeats_by_kind (x ∷ rs)
kind_more (word w) rs = rw (some_words w rs) (sym (or_assoc (some_of (eqb w) (words_of rs)) (repeats (words_of rs)) (repeats (map pair_number (pairs_of rs)))))
kind_more (pair B C) rs =
    rw (some_pairs B C rs)
    (or_past (some_of (eqb (pair_number (B, C))) (map pair_number (pairs_of rs))) (repeats (words_of rs)) (repeats (map pair_number (pairs_of rs))))

module _ (g : List ℕ) (ok : Readable g) where
  -- each of the numbers listed is a rule's
  abbrev Numbers : List ℕ → Type 0
  Numbers l = (x : ℕ) → x ∈ l → (1 ≤ x) × (x ≤ rules g)

  alike_same : (r s : ℕ) → (1 ≤ r) × (r ≤ rules g) → (1 ≤ s) × (s ≤ rules g) → alike g r s ≡ same_rule (rule_of g r) (rule_of g s)
  alike_same r s h k =
      let few = ok.sized.few in
      elim (rule_kind g ok r h.0 h.1) [
        | inl q ↦
            elim (rule_kind g ok s k.0 k.1) [
              | inl t ↦ rw (rule_word g r q.0, rule_word g s t.0, q.0, t.0, q.2, t.2) (and-true (eqb (a_of g r) (a_of g s)))
              | inr t ↦ rw (rule_word g r q.0, rule_pair g s t.0, q.0, t.0)
            ]
        | inr q ↦
            elim (rule_kind g ok s k.0 k.1) [
              | inl t ↦ rw (rule_pair g r q.0, rule_word g s t.0, q.0, t.0)
              | inr t ↦
                  rw (rule_pair g r q.0, rule_pair g s t.0, q.0, t.0)
                  (sym (both_same (a_of g r) (b_of g r) (a_of g s) (b_of g s) (omega arith) (omega arith)))
            ]
      ]

  alike_rules : (r : ℕ) → (1 ≤ r) × (r ≤ rules g) → (l : List ℕ) → Numbers l → some_of (alike g r) l ≡ some_of (same_rule (rule_of g r)) (map (rule_of g) l)
  alike_rules r h [] k = refl
  alike_rules r h (s ∷ l) k =
      rw (alike_same r s h (k s (Memᴰ.head refl)), alike_rules r h l (λ x m. k x (Memᴰ.tail m)))

  alike_by_kind : (l : List ℕ) → Numbers l → some_alike g l ≡ repeats_by_kind (map (rule_of g) l)
  unfolding some_alike
  alike_by_kind [] h = refl
  alike_by_kind (r ∷ l) h =
      let more : Numbers l = λ x m. h x (Memᴰ.tail m) in
      rw (alike_rules r (h r (Memᴰ.head refl)) l more, alike_by_kind l more) (kind_more (rule_of g r) (map (rule_of g) l))

-- ---- a scan that stamps

-- the number x has the stamp
abbrev stamped : (stamps : List ℕ) (stamp x : ℕ) → Bool
stamped stamps stamp x = eqb (get_or stamps x 0) stamp

-- before the entry i: two of the entries are the same where one ahead finds its stamp, or two ahead are the same
pub record Scanning (pairs : Bool) (t : List (List ℕ)) (a stamp : ℕ) (stamps : List ℕ) (i : ℕ) : Type 0 where
  pub reached : begins_at pairs t a ≤ i
  pub long : length stamps ≡ 1024
  pub used : (q : ℕ) → get_or stamps q 0 ≤ stamp
  pub found : repeats (entries pairs t a)
      ≡ (some_of (stamped stamps stamp) (entries_from pairs t a i) || repeats (entries_from pairs t a i))

module _ {pairs : Bool} {t : List (List ℕ)} {a stamp : ℕ} where
  pub scan_start : {stamps : List ℕ} {i : ℕ} → Stamping pairs t a stamp stamps → i ≡ begins_at pairs t a
      → Scanning pairs t a stamp stamps i
  scan_start {stamps} s e =
      let new : (x : ℕ) → stamped stamps stamp x ≡ false = λ x. ne_eqb (get_or stamps x 0) stamp (λ z. omega (arith, s.fresh x)) in
      record {
        reached = omega arith;
        long = s.long;
        used = λ q. omega (arith, s.fresh q);
        found = rw (e, some_never (stamped stamps stamp) (entries pairs t a) new);
      }

  module _ {stamps : List ℕ} {i to : ℕ} (v : Scanning pairs t a stamp stamps i) (last : to ≡ begins_at pairs t (a + 1)) where
    pub scan_end : to ≤ i → StampedAs pairs t a stamp stamps false
    scan_end h =
        let e : begins_at pairs t (a + 1) - i ≡ 0 = omega arith in
        record { same = sym (v.found ∙ rw e); long = v.long; used = v.used }

    module _ (h : i < to) {e : ℕ} (here : e ≡ entry_at pairs t i) where
      pub scan_low : {stamps₀ : List ℕ} → Stamping pairs t a stamp stamps₀ → e < 1024
      scan_low s =
          let from = begins_at pairs t a in
          let count = begins_at pairs t (a + 1) - from in
          rw here (s.low (entry_at pairs t i) (Memᴰ.map (entry_at pairs t) (∈_up_from i from count v.reached (omega (arith, v.reached)))))

      module _ (low : e < 1024) where
        -- what the scan finds at the entry, and then ahead once its number is stamped
        scan_on : repeats (entries pairs t a)
            ≡ (eqb (get_or stamps e 0) stamp
            || (some_of (stamped (set stamps e stamp) stamp) (entries_from pairs t a (i + 1)) || repeats (entries_from pairs t a (i + 1))))
        scan_on =
            let next : entries_from pairs t a i ≡ e ∷ entries_from pairs t a (i + 1)
            = ap (map (entry_at pairs t)) (up_from_step i (begins_at pairs t (a + 1)) (omega arith)) ∙ rw here in
            v.found
            ∙ rw (next, some_stamped (λ x. x) stamps e stamp (entries_from pairs t a (i + 1)) (omega (arith, v.long))) (simp or_assoc)

        pub scan_hit : get_or stamps e 0 ≡ stamp → StampedAs pairs t a stamp stamps true
        scan_hit z = record { same = sym (scan_on ∙ rw (eq-eqb (get_or stamps e 0) stamp z)); long = v.long; used = v.used }

        pub scan_next : (get_or stamps e 0 ≡ stamp → ⊥) → Scanning pairs t a stamp (set stamps e stamp) (i + 1)
        scan_next n =
            record {
              reached = omega (arith, v.reached);
              long = length-set stamps e stamp ∙ v.long;
              used = set_le stamps e stamp stamp (omega arith) v.used;
              found = scan_on ∙ rw (ne_eqb (get_or stamps e 0) stamp n);
            }

-- ---- the entries of one chain

-- two rules on the chain of A are alike
abbrev repeated_at : List ℕ → ℕ → Bool
repeated_at g A = some_alike g (chain_numbers g A)

module _ {g : List ℕ} {t : List (List ℕ)} {a : ℕ} (ok : Readable g) (x : Sorted g t) (inside : a < nonterminals g) where
  chain_repeats : repeated_at g a ≡ repeats_by_kind (chain g a)
  unfolding rest
  chain_repeats = alike_by_kind g ok (chain_numbers g a) (λ y m. met_inside (next_of g) (rules g) (rules g + 1) (head_of g a) m)

  chain_entries : (pairs : Bool) → entries pairs t a ≡ kind_only pairs (chain g a)
  unfolding words_in pairs_in
  chain_entries false = x.words_are a inside
  chain_entries true =
      sym (map-map pair_number (λ i. (left_at t i, right_at t i)) (up_from (pair_from t a) (pair_from t (a + 1) - pair_from t a)))
      ∙ ap (map pair_number) (x.pairs_are a inside)

  kind_low : (pairs : Bool) (y : ℕ) → y ∈ kind_only pairs (chain g a) → y < 1024
  kind_low false y m = omega (arith, ok.words_low, readable_inside g ok (head_of g a) (words_∈ (chain g a) m))
  kind_low true y m =
      let z = Memᴰ.of_map pair_number (pairs_of (chain g a)) m in
      let q = readable_inside g ok (head_of g a) (pairs_∈ (chain g a) z.1) in
      omega (arith, ok.sized.few, q.0, q.1, z.2)

  pub chain_ready : (pairs : Bool) {stamp : ℕ} {stamps : List ℕ} → length stamps ≡ 1024 → ((q : ℕ) → get_or stamps q 0 < stamp)
      → Stamping pairs t a stamp stamps
  chain_ready pairs long fresh =
      record {
        table = x.roomy.long;
        inside = omega (arith, ok.sized.few);
        low = λ y m. kind_low pairs y (rw (chain_entries pairs) at m);
        long = long;
        fresh = fresh;
      }

  chain_stamped : {pairs : Bool} {stamp : ℕ} {stamps : List ℕ} {found b : Bool} → StampedAs pairs t a stamp stamps found → found ≡ b
      → repeats (kind_only pairs (chain g a)) ≡ b
  chain_stamped {pairs} s e = sym (ap repeats (chain_entries pairs)) ∙ sym s.same ∙ e

-- ---- all chains

-- the chains below a have no two rules that are alike, and no number has a later stamp
pub record Rounds (g stamps : List ℕ) (a : ℕ) : Type 0 where
  pub long : length stamps ≡ 1024
  pub used : (q : ℕ) → get_or stamps q 0 ≤ 2 * a
  pub apart : some_below (repeated_at g) a ≡ false

pub rounds_start : (g : List ℕ) → Rounds g (replicate 1024 0) 0
rounds_start g =
    record { long = refl; used = λ q. omega (arith, get_or_same {X = ℕ} 1024 q 0); apart = below_none (repeated_at g) 0 (omega arith) }

pub rounds_end : {g stamps : List ℕ} {a : ℕ} → Rounds g stamps a → a ≡ nonterminals g → false ≡ repeated g
unfolding repeated
rounds_end w e = sym (rw e at w.apart)

module _ {g stamps : List ℕ} {t : List (List ℕ)} {a : ℕ} (ok : Readable g) (x : Sorted g t) (w : Rounds g stamps a) (inside : a < nonterminals g) where
  -- before the words, and before the pair rules
  pub round_words : Stamping false t a (2 * a + 1) stamps
  round_words = chain_ready ok x inside false w.long (λ q. omega (arith, w.used q))

  pub round_pairs : {mid : List ℕ} {found : Bool} → StampedAs false t a (2 * a + 1) mid found → Stamping true t a (2 * a + 1 + 1) mid
  round_pairs s = chain_ready ok x inside true s.long (λ q. omega (arith, s.used q))

  pub round_hit : {pairs : Bool} {now : ℕ} {after : List ℕ} {found : Bool} → StampedAs pairs t a now after found → found ≡ true → true ≡ repeated g
  unfolding repeated
  round_hit {pairs} s e =
      let hit = kind_repeats pairs (chain g a) (chain_stamped ok x inside s e) in
      sym (below_some (repeated_at g) (nonterminals g) a inside (chain_repeats ok x inside ∙ hit))

  pub round_next : {mid after : List ℕ} {found found' : Bool} → StampedAs false t a (2 * a + 1) mid found → found ≡ false
      → StampedAs true t a (2 * a + 1 + 1) after found' → found' ≡ false → Rounds g after (a + 1)
  unfolding some_below
  round_next s e s' e' =
      let here : repeated_at g a ≡ false
      = chain_repeats ok x inside ∙ rw (chain_stamped ok x inside s e) (chain_stamped ok x inside s' e') in
      record { long = s'.long; used = λ q. omega (arith, s'.used q); apart = rw (add-one a, here, w.apart) }

-- ---- past 8 no word is twice on one chain

none_times : (x : ℕ) (l : List ℕ) → some_of (eqb x) l ≡ false → times x l ≡ 0
none_times x [] e = refl
none_times x (y ∷ l) e = rw (or_left (eqb x y) (some_of (eqb x) l) e) (omega (arith, none_times x l (or_right (eqb x y) (some_of (eqb x) l) e)))

repeats_once : (x : ℕ) (l : List ℕ) → repeats l ≡ false → times x l ≤ 1
repeats_once x [] e = omega arith
repeats_once x (y ∷ l) e =
    let ahead = repeats_once x l (or_right (some_of (eqb y) l) (repeats l) e) in
    elim (ℕ_discrete x y) [
      | yes z ↦ rw (eq-eqb x y z) (omega (arith, rw (← z) at (none_times y l (or_left (some_of (eqb y) l) (repeats l) e))))
      | no z ↦ rw (ne_eqb x y z) (omega (arith, ahead))
    ]

pub words_once : (g : List ℕ) → Readable g → repeated g ≡ false → (a : ℕ) → a < nonterminals g → (x : ℕ) → times x (words_of (chain g a)) ≤ 1
unfolding repeated rest
words_once g ok apart a inside x =
    let none = below_at (repeated_at g) (nonterminals g) a apart inside in
    let kinds = alike_by_kind g ok (chain_numbers g a) (λ y m. met_inside (next_of g) (rules g) (rules g + 1) (head_of g a) m) in
    repeats_once x (words_of (chain g a))
    (or_left (repeats (words_of (chain g a))) (repeats (kind_only true (chain g a))) (sym kinds ∙ none))
