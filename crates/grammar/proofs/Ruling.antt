-- Reading the table of rules: the words and the pair rules of a nonterminal stand between two beginnings.
-- Assumes nothing.
use mathlib.Core.Path.{◌≡◌, refl, ap}
use mathlib.Core.Bool.{◌&&◌}
use mathlib.Core.List.Memᴰ
use mathlib.Core.List.{List, [], ◌∷◌, ◌++◌, map}
use Prim.Native.Nat.{ℕ, zero, suc, ◌+◌, ◌*◌, ◌-◌, ◌≤◌, ◌<◌}
use native.Mathlib.Omega.{arith}
use native.Mathlib.Numerals.{add-one}
use native.Mathlib.Decide.{ℕ_discrete, dec_le}
use borrow.Author.Tests.{eqb-true, eq-eqb}
use lib.Dec.{eqb}
use lib.ListN.{length, get_or}
use Rattle.lists.specs.Joined.{◌∈◌, up_from}
use Rattle.lists.proofs.Places.{run_length, run_at}
use Rattle.lists.proofs.Tests.{and_left, and_right, both_ways}
use Rattle.lists.proofs.Members.{up_from_∈, ∈_up_from}
use Rattle.grammar.specs.Chains.{word, pair, words_of, pairs_of}
use Rattle.grammar.specs.Inner.Rules.{word_at, left_at, right_at, word_from, pair_from, count_in, words_in, pairs_in, ruled, Ruled}
use Rattle.grammar.specs.Inner.Links.{both}

-- ---- the rules by kind

words_first : (ws : List ℕ) (ps : List (ℕ × ℕ)) → words_of (map word ws ++ map (λ (x : ℕ × ℕ). pair x.0 x.1) ps) ≡ ws
words_first [] [] = refl
words_first [] (x ∷ ps) = words_first [] ps
words_first (w ∷ ws) ps = ap (λ (l : List ℕ). w ∷ l) (words_first ws ps)

pairs_after : (ws : List ℕ) (ps : List (ℕ × ℕ)) → pairs_of (map word ws ++ map (λ (x : ℕ × ℕ). pair x.0 x.1) ps) ≡ ps
pairs_after [] [] = refl
pairs_after [] (x ∷ ps) = ap (λ (l : List (ℕ × ℕ)). x ∷ l) (pairs_after [] ps)
pairs_after (w ∷ ws) ps = pairs_after ws ps

module _ (rules : List (List ℕ)) (a : ℕ) where
  pub words_ruled : words_of (ruled rules a) ≡ words_in rules a
  unfolding ruled
  words_ruled = words_first (words_in rules a) (pairs_in rules a)

  pub pairs_ruled : pairs_of (ruled rules a) ≡ pairs_in rules a
  unfolding ruled
  pairs_ruled = pairs_after (words_in rules a) (pairs_in rules a)

  -- ---- by place

  pub word_count_lem : length (words_in rules a) ≡ word_from rules (a + 1) - word_from rules a
  unfolding words_in
  word_count_lem = run_length (word_at rules) (word_from rules a) (word_from rules (a + 1) - word_from rules a)

  pub pair_count : length (pairs_in rules a) ≡ pair_from rules (a + 1) - pair_from rules a
  unfolding pairs_in
  pair_count = run_length (λ i. (left_at rules i, right_at rules i)) (pair_from rules a) (pair_from rules (a + 1) - pair_from rules a)

  module _ (i : ℕ) where
    pub word_here : i < word_from rules (a + 1) - word_from rules a → get_or (words_in rules a) i 0 ≡ word_at rules (word_from rules a + i)
    unfolding words_in
    word_here h = run_at (word_at rules) (word_from rules a) (word_from rules (a + 1) - word_from rules a) i 0 h

    pub pair_here : i < pair_from rules (a + 1) - pair_from rules a
        → get_or (pairs_in rules a) i (0, 0) ≡ (left_at rules (pair_from rules a + i), right_at rules (pair_from rules a + i))
    unfolding pairs_in
    pair_here h = run_at (λ j. (left_at rules j, right_at rules j)) (pair_from rules a) (pair_from rules (a + 1) - pair_from rules a) i (0, 0) h

-- ---- two nonterminals as one number

-- the nonterminals of a pair rule are below 32, so their number tells them
pub both_same : (b c b' c' : ℕ) → c < 32 → c' < 32 → eqb (both b c) (both b' c') ≡ (eqb b b' && eqb c c')
both_same b c b' c' h h' =
    both_ways (eqb (both b c) (both b' c')) (eqb b b' && eqb c c')
    (λ e.
    let q : 32 * b + c ≡ 32 * b' + c' = eqb-true (both b c) (both b' c') e in
    rw (eq-eqb b b' (omega arith), eq-eqb c c' (omega arith)))
    (λ e.
    let eb = eqb-true b b' (and_left (eqb b b') (eqb c c') e) in
    let ec = eqb-true c c' (and_right (eqb b b') (eqb c c') e) in
    eq-eqb (both b c) (both b' c') (omega arith))

-- ---- whose rule stands at a place

module _ (from : ℕ → ℕ) where
  -- a place from `from M` on, before `from N`, lies with one of the nonterminals from M on, below N
  pub holder : (M N i : ℕ) → from M ≤ i → i < from N → M ≤ N → (a : ℕ) × (M ≤ a) × (a < N) × (from a ≤ i) × (i < from (a + 1))
  holder M zero i h k l = absurd (let e : M ≡ 0 = omega arith in omega (arith, rw e at h))
  holder M (suc N) i h k l =
      elim (ℕ_discrete M (suc N)) [
        | yes e ↦ absurd (omega (arith, rw e at h))
        | no e ↦
            elim (dec_le (from N) i) [
              | yes p ↦ (N, omega arith, omega arith, p, rw (add-one N) k)
              | no p ↦ let w = holder M N i h (omega arith) (omega arith) in (w.0, w.1, omega (arith, w.2), w.3, w.4)
            ]
      ]

  -- beginnings that rise one by one rise all the way
  pub rising : (M N : ℕ) → ((a : ℕ) → a < N → from a ≤ from (a + 1)) → M ≤ N → from M ≤ from N
  rising M zero r h = let e : M ≡ 0 = omega arith in rw e (omega arith)
  rising M (suc N) r h =
      elim (ℕ_discrete M (suc N)) [
        | yes e ↦ rw e (omega arith)
        | no e ↦ omega (arith, rising M N (λ a l. r a (omega arith)) (omega arith), rw (add-one N) at (r N (omega arith)))
      ]

  -- and a place lies with one nonterminal only
  pub one_holder : {N a b i : ℕ} → ((d : ℕ) → d < N → from d ≤ from (d + 1)) → a < N → b < N → from a ≤ i → i < from (a + 1) → from b ≤ i → i < from (b + 1)
      → a ≡ b
  one_holder {N} {a} {b} r a_in b-in a-from a-to b-from b-to =
      elim (dec_le (a + 1) b) [
        | yes z ↦ absurd (omega (arith, rising (a + 1) b (λ d l. r d (omega arith)) z))
        | no z ↦
            elim (dec_le (b + 1) a) [
              | yes y ↦ absurd (omega (arith, rising (b + 1) a (λ d l. r d (omega arith)) y))
              | no y ↦ omega arith
            ]
      ]

module _ (rules : List (List ℕ)) (a i : ℕ) where
  pub word_listed : word_from rules a ≤ i → i < word_from rules (a + 1) → word_at rules i ∈ words_in rules a
  unfolding words_in
  word_listed h k =
      Memᴰ.map (word_at rules) (∈_up_from i (word_from rules a) (word_from rules (a + 1) - word_from rules a) h (omega arith))

  pub pair_listed : pair_from rules a ≤ i → i < pair_from rules (a + 1) → (left_at rules i, right_at rules i) ∈ pairs_in rules a
  unfolding pairs_in
  pair_listed h k =
      Memᴰ.map (λ j. (left_at rules j, right_at rules j))
      (∈_up_from i (pair_from rules a) (pair_from rules (a + 1) - pair_from rules a) h (omega arith))

-- and what is listed stands at a place
pub pair_place : (rules : List (List ℕ)) (a : ℕ) (x : ℕ × ℕ) → x ∈ pairs_in rules a
    → (i : ℕ) × (pair_from rules a ≤ i) × (i < pair_from rules (a + 1)) × (left_at rules i ≡ x.0) × (right_at rules i ≡ x.1)
unfolding pairs_in
pair_place rules a x m =
    let q = Memᴰ.of_map (λ i. (left_at rules i, right_at rules i)) (up_from (pair_from rules a) (pair_from rules (a + 1) - pair_from rules a)) m in
    let u = up_from_∈ (pair_from rules a) (pair_from rules (a + 1) - pair_from rules a) q.1 in
    (q.0, u.0, omega arith, ap (λ (e : ℕ × ℕ). e.0) q.2, ap (λ (e : ℕ × ℕ). e.1) q.2)

-- ---- inside

module _ {rules : List (List ℕ)} (t : Ruled rules) where
  -- the places of a's rules lie below the end of all
  pub word_below : (a i : ℕ) → a < count_in rules → i < word_from rules (a + 1) → i < word_from rules (count_in rules)
  word_below a i h l = omega (arith, rising (word_from rules) (a + 1) (count_in rules) t.word_rises (omega arith))

  pub pair_below : (a i : ℕ) → a < count_in rules → i < pair_from rules (a + 1) → i < pair_from rules (count_in rules)
  pair_below a i h l = omega (arith, rising (pair_from rules) (a + 1) (count_in rules) t.pair_rises (omega arith))

  -- a pair rule's nonterminals are some of the grammar's
  pub pair_inside : (a : ℕ) (x : ℕ × ℕ) → a < count_in rules → x ∈ pairs_in rules a → (x.0 < count_in rules) × (x.1 < count_in rules)
  pair_inside a x h m =
      let q = pair_place rules a x m in
      let b = pair_below a q.0 h q.2 in
      (omega (arith, q.3, t.lefts q.0 b), omega (arith, q.4, t.rights q.0 b))
