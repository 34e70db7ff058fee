-- What stands among the choices of a list of rules: just the ways in which a derivation can begin, in order.
-- Each by induction on the rules, and for one pair rule on the right length.
-- Assumes nothing.
use mathlib.Core.Path.{◌≡◌, refl, sym}
use mathlib.Core.Logic.{inl, inr}
use mathlib.Core.List.Memᴰ
use mathlib.Core.List.{List, [], ◌∷◌}
use Prim.Native.Nat.{ℕ, zero, suc, ◌+◌, ◌≤◌, ◌<◌}
use native.Mathlib.Omega.{arith}
use native.Mathlib.Decide.{ℕ_discrete}
use Rattle.lists.specs.Joined.{◌∈◌, At}
use Rattle.lists.specs.Ordered.{Pairwise, none, more}
use Rattle.lists.proofs.Orders.{pairwise_append, pairwise_one}
use Rattle.grammar.specs.Chains.{Rule, word, pair}
use Rattle.grammar.specs.FullList.{Choice, one, two, splits, rule_choices, choices_from}

-- c is a choice of one of the rules listed, the first of which has the place i₀, for the length m
abbrev pub Begins : List Rule → ℕ → ℕ → Choice → Type 0
Begins rs i₀ m (one i w) = (n : ℕ) × (i₀ + n ≡ i) × At rs n (word w) × (m ≡ 1)
Begins rs i₀ m (two i B k C j) = (n : ℕ) × (i₀ + n ≡ i) × At rs n (pair B C) × (1 ≤ k) × (1 ≤ j) × (k + j ≡ m)

-- ---- the splits of one pair rule

abbrev Split : (i B C k j : ℕ) → Choice → Type 0
Split i B C k j (one i' w) = ⊥
Split i B C k j (two i' B' k' C' j') = (i' ≡ i) × (B' ≡ B) × (C' ≡ C) × (k ≤ k') × (1 ≤ j') × (k' + j' ≡ k + j)

split_wider : (i B C k j : ℕ) (c : Choice) → Split i B C (suc k) j c → Split i B C k (suc j) c
split_wider i B C k j (one i' w) h = h
split_wider i B C k j (two i' B' k' C' j') h = (h.0, h.1, h.2, omega arith, h.4, omega arith)

∈_splits : (i B C k j : ℕ) (c : Choice) → c ∈ splits i B C k j → Split i B C k j c
∈_splits i B C k zero c m = absurd (Memᴰ.not-nil m)
∈_splits i B C k (suc j) c (Memᴰ.head e) = rw e (refl, refl, refl, omega arith, omega arith, omega arith)
∈_splits i B C k (suc j) c (Memᴰ.tail m) = split_wider i B C k j c (∈_splits i B C (suc k) j c m)

splits_∈ : (i B C k j k' j' : ℕ) → k ≤ k' → 1 ≤ j' → k' + j' ≡ k + j → two i B k' C j' ∈ splits i B C k j
splits_∈ i B C k zero k' j' h h₁ e = absurd (omega arith)
splits_∈ i B C k (suc j) k' j' h h₁ e =
    elim (ℕ_discrete k k') [
      | yes p ↦ let q : j' ≡ suc j = omega arith in rw (← p, q) (Memᴰ.head refl)
      | no p ↦ Memᴰ.tail (splits_∈ i B C (suc k) j k' j' (omega arith) h₁ (omega arith))
    ]

-- ---- the choices of the rules

begins_first : (r : Rule) (rs : List Rule) (i m : ℕ) (c : Choice) → c ∈ rule_choices i r m → Begins (r ∷ rs) i m c
begins_first (word w) rs i zero c h = absurd (Memᴰ.not-nil h)
begins_first (word w) rs i (suc zero) c (Memᴰ.head e) = rw e (0, omega arith, refl, refl)
begins_first (word w) rs i (suc zero) c (Memᴰ.tail h) = absurd (Memᴰ.not-nil h)
begins_first (word w) rs i (suc (suc m)) c h = absurd (Memᴰ.not-nil h)
begins_first (pair B C) rs i zero c h = absurd (Memᴰ.not-nil h)
begins_first (pair B C) rs i (suc m) c h = go c (∈_splits i B C 1 m c h)
  where
    go : (c : Choice) → Split i B C 1 m c → Begins (pair B C ∷ rs) i (suc m) c
    go (one i' w) h = absurd h
    go (two i' B' k' C' j') h = (0, omega arith, cc, h.3, h.4, omega arith)

begins_later : (r : Rule) (rs : List Rule) (i m : ℕ) (c : Choice) → Begins rs (suc i) m c → Begins (r ∷ rs) i m c
begins_later r rs i m (one i' w) h = (suc h.0, omega arith, h.2, h.3)
begins_later r rs i m (two i' B k C j) h = (suc h.0, omega arith, h.2, h.3, h.4, h.5)

pub choice_begins : (rs : List Rule) (i m : ℕ) (c : Choice) → c ∈ choices_from i rs m → Begins rs i m c
choice_begins [] i m c h = absurd (Memᴰ.not-nil h)
choice_begins (r ∷ rs) i m c h =
    elim (Memᴰ.append_cases (rule_choices i r m) h) [
      | inl a ↦ begins_first r rs i m c a
      | inr b ↦ begins_later r rs i m c (choice_begins rs (suc i) m c b)
    ]

pub choice_one : (rs : List Rule) (i₀ n w : ℕ) → At rs n (word w) → one (i₀ + n) w ∈ choices_from i₀ rs 1
choice_one [] i₀ n w h = absurd h
choice_one (r ∷ rs) i₀ zero w h = let e : i₀ + 0 ≡ i₀ = omega arith in rw (← h, e) (Memᴰ.head refl)
choice_one (r ∷ rs) i₀ (suc n) w h =
    let e : i₀ + suc n ≡ suc i₀ + n = omega arith in
    rw e (Memᴰ.append_right (rule_choices i₀ r 1) (choice_one rs (suc i₀) n w h))

pub choice_two : (rs : List Rule) (i₀ n B C k j : ℕ) → At rs n (pair B C) → 1 ≤ k → 1 ≤ j → two (i₀ + n) B k C j ∈ choices_from i₀ rs (k + j)
choice_two [] i₀ n B C k j h hk hj = absurd h
choice_two (r ∷ rs) i₀ zero B C zero j h hk hj = absurd (omega arith)
choice_two (r ∷ rs) i₀ zero B C (suc k) j h hk hj =
    let e : i₀ + 0 ≡ i₀ = omega arith in
    let e₁ : suc k + j ≡ suc (k + j) = omega arith in
    rw (← h, e, e₁) (Memᴰ.append_left (choices_from (suc i₀) rs (suc (k + j))) (splits_∈ i₀ B C 1 (k + j) (suc k) j hk hj (omega arith)))
choice_two (r ∷ rs) i₀ (suc n) B C k j h hk hj =
    let e : i₀ + suc n ≡ suc i₀ + n = omega arith in
    rw e (Memᴰ.append_right (rule_choices i₀ r (k + j)) (choice_two rs (suc i₀) n B C k j h hk hj))

-- ---- in order: by the rule's place, and under one rule by the left length

abbrev pub spot : Choice → ℕ
spot (one i w) = i
spot (two i B k C j) = i

pub data Sooner : Choice → Choice → Type 0 where
  sooner_rule : {c d : Choice} → spot c < spot d → Sooner c d
  sooner_split : {i B k C j i' B' k' C' j' : ℕ} → i ≡ i' → B ≡ B' → k < k' → Sooner (two i B k C j) (two i' B' k' C' j')

split_sooner : (i B C k j : ℕ) (c : Choice) → Split i B C (suc k) j c → Sooner (two i B k C (suc j)) c
split_sooner i B C k j (one i' w) h = absurd h
split_sooner i B C k j (two i' B' k' C' j') h = let q : k < k' = omega arith in sooner_split (sym h.0) (sym h.1) q

splits_sorted : (i B C k j : ℕ) → Pairwise Sooner (splits i B C k j)
splits_sorted i B C k zero = none
splits_sorted i B C k (suc j) =
    more (λ c m. split_sooner i B C k j c (∈_splits i B C (suc k) j c m)) (splits_sorted i B C (suc k) j)

rule_sorted : (i : ℕ) (r : Rule) (m : ℕ) → Pairwise Sooner (rule_choices i r m)
rule_sorted i (word w) zero = none
rule_sorted i (word w) (suc zero) = pairwise_one Sooner (one i w)
rule_sorted i (word w) (suc (suc m)) = none
rule_sorted i (pair B C) zero = none
rule_sorted i (pair B C) (suc m) = splits_sorted i B C 1 m

begins_spot : (rs : List Rule) (i m : ℕ) (c : Choice) → Begins rs i m c → i ≤ spot c
begins_spot rs i m (one i' w) h = omega arith
begins_spot rs i m (two i' B k C j) h = omega arith

split_spot : (i B C k j : ℕ) (c : Choice) → Split i B C k j c → spot c ≡ i
split_spot i B C k j (one i' w) h = absurd h
split_spot i B C k j (two i' B' k' C' j') h = h.0

rule_spot : (i : ℕ) (r : Rule) (m : ℕ) (c : Choice) → c ∈ rule_choices i r m → spot c ≡ i
rule_spot i (word w) zero c h = absurd (Memᴰ.not-nil h)
rule_spot i (word w) (suc zero) c h = rw (Memᴰ.eq_of_singleton h)
rule_spot i (word w) (suc (suc m)) c h = absurd (Memᴰ.not-nil h)
rule_spot i (pair B C) zero c h = absurd (Memᴰ.not-nil h)
rule_spot i (pair B C) (suc m) c h = split_spot i B C 1 m c (∈_splits i B C 1 m c h)

pub choices_sorted : (i : ℕ) (rs : List Rule) (m : ℕ) → Pairwise Sooner (choices_from i rs m)
choices_sorted i [] m = none
choices_sorted i (r ∷ rs) m =
    pairwise_append Sooner (rule_choices i r m) (choices_from (suc i) rs m) (rule_sorted i r m) (choices_sorted (suc i) rs m)
    (λ c mc d md.
    let q : spot c < spot d = omega (arith, rule_spot i r m c mc, begins_spot rs (suc i) m d (choice_begins rs (suc i) m d md)) in
    sooner_rule q)
