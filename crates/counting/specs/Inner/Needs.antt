-- The needed pairs as the code has them: for each length the set of the nonterminals that are needed at it. What finding them asks and promises.
-- Assumes nothing: these are definitions.
use Rattle.std.specs.Prelude.{◌≡◌, ◌↔◌, ◌⊎◌, true, List, ℕ, ◌≤◌, ◌<◌, length, get_or}
use Rattle.lists.specs.Joined.{◌∈◌}
use Rattle.sets.specs.Inner.Sets.{member}
use Rattle.grammar.specs.Inner.Rules.{count_in, pairs_in, Ruled}
use Rattle.counting.specs.Inner.Counted.{Asked}

-- the set of the length m
abbrev pub needs_at : List ℕ → ℕ → ℕ
needs_at needs m = get_or needs m 0

-- a set of nonterminals is that of the length m
abbrev pub NeedsAs : (rules : List (List ℕ)) (n m set : ℕ) → Type 0
NeedsAs rules n m set = (A : ℕ) → A < 32 → (member set A ≡ true) ↔ Asked rules n A m

-- ---- the halves of pair rules

-- B stands in a pair rule of A, on the left or on the right
abbrev pub HalfOf : (rules : List (List ℕ)) (A B : ℕ) → Type 0
HalfOf rules A B = (x : ℕ × ℕ) × (x ∈ pairs_in rules A) × ((B ≡ x.0) ⊎ (B ≡ x.1))

-- the set before, with the nonterminals of the pair rules of what `Owner` names
pub record WithHalvesAs (rules : List (List ℕ)) (Owner : ℕ → Type 0) (before after : ℕ) : Type 0 where
  pub more : (B : ℕ) → member before B ≡ true → member after B ≡ true
  pub has : (A B : ℕ) → Owner A → HalfOf rules A B → member after B ≡ true
  pub only : (B : ℕ) → B < 32 → member after B ≡ true → (member before B ≡ true) ⊎ ((A : ℕ) × Owner A × HalfOf rules A B)

-- of a set's members below 32
abbrev pub MemberOf : (set A : ℕ) → Type 0
MemberOf set A = (A < 32) × (member set A ≡ true)

-- a set of nonterminals
pub record Owners (rules : List (List ℕ)) (set : ℕ) : Type 0 where
  pub table : Ruled rules
  pub inside : (A : ℕ) → MemberOf set A → A < count_in rules

-- ---- all lengths

-- what finding them asks: the row may hold anything
pub record Finding (rules : List (List ℕ)) (n : ℕ) (needs : List ℕ) : Type 0 where
  pub table : Ruled rules
  pub some : 1 ≤ n
  pub short : n ≤ 16
  pub long : length needs ≡ 17

-- the sets of the lengths from `least` to n
pub record FoundTo (rules : List (List ℕ)) (n least : ℕ) (needs : List ℕ) : Type 0 where
  pub long : length needs ≡ 17
  pub each : (m : ℕ) → least ≤ m → m ≤ n → NeedsAs rules n m (needs_at needs m)

-- what it promises: the sets of all lengths
abbrev pub FoundAs : (rules : List (List ℕ)) (n : ℕ) (needs : List ℕ) → Type 0
FoundAs rules n needs = FoundTo rules n 1 needs
