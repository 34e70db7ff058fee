-- The parts of a plan as they are built, a row each: what each function promises and asks.
-- Assumes nothing: these are definitions.
use Rattle.std.specs.Prelude.{◌≡◌, true, cond, List, [], ℕ, ◌+◌, ◌-◌, ◌≤◌, ◌<◌, length, get_or}
use Rattle.lists.specs.Inner.Tables.{entry, Wide}
use Rattle.sets.specs.Inner.Sets.{member}
use Rattle.grammar.specs.Inner.Rules.{left_at, right_at, pair_from, count_in, Ruled}
use Rattle.counting.specs.Inner.Counted.{Counted}
use Rattle.charts.specs.Inner.Plan.{none_row, chart_row, spans_of, Planned}

-- the set of a row at i
abbrev pub at : List ℕ → ℕ → ℕ
at row i = get_or row i 0

-- ---- the pair rules

pub record Sides (rules : List (List ℕ)) (end : ℕ) (row : List ℕ) : Type 0 where
  pub table : Ruled rules
  pub all : end ≡ pair_from rules (count_in rules)
  pub long : length row ≡ 32

-- the first `end` pair rules: the right nonterminals of each left one, all the left ones, and all the right ones
pub record SidedAs (rules : List (List ℕ)) (end : ℕ) (row : List ℕ) (lefts rights : ℕ) : Type 0 where
  pub long : length row ≡ 32
  pub pair : (i : ℕ) → i < end → member (at row (left_at rules i)) (right_at rules i) ≡ true
  pub left : (i : ℕ) → i < end → member lefts (left_at rules i) ≡ true
  pub right : (i : ℕ) → i < end → member rights (right_at rules i) ≡ true

-- ---- the nonterminals with a derivation

-- of the length m, among the first N: those with a count, and no others
pub record WantedAs (totals : List (List ℕ)) (N m s : ℕ) : Type 0 where
  pub has : (A : ℕ) → A < N → 1 ≤ entry totals m A → member s A ≡ true
  pub only : (A : ℕ) → A < 32 → member s A ≡ true → 1 ≤ entry totals m A

-- of each length up to n
pub record AllWantedAs (totals : List (List ℕ)) (N n : ℕ) (row : List ℕ) : Type 0 where
  pub long : length row ≡ 32
  pub each : (m : ℕ) → 1 ≤ m → m ≤ n → WantedAs totals N m (at row m)

-- ---- left lengths

-- of the length m: those where both halves' lengths have some nonterminal, and none outside
pub record CutAs (wanted : List ℕ) (lefts rights m s : ℕ) : Type 0 where
  pub has : (B C k : ℕ) → 1 ≤ k → k < m → member lefts B ≡ true → member (at wanted k) B ≡ true → member rights C ≡ true
      → member (at wanted (m - k)) C ≡ true → member s k ≡ true
  pub only : (k : ℕ) → k < 32 → member s k ≡ true → (1 ≤ k) × (k < m)

pub record AllCutAs (wanted : List ℕ) (lefts rights n : ℕ) (row : List ℕ) : Type 0 where
  pub long : length row ≡ 32
  pub each : (m : ℕ) → 1 ≤ m → m ≤ n → CutAs wanted lefts rights m (at row m)

-- ---- needed spans

-- every span lies within n positions
pub record Inside (n : ℕ) (row : List ℕ) : Type 0 where
  pub inside : (p m : ℕ) → p < 32 → 1 ≤ m → m ≤ n → member (at row m) p ≡ true → p + m ≤ n

-- with the span of m positions from p on its halves, at the left length k
abbrev pub Halves : (row : List ℕ) (p m k : ℕ) → Type 0
Halves row p m k = (member (at row k) p ≡ true) × (member (at row (m - k)) (p + k) ≡ true)

-- what adding the halves of the spans of m positions asks, their left lengths being the set s
pub record Spreads (s m : ℕ) (row : List ℕ) : Type 0 where
  pub long : length row ≡ 32
  pub short : m ≤ 16
  pub within : (k : ℕ) → k < 32 → member s k ≡ true → (1 ≤ k) × (k < m)
  pub low : (p : ℕ) → p < 32 → member (at row m) p ≡ true → p ≤ 16

-- no span is lost, and those of m positions or more are as they were
pub record SpreadAs (s m : ℕ) (before after : List ℕ) : Type 0 where
  pub long : length after ≡ 32
  pub more : (p j : ℕ) → member (at before j) p ≡ true → member (at after j) p ≡ true
  pub same : (j : ℕ) → m ≤ j → at after j ≡ at before j
  pub halves : (p k : ℕ) → p < 32 → k < 32 → member s k ≡ true → member (at before m) p ≡ true → Halves after p m k
  pub kept : (n : ℕ) → m ≤ n → n ≤ 16 → Inside n before → Inside n after

-- what finding the needed spans asks: left lengths, and no span yet
pub record Spots (cuts : List ℕ) (n : ℕ) (row : List ℕ) : Type 0 where
  pub some : 1 ≤ n
  pub short : n ≤ 16
  pub within : (m k : ℕ) → k < 32 → 1 ≤ m → m ≤ n → member (at cuts m) k ≡ true → (1 ≤ k) × (k < m)
  pub long : length row ≡ 32
  pub none : (i : ℕ) → at row i ≡ 0

-- the whole, and with a span of `least` positions or more its halves
pub record SpottedAs (cuts : List ℕ) (n least : ℕ) (row : List ℕ) : Type 0 where
  pub long : length row ≡ 32
  pub whole : member (at row n) 0 ≡ true
  pub halves : (p m k : ℕ) → least ≤ m → m ≤ n → p < 32 → k < 32 → member (at cuts m) k ≡ true → member (at row m) p ≡ true → Halves row p m k
  pub inside : Inside n row

-- ---- rows

-- the row of a span that stands at p among those of its length, of which the first has the row `base`
abbrev pub row_from : (spots base p : ℕ) → ℕ
row_from spots base p = cond (member spots p) (base + p) none_row

-- where the rows of the spans of m positions begin, those of all at `first`: the spans of m positions or more come after it
abbrev pub base_of : (first n m : ℕ) → ℕ
base_of first n m = first + (spans_of n - spans_of (n + 1 - m))

-- the rows of the first `end` spans of a length
pub record RowAs (spots base end : ℕ) (row : List ℕ) : Type 0 where
  pub long : length row ≡ 16
  pub each : (p : ℕ) → p < end → get_or row p 0 ≡ row_from spots base p

-- the rows of the spans of fewer than m positions; the letters are as they were
pub record PlacedAs (spots : List ℕ) (first n m : ℕ) (before after : List (List ℕ)) : Type 0 where
  pub long : length after ≡ 17
  pub wide : Wide after 16
  pub letters : get_or after 0 [] ≡ get_or before 0 []
  pub each : (p j : ℕ) → 1 ≤ j → j < m → p + j ≤ n → entry after j p ≡ row_from (at spots j) (base_of first n j) p

-- ---- the plan

-- what building it asks: the counts, and room
pub record Plans (rules totals : List (List ℕ)) (n : ℕ) (plan map : List (List ℕ)) : Type 0 where
  pub counted : Counted rules totals n
  pub plan_long : length plan ≡ 4
  pub map_long : length map ≡ 17
  pub map_wide : Wide map 16

-- what it promises: the plan, the map's rows, and its letters as they were
pub record BuiltAs (rules : List (List ℕ)) (n : ℕ) (before plan map : List (List ℕ)) : Type 0 where
  pub planned : Planned rules plan map chart_row n
  pub letters : get_or map 0 [] ≡ get_or before 0 []
  pub map_long : length map ≡ 17
  pub map_wide : Wide map 16
