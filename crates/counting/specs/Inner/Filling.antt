-- What the steps of filling the table of totals ask of each other and promise, by name. Nothing of this is needed to read what *Count*
-- answers.
-- Assumes nothing: these are definitions.
use Rattle.std.specs.Prelude.{◌≡◌, Bool, true, false, not, cond, List, [], ℕ, ◌*◌, ◌-◌, ◌≤◌, ◌<◌, eqb, length, get_or, take, drop, replicate, Option, Some, None}
use Rattle.lists.specs.Joined.{◌∈◌, sum_over, up_from}
use Rattle.lists.specs.Inner.Tables.{entry, put, Wide, Kept}
use Rattle.sets.specs.Inner.Sets.{member}
use Rattle.grammar.specs.Inner.Rules.{start_in, count_in, words_in, pairs_in, ruled, Ruled}
use Rattle.counting.specs.Totals.{total_by}
use Rattle.counting.specs.Refusals.{most, overflows}
use Rattle.counting.specs.Inner.Counted.{count_at, longest_at, Tallied}
use Rattle.counting.specs.Inner.Letters.{weighed, by_letter}
use Rattle.counting.specs.Inner.Needs.{MemberOf, Owners}

-- a number, or that it is above 2^64 - 1
abbrev pub TalliedAs : ℕ → Option ℕ → Type 0
TalliedAs n (Some v) = v ≡ n
TalliedAs n None = most < n

-- two numbers, the second no more than the first, or that the first is above 2^64 - 1
abbrev pub BothAs : (n k : ℕ) → Option (ℕ × ℕ) → Type 0
BothAs n k (Some x) = (x.0 ≡ n) × (x.1 ≡ k) × (x.1 ≤ x.0)
BothAs n k None = most < n

-- ---- two tables in one

-- each word counts for something
abbrev pub EachCounts : (rules : List (List ℕ)) (u : ℕ → ℕ) → Type 0
EachCounts rules u = (A w : ℕ) → A < count_in rules → w ∈ words_in rules A → 1 ≤ u w

-- What a step by a letter asks of the table: the totals by the letter stand in the rows from `at` on. Where there are rows before them the counts stand
-- there; then each word counts for something, so that no count is above its total.
pub record Beside (rules : List (List ℕ)) (letter at : ℕ) (asks : (u : ℕ → ℕ) (totals : List (List ℕ)) → Type 0) (totals : List (List ℕ)) : Type 0 where
  pub weights : letter ≡ weighed → 14 ≤ length rules
  pub own : asks (by_letter rules letter) (drop at totals)
  pub counts : (at ≡ 0 → ⊥) → asks (λ w. 1) (take at totals)
  pub each : (at ≡ 0 → ⊥) → EachCounts rules (by_letter rules letter)

-- and what it promises: where the totals by the letter fit, so do the counts
pub record BesideAs (rules : List (List ℕ)) (letter at : ℕ) (done : (u : ℕ → ℕ) (before after : List (List ℕ)) → Bool → Type 0) (before after : List (List ℕ)) (fits : Bool) : Type 0 where
  pub own : done (by_letter rules letter) (drop at before) (drop at after) fits
  pub counts : (at ≡ 0 → ⊥) → fits ≡ true → done (λ w. 1) (take at before) (take at after) true

-- ---- the whole table

-- what filling the table asks: nothing is there yet
pub record Filling (rules : List (List ℕ)) (n : ℕ) (totals : List (List ℕ)) : Type 0 where
  pub table : Ruled rules
  pub some : 1 ≤ n
  pub short : n ≤ 16
  pub long : 17 ≤ length totals
  pub wide : Wide totals 32
  pub zeros : (r A : ℕ) → r ≤ 16 → entry totals r A ≡ 0

-- what it promises of the weight u: whether all totals fit, and then the totals; the rows from 17 on stay
pub record FilledAs (rules : List (List ℕ)) (u : ℕ → ℕ) (n : ℕ) (before after : List (List ℕ)) (fits : Bool) : Type 0 where
  pub says : fits ≡ not (overflows (ruled rules) (λ p w. u w) (start_in rules) n)
  pub counted : fits ≡ true → Tallied rules u after n
  pub long : length after ≡ length before
  pub wide : Wide after 32
  pub rest : (r : ℕ) → 17 ≤ r → get_or after r [] ≡ get_or before r []

-- ---- one pair rule

-- what the pair rule (B, C) has added for the length m after the left length k, with the counts of a table in place of T (`added_after`)
abbrev pub part_sum : (count : ℕ → ℕ → ℕ) (B C m k : ℕ) → ℕ
part_sum count B C m k = sum_over (λ i. count B i * count C (m - i)) (up_from 1 k)

-- the two halves' totals below m are there, and zero past their longest lengths; `to` is a left length, or 0
pub record Halves (totals : List (List ℕ)) (B C m to : ℕ) : Type 0 where
  pub long : 17 ≤ length totals
  pub left : B < 32
  pub right : C < 32
  pub short : m ≤ 16
  pub bound : to < m
  pub left_over : (k : ℕ) → longest_at totals B < k → k < m → count_at totals B k ≡ 0
  pub right_over : (k : ℕ) → longest_at totals C < k → k < m → count_at totals C k ≡ 0

-- a table whose counts are all 0
abbrev pub no_counts : List (List ℕ)
no_counts = replicate 17 []

-- of a second table: its counts are no more; nor is what was added before
pub record HalvesBeside (totals counts : List (List ℕ)) (B C m before counted : ℕ) : Type 0 where
  pub long : 17 ≤ length counts
  pub left : (k : ℕ) → 1 ≤ k → k < m → count_at counts B k ≤ count_at totals B k
  pub right : (k : ℕ) → 1 ≤ k → k < m → count_at counts C k ≤ count_at totals C k
  pub less : counted ≤ before

-- ---- one nonterminal

-- the totals of X below the length m are there
pub record Below (rules : List (List ℕ)) (u : ℕ → ℕ) (totals : List (List ℕ)) (m X : ℕ) : Type 0 where
  pub inside : X < 32
  pub right : (k : ℕ) → 1 ≤ k → k < m → count_at totals X k ≡ total_by (ruled rules) u X k
  pub longest : (k : ℕ) → 1 ≤ k → k < m → longest_at totals X < k → total_by (ruled rules) u X k ≡ 0

-- and so are those of all halves of a
abbrev pub HalvesBelow : (rules : List (List ℕ)) (u : ℕ → ℕ) (totals : List (List ℕ)) (m a : ℕ) → Type 0
HalvesBelow rules u totals m a = (x : ℕ × ℕ) → x ∈ pairs_in rules a → Below rules u totals m x.0 × Below rules u totals m x.1

-- what the total of a and m asks
pub record Deriving (rules : List (List ℕ)) (u : ℕ → ℕ) (totals : List (List ℕ)) (m a : ℕ) : Type 0 where
  pub table : Ruled rules
  pub some : 1 ≤ m
  pub short : m ≤ 16
  pub inside : a < count_in rules
  pub long : 17 ≤ length totals
  pub halves : HalvesBelow rules u totals m a

-- and the total by a weight v that is no greater, in a second table
pub record DerivingBeside (rules : List (List ℕ)) (u v : ℕ → ℕ) (totals counts : List (List ℕ)) (m a : ℕ) : Type 0 where
  pub own : Deriving rules u totals m a
  pub beside : Deriving rules v counts m a
  pub less : (A w : ℕ) → A < count_in rules → w ∈ words_in rules A → v w ≤ u w

-- the longest length with a derivation, once v derivations of the length m are found
abbrev pub longer : (old m v : ℕ) → ℕ
longer old m v = cond (eqb v 0) old m

-- the table with v at a and m
abbrev pub stored : List (List ℕ) → (a m v : ℕ) → List (List ℕ)
stored totals a m v = put (put totals m a v) 0 a (longer (longest_at totals a) m v)

-- what placing the total of a and m promises: it is there, or doesn't fit and nothing has changed
pub record PlacedAs (rules : List (List ℕ)) (u : ℕ → ℕ) (before after : List (List ℕ)) (m a : ℕ) (fits : Bool) : Type 0 where
  pub here : fits ≡ true → (total_by (ruled rules) u a m ≤ most) × (after ≡ stored before a m (total_by (ruled rules) u a m))
  pub over : fits ≡ false → (most < total_by (ruled rules) u a m) × (after ≡ before)

-- what the words of a nonterminal ask, by a letter
pub record WordsBy (rules : List (List ℕ)) (letter a : ℕ) : Type 0 where
  pub table : Ruled rules
  pub inside : a < count_in rules
  pub weights : letter ≡ weighed → 14 ≤ length rules

-- ---- one row

-- what filling the row m for a set of nonterminals asks: it is all 0
pub record RowFilling (rules : List (List ℕ)) (u : ℕ → ℕ) (totals : List (List ℕ)) (m set : ℕ) : Type 0 where
  pub owners : Owners rules set
  pub some : 1 ≤ m
  pub short : m ≤ 16
  pub long : 17 ≤ length totals
  pub wide : Wide totals 32
  pub zeros : (A : ℕ) → count_at totals A m ≡ 0
  pub halves : (A : ℕ) → MemberOf set A → HalvesBelow rules u totals m A

-- The row m is filled for the members of the set that aren't in `left`: they have their totals, which fit, and nothing else has one. No longest length
-- has fallen, and no other row has changed.
pub record RowTo (rules : List (List ℕ)) (u : ℕ → ℕ) (before after : List (List ℕ)) (m set left : ℕ) : Type 0 where
  pub right : (A : ℕ) → MemberOf set A → member left A ≡ false → count_at after A m ≡ total_by (ruled rules) u A m
  pub fits : (A : ℕ) → MemberOf set A → member left A ≡ false → total_by (ruled rules) u A m ≤ most
  pub longest : (A : ℕ) → MemberOf set A → member left A ≡ false → longest_at after A < m → total_by (ruled rules) u A m ≡ 0
  pub only : (A : ℕ) → A < 32 → 1 ≤ count_at after A m → MemberOf set A
  pub risen : (A k : ℕ) → k ≤ m → longest_at after A < k → longest_at before A < k
  pub others : (r : ℕ) → 1 ≤ r → (r ≡ m → ⊥) → get_or after r [] ≡ get_or before r []
  pub kept : Kept 17 32 before after

-- what it promises: the row, or a total that doesn't fit
pub record RowFilledAs (rules : List (List ℕ)) (u : ℕ → ℕ) (before after : List (List ℕ)) (m set : ℕ) (fits : Bool) : Type 0 where
  pub row : fits ≡ true → RowTo rules u before after m set 0
  pub over : fits ≡ false → (A : ℕ) × MemberOf set A × (most < total_by (ruled rules) u A m)
  pub kept : Kept 17 32 before after
