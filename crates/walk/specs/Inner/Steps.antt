-- What the steps of the walk ask and give back: a table's entry, a single word, two halves, part after part.
-- Assumes nothing: these are definitions.
use Rattle.std.specs.Prelude.{◌≡◌, cond, List, [], ◌∷◌, ℕ, ◌+◌, ◌*◌, ◌%◌, ◌≤◌, ◌<◌, eqb, length}
use Rattle.lists.specs.Joined.{◌∈◌, sum_over}
use Rattle.lists.specs.Inner.Tables.{Wide}
use Rattle.lists.specs.Inner.Tickets.{Owns}
use Rattle.grammar.specs.Inner.Rules.{word_at, word_from, count_in, words_in, ruled, Ruled}
use Rattle.grammar.specs.Inner.Links.{Linked}
use Rattle.counting.specs.Refusals.{most}
use Rattle.counting.specs.Inner.Owned.{HalvesAs, ChosenAs}
use Rattle.counting.specs.Inner.Letters.{any, weighed, by_letter, Summed}
use Rattle.charts.specs.Inner.Letters.{weight_by}
use Rattle.charts.specs.Inner.Maps.{row_at, total_at}
use Rattle.walk.specs.Inner.Sought.{Sought}

-- ---- what the table has

-- the nonterminal a over the m positions from p on has an entry by a map
pub record Placed (totals map : List (List ℕ)) (a p m : ℕ) : Type 0 where
  pub wide : Wide totals 32
  pub low : row_at map p m < length totals
  pub inside : a < 32
  pub early : p < 16
  pub short : m ≤ 16

-- two halves have entries, and their product fits
pub record Cut (totals map : List (List ℕ)) (b p k c q j : ℕ) : Type 0 where
  pub left : Placed totals map b p k
  pub right : Placed totals map c q j
  pub fits : total_at totals map p b k * total_at totals map q c j ≤ most

-- ---- a single word

-- a has the word x, and the links find it
pub record HasWord (rules : List (List ℕ)) (x a : ℕ) : Type 0 where
  pub table : Ruled rules
  pub linked : Linked rules
  pub inside : a < count_in rules
  pub low : x < any
  pub some : x ∈ words_in rules a

-- at i stands the word x of a
pub record WordPlacedAs (rules : List (List ℕ)) (x a i : ℕ) : Type 0 where
  pub from : word_from rules a ≤ i
  pub to : i < word_from rules (a + 1)
  pub word : word_at rules i ≡ x

-- t is a ticket of the words of a, with the letter `by` for the choice and the letter `to` for the measure
pub record WordSought (rules : List (List ℕ)) (by to a t : ℕ) : Type 0 where
  pub table : Ruled rules
  pub inside : a < count_in rules
  pub linked : by < any → Linked rules
  pub weights : by ≡ weighed → 14 ≤ length rules
  pub measures : to ≡ weighed → Summed rules
  pub ticket : t < sum_over (by_letter rules by) (words_in rules a)
  pub fits : sum_over (by_letter rules to) (words_in rules a) ≤ most

-- the word that owns it
pub record PickedAs (rules : List (List ℕ)) (by to a t word place measured weight offset : ℕ) : Type 0 where
  pub owns : Owns (by_letter rules by) (by_letter rules to) (words_in rules a) t word place offset
  pub measured_is : measured ≡ by_letter rules to word
  pub weight_is : weight ≡ by_letter rules by word

-- the same, written
pub record LeafAs (rules : List (List ℕ)) (by to a t : ℕ) (words : List ℕ) (place measured weight offset : ℕ) : Type 0 where
  pub word : ℕ
  pub written : words ≡ word ∷ []
  pub picked : PickedAs rules by to a t word place measured weight offset

-- ---- the halves of a pair rule

pub record HalvesSought (rules totals choice measure : List (List ℕ)) (a p m b c k before rest : ℕ) : Type 0 where
  pub whole : ℕ
  pub sought : Sought rules totals choice measure a p m whole
  pub chosen : ChosenAs (ruled rules) (weight_by rules choice) (weight_by rules measure) a p m whole b c k before rest

pub record HalvesFoundAs (rules choice measure : List (List ℕ)) (p m b c k before rest : ℕ) (words : List ℕ) (place measured weight offset : ℕ) : Type 0 where
  pub inner : ℕ
  pub place_is : place ≡ before + inner
  pub owned : HalvesAs (ruled rules) (weight_by rules choice) (weight_by rules measure) b c p m k rest words inner measured weight offset

-- ---- part after part

-- a times b, or 0 where nothing is measured after it
abbrev pub scaled : (a b after : ℕ) → ℕ
scaled a b after = cond (eqb after 0) 0 (a * b)

-- One part more behind those found so far: `before` stands before it, `after` is what follows it in all by the measure, x is what is left of the
-- ticket. All of it fits.
pub record Extends (place measured weight offset before place' measured' weight' after x : ℕ) : Type 0 where
  pub inner : before + place' * after ≤ most
  pub place_fits : place + measured * (before + place' * after) ≤ most
  pub measured_fits : 0 < after → measured * measured' ≤ most
  pub weight_fits : weight * weight' ≤ most
  pub offset_fits : offset + weight * (x % weight') ≤ most
  pub some : 0 < weight'

-- where what comes next stands, and what it is counted by
pub record ExtendedAs (place measured weight offset before place' measured' weight' after x place'' measured'' weight'' offset'' : ℕ) : Type 0 where
  pub place_is : place'' ≡ place + measured * (before + place' * after)
  pub measured_is : measured'' ≡ scaled measured measured' after
  pub weight_is : weight'' ≡ weight * weight'
  pub offset_is : offset'' ≡ offset + weight * (x % weight')
