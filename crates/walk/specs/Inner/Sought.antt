-- What the walk down a derivation asks and gives back. Of the derivations of a nonterminal over a span, in order, each owns as many
-- consecutive tickets as it weighs by the choice; sought is the one that owns a ticket. Choice and measure are maps: which rows of the
-- table of totals the spans have, and what words count for. What is found is said in counting's specs/Owned.antt.
-- Assumes nothing: these are definitions.
use Rattle.std.specs.Prelude.{◌≡◌, Bool, true, List, ℕ, ◌≤◌, ◌<◌, length}
use Rattle.grammar.specs.Inner.Rules.{ruled}
use Rattle.grammar.specs.Inner.Links.{Linked}
use Rattle.counting.specs.Totals.{total}
use Rattle.counting.specs.Inner.Counted.{Asked, Counted}
use Rattle.counting.specs.Inner.Letters.{any, weighed, Summed}
use Rattle.charts.specs.Inner.Letters.{letter_at, weight_by}
use Rattle.charts.specs.Inner.Maps.{Span, Closed, Mapped}

-- what every step has at hand: the counts up to n, and the totals of choice and measure over the known spans of n positions
pub record WalkTables (rules totals choice measure : List (List ℕ)) (n : ℕ) : Type 0 where
  pub counted : Counted rules totals n
  pub known : ℕ → ℕ → Bool
  pub closed : Closed rules n known
  pub by : Mapped rules totals choice n known
  pub to : Mapped rules totals measure n known
  -- a word that the choice asks for is found by its links; weights are there if they are asked for, for the measure summed up
  pub linked : (p : ℕ) → p < n → letter_at choice p < any → Linked rules
  pub weights : (p : ℕ) → p < n → (letter_at choice p ≡ weighed) → 14 ≤ length rules
  pub measures : (p : ℕ) → p < n → (letter_at measure p ≡ weighed) → Summed rules

-- a ticket of the nonterminal a over the m positions from p on
pub record Sought (rules totals choice measure : List (List ℕ)) (a p m t : ℕ) : Type 0 where
  pub n : ℕ
  pub tables : WalkTables rules totals choice measure n
  pub asked : Asked rules n a m
  pub span : Span n p m
  pub known : tables.known p m ≡ true
  pub inside : t < total (ruled rules) (weight_by rules choice) p a m
