-- The tables of a draw by weights: the words' weights stand in a row of the table of rules, what the words before each weigh in two more, the totals by
-- weight behind the counts.
-- Assumes nothing: these are definitions.
use Rattle.answers.specs.declared.refusal.Refusal.{Refusal}
use Rattle.std.specs.Prelude.{◌≡◌, true, false, List, [], ◌∷◌, ℕ, ◌≤◌, ◌<◌, length, get_or, drop, Result, Ok, ⊤}
use Rattle.lists.specs.Inner.Tables.{entry, Wide}
use Rattle.answers.specs.Answer.{Row, first_that_applies}
use Rattle.grammar.specs.Layout.{words}
use Rattle.grammar.specs.Refusals.{Accepted}
use Rattle.grammar.specs.Inner.Rules.{start_in, ruled, Ruled}
use Rattle.counting.specs.Refusals.{overflows}
use Rattle.counting.specs.Inner.Letters.{weighed, by_letter, Summed}
use Rattle.counting.specs.Inner.Counted.{Tallied}
use Rattle.answers.specs.Inner.Results.{result_number}
use Rattle.counting.specs.Inner.Preparing.{Tabled}
use Rattle.charts.specs.Inner.Maps.{weights_row}
use Rattle.weighing.specs.Weights.{weight_of, bad_weights, too_heavy}
use Rattle.weighing.specs.Weighted.{weighed_rows}

-- ---- the weights' row

-- what writing it asks: the row, all 0, with room for the weights
pub record Sets (weights : List ℕ) (rules : List (List ℕ)) : Type 0 where
  pub long : 14 ≤ length rules
  pub wide : Wide rules 256
  pub few : length weights ≤ 256
  pub none : (w : ℕ) → entry rules 13 w ≡ 0

-- the first k weights are there, and the other rows as they were
pub record SetTo (weights : List ℕ) (k : ℕ) (before after : List (List ℕ)) : Type 0 where
  pub long : length after ≡ length before
  pub wide : Wide after 256
  pub here : (w : ℕ) → w < k → entry after 13 w ≡ weight_of weights w
  pub none : (w : ℕ) → k ≤ w → entry after 13 w ≡ 0
  pub others : (r : ℕ) → (r ≡ 13 → ⊥) → get_or after r [] ≡ get_or before r []

abbrev pub SetAs : (weights : List ℕ) (before after : List (List ℕ)) → Type 0
SetAs weights before after = SetTo weights (length weights) before after

-- ---- what the words before each weigh

-- what summing it up asks: rules, their weights, and two rows more
pub record SumsUp (rules : List (List ℕ)) : Type 0 where
  pub table : Ruled rules
  pub long : 16 ≤ length rules

-- what it promises: it is there, and the other rows are as they were
pub record SummedUpAs (before after : List (List ℕ)) : Type 0 where
  pub summed : Summed after
  pub long : length after ≡ length before
  pub wide : Wide after 256
  pub others : (r : ℕ) → (r ≡ 14 → ⊥) → (r ≡ 15 → ⊥) → get_or after r [] ≡ get_or before r []

-- ---- what is refused past 22

-- the lines where no total weight can be told: 10, then the number of a refusal that is known to apply
abbrev pub last_rows : (rules : List (List ℕ)) (n known : ℕ) → List Row
last_rows rules n known = (overflows (ruled rules) (λ p w. 1) (start_in rules) n, 10) ∷ (true, known) ∷ []

-- ---- 1 to 9, 22, 10, 24 and 25

-- the tables that a call lends: all 0
pub record Lent (rules totals : List (List ℕ)) : Type 0 where
  pub rules_long : 16 ≤ length rules
  pub rules_wide : Wide rules 256
  pub unruled : (r i : ℕ) → entry rules r i ≡ 0
  pub long : 35 ≤ length totals
  pub wide : Wide totals 32
  pub zeros : (r A : ℕ) → entry totals r A ≡ 0

-- the tables of a grammar, a length and weights are there; the links aren't, and nothing is behind the totals by weight
pub record Weighed (g : List ℕ) (n : ℕ) (weights : List ℕ) (rules totals : List (List ℕ)) : Type 0 where
  pub bank : Accepted g
  pub tabled : Tabled g n rules totals
  pub rules_long : 16 ≤ length rules
  pub weights_are : (w : ℕ) → entry rules 13 w ≡ weight_of weights w
  pub unlinked : (r i : ℕ) → 4 ≤ r → r < 13 → entry rules r i ≡ 0
  pub tallied : Tallied rules (by_letter rules weighed) (drop weights_row totals) n
  pub good : bad_weights (words g) weights ≡ false
  pub light : too_heavy g n weights ≡ false
  pub none : (A : ℕ) → entry totals 17 A ≡ 0
  pub behind : (r A : ℕ) → 35 ≤ r → entry totals r A ≡ 0

-- what the grammar, the question and the weights are answered: the refusal, or these
pub record WeighedAs (g : List ℕ) (n v : ℕ) (weights : List ℕ) (rules totals₀ totals : List (List ℕ)) (r : Result ⊤ Refusal) : Type 0 where
  pub refusal : result_number r ≡ first_that_applies (weighed_rows g n v weights)
  pub ready : r ≡ Ok tt → Weighed g n weights rules totals
  pub size : length totals ≡ length totals₀
