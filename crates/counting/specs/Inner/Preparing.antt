-- What every call that takes a grammar and a length has at hand: once the refusals 1 to 8 and 9 are passed the table of rules, and once 10
-- is passed the counts.
-- Assumes nothing: these are definitions.
use Rattle.std.specs.Prelude.{◌≡◌, false, List, ℕ, ◌≤◌, length, Result, Ok, Err, ⊤}
use Rattle.lists.specs.Inner.Tables.{entry, Wide, Kept}
use Rattle.answers.specs.Answer.{first_that_applies}
use Rattle.answers.specs.Inner.Results.{result_number}
use Rattle.answers.specs.declared.refusal.Refusal.{Refusal}
use Rattle.grammar.specs.Inner.Rules.{Holds, Roomy}
use Rattle.counting.specs.Refusals.{too_large, open_rows, prepared_rows}
use Rattle.counting.specs.Inner.Counted.{Counted}

-- ---- 1 to 9

-- the rules of a grammar are there, and the length is one
pub record Opened (g : List ℕ) (n : ℕ) (rules : List (List ℕ)) : Type 0 where
  pub holds : Holds g rules
  pub some : 1 ≤ n
  pub short : n ≤ 16

-- what opening a grammar with a length answers: the refusal, or the rules; the rows from 4 on stay
pub record OpenedAs (g : List ℕ) (n : ℕ) (before after : List (List ℕ)) (r : Result ⊤ Refusal) : Type 0 where
  pub refusal : result_number r ≡ first_that_applies (open_rows g n)
  pub ready : r ≡ Ok tt → Opened g n after
  pub kept : Kept 4 256 before after

-- ---- 1 to 10

-- the tables that preparing is lent: that of the rules may hold anything, that of the totals has no count yet
pub record Lent (rules totals : List (List ℕ)) : Type 0 where
  pub rules_room : Roomy rules
  pub long : 17 ≤ length totals
  pub wide : Wide totals 32
  pub zeros : (r A : ℕ) → r ≤ 16 → entry totals r A ≡ 0

-- the tables of a grammar and a length are there
pub record Tabled (g : List ℕ) (n : ℕ) (rules totals : List (List ℕ)) : Type 0 where
  pub holds : Holds g rules
  pub fits : too_large g n ≡ false
  pub counted : Counted rules totals n

-- what preparing a grammar and a length answers: the refusal, or the tables; the rows that are not theirs stay
pub record PreparedAs (g : List ℕ) (n : ℕ) (rules₀ rules totals₀ totals : List (List ℕ)) (r : Result ⊤ Refusal) : Type 0 where
  pub refusal : result_number r ≡ first_that_applies (prepared_rows g n)
  pub ready : r ≡ Ok tt → Tabled g n rules totals
  pub rules_kept : Kept 4 256 rules₀ rules
  pub totals_kept : Kept 17 32 totals₀ totals
