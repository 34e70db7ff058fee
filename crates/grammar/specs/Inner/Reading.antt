-- What reading a grammar leaves in the table of rules.
-- Assumes nothing: these are definitions.
use Rattle.std.specs.Prelude.{◌≡◌, List, [], ℕ, ◌≤◌, length, get_or, Result}
use Rattle.lists.specs.Inner.Tables.{Wide}
use Rattle.answers.specs.declared.refusal.Refusal.{Refusal}
use Rattle.grammar.specs.declared.checks.Sizes.{Sizes}
use Rattle.grammar.specs.Refusals.{grammar_refusal}
use Rattle.grammar.specs.Answers.{check_grammar}
use Rattle.grammar.specs.Inner.Says.{grammar_says}
use Rattle.grammar.specs.Inner.Rules.{Holds}

-- what reading a grammar answers, and leaves in the table: the rules if it is accepted, and the rows from 4 on as they were
pub record ReadAs (g : List ℕ) (before after : List (List ℕ)) (r : Result Sizes Refusal) : Type 0 where
  pub says : grammar_says r ≡ check_grammar g
  pub holds : grammar_refusal g ≡ 0 → Holds g after
  pub long : length after ≡ length before
  pub wide : Wide after 256
  pub rest : (q : ℕ) → 4 ≤ q → get_or after q [] ≡ get_or before q []
