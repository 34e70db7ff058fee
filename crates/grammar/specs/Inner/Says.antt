-- What the code's answers to *Check bank* say: the paper's values of `Ok`, and its number of `Err`. Their promises use these definitions.
-- Assumes nothing: these are definitions.
use Rattle.std.specs.Prelude.{[], ◌∷◌, Result, Ok, Err}
use Rattle.answers.specs.Answer.{Answer, given, refused}
use Rattle.answers.specs.Inner.Refusals.{refusal_number}
use Rattle.answers.specs.declared.refusal.Refusal.{Refusal}
use Rattle.grammar.specs.declared.checks.Sizes.{Sizes}

-- the paper's figures, or its number of a refusal
abbrev pub grammar_says : Result Sizes Refusal → Answer
grammar_says (Ok s) = given (s.nonterminals ∷ s.words ∷ []) []
grammar_says (Err r) = refused (refusal_number r) 2 []
