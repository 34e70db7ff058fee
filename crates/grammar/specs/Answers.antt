-- What *Check bank* answers.
-- Assumes nothing: these are definitions.
use Rattle.std.specs.Prelude.{List, [], ◌∷◌, ℕ}
use Rattle.answers.specs.Answer.{Answer, answer}
use Rattle.grammar.specs.Layout.{nonterminals, words}
use Rattle.grammar.specs.Refusals.{grammar_rows}

-- "*Check bank* gives N and W."
unfoldable pub check_grammar : List ℕ → Answer
check_grammar g = answer (grammar_rows g) (nonterminals g ∷ words g ∷ []) [] []
