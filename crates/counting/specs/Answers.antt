-- What *Count* answers.
-- Assumes nothing: these are definitions.
use Rattle.std.specs.Prelude.{List, [], ◌∷◌, ℕ}
use Rattle.answers.specs.Answer.{Answer, answer}
use Rattle.grammar.specs.Layout.{start}
use Rattle.grammar.specs.Chains.{chain}
use Rattle.counting.specs.Totals.{T}
use Rattle.counting.specs.Refusals.{prepared_rows}

-- "*Count* (bank, length) gives T(S, length)."
unfoldable pub count_of : List ℕ → ℕ → Answer
count_of g n = answer (prepared_rows g n) (T (chain g) (start g) n ∷ []) [] []
