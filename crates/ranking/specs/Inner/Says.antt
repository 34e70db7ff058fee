-- What the code's answers to *Give* and *Number* say: the paper's number and values for each case. Their promises use these definitions.
-- Assumes nothing: these are definitions.
use Rattle.std.specs.Prelude.{List, [], ◌∷◌, ℕ, Result, Ok, Err}
use Rattle.answers.specs.Answer.{Answer, given, refused}
use Rattle.answers.specs.Inner.Refusals.{refusal_number}
use Rattle.answers.specs.declared.refusal.Refusal.{Refusal}
use Rattle.ranking.specs.declared.rank.Ranked.{Ranked}

-- the paper's number, figure and bytes of each case
abbrev pub unrank_says : Result ℕ Refusal → List ℕ → Answer
unrank_says (Ok t) out = given (t ∷ []) out
unrank_says (Err r) out = refused (refusal_number r) 1 out

-- the paper's number and figures of each case
abbrev pub rank_says : Result Ranked Refusal → Answer
rank_says (Ok a) = given (a.lowest.0 ∷ a.total ∷ a.derivations ∷ []) []
rank_says (Err r) = refused (refusal_number r) 3 []
