-- What the code's answers to *Count* say: the paper's number and values for each case. Their promises use these definitions.
-- Assumes nothing: these are definitions.
use Rattle.std.specs.Prelude.{[], ◌∷◌, ℕ, Result, Ok, Err}
use Rattle.answers.specs.Answer.{Answer, given, refused}
use Rattle.answers.specs.Inner.Refusals.{refusal_number}
use Rattle.answers.specs.declared.refusal.Refusal.{Refusal}

-- the paper's number and figure of each case
abbrev pub count_says : Result ℕ Refusal → Answer
count_says (Ok t) = given (t ∷ []) []
count_says (Err r) = refused (refusal_number r) 1 []
