-- What a call with one figure answers, case by case.
-- Assumes nothing: this is a definition.
use Rattle.std.specs.Prelude.{List, [], ◌∷◌, ℕ, Result, Ok, Err}
use Rattle.answers.specs.Answer.{Answer, given, refused}
use Rattle.answers.specs.Inner.Refusals.{refusal_number}
use Rattle.answers.specs.declared.refusal.Refusal.{Refusal}

-- the paper's number and figure, beside the buffer
abbrev pub figure_says : Result ℕ Refusal → List ℕ → Answer
figure_says (Ok x) out = given (x ∷ []) out
figure_says (Err r) out = refused (refusal_number r) 1 out
