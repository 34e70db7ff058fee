-- What the code's answers to *Check diary* and *Log* say: the paper's number and values at an `Ok` and at an `Err`. Their promises use these definitions.
-- Assumes nothing: these are definitions.
use Rattle.std.specs.Prelude.{List, [], ◌∷◌, ℕ, Result, Ok, Err}
use Rattle.answers.specs.Answer.{Answer, given, refused}
use Rattle.answers.specs.Inner.Refusals.{refusal_number}
use Rattle.answers.specs.declared.refusal.Refusal.{Refusal}

-- the paper's number and figure
abbrev pub history_says : Result ℕ Refusal → Answer
history_says (Ok k) = given (k ∷ []) []
history_says (Err r) = refused (refusal_number r) 1 []

-- the paper's number, figure and bytes
abbrev pub append_says : Result ℕ Refusal → List ℕ → Answer
append_says (Ok k) out = given (k ∷ []) out
append_says (Err r) out = refused (refusal_number r) 1 out
