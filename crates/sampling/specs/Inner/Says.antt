-- What the code's answers to *Left* and *Draw* say: the paper's number and values for each case. Their promises use these definitions.
-- Assumes nothing: these are definitions.
use Rattle.std.specs.Prelude.{List, [], ◌∷◌, ℕ, Result, Ok, Err}
use Rattle.answers.specs.Answer.{Answer, given, refused}
use Rattle.answers.specs.Inner.Refusals.{refusal_number}
use Rattle.answers.specs.declared.refusal.Refusal.{Refusal}
use Rattle.sampling.specs.declared.remaining.Left.{Left}
use Rattle.sampling.specs.declared.draw.Drawn.{Drawn}

-- the paper's number and figures of each case
abbrev pub remaining_says : Result Left Refusal → Answer
remaining_says (Ok a) = given (a.total ∷ a.heard ∷ a.left ∷ []) []
remaining_says (Err r) = refused (refusal_number r) 3 []

-- the paper's number, figures and bytes of each case
abbrev pub draw_says : Result Drawn Refusal → List ℕ → Answer
draw_says (Ok a) out = given (a.left ∷ a.number.0 ∷ []) out
draw_says (Err r) out = refused (refusal_number r) 2 out
