-- The number of what a step of a call answers with a value or a refusal.
-- Assumes nothing: these are definitions.
use Rattle.std.specs.Prelude.{ℕ, Result, Ok, Err}
use Rattle.answers.specs.Inner.Refusals.{refusal_number}
use Rattle.answers.specs.declared.refusal.Refusal.{Refusal}

-- the paper's number of each case
abbrev pub result_number : {A : Type 0} → Result A Refusal → ℕ
result_number (Ok x) = 0
result_number (Err r) = refusal_number r
