-- What a call of the interface gives back: the refusal as its result, the figures through what is lent for them, and the lent buffer.
-- Assumes nothing: this is a definition.
use Rattle.std.specs.Prelude.{List, ℕ}
use Rattle.answers.specs.Answer.{Answer}

abbrev pub gives : (result : ℕ) (figures buffer : List ℕ) → Answer
gives result figures buffer = record { refusal = result; figures = figures; buffer = buffer }
