-- What a call answers (document 01, 'Why a call says no'): "Zero means accepted. [..] The first that applies is returned;
-- every other figure is 0 and every buffer unchanged."
-- Assumes nothing: these are definitions.
use Rattle.std.specs.Prelude.{Bool, cond, List, [], ◌∷◌, ℕ, zero, suc, length, replicate}

-- a line of the list of refusals: whether it applies, and its number
abbrev pub Row : Type 0
Row = Bool × ℕ

-- the number of the first line that applies; 0 where none does
unfoldable pub first_that_applies : List Row → ℕ
first_that_applies [] = 0
first_that_applies (row ∷ rows) = cond row.0 row.1 (first_that_applies rows)

-- the refusal, the figures in document 01's order, and what the lent buffer then holds ([] for a call that is lent none)
pub record Answer : Type 0 where
  pub refusal : ℕ
  pub figures : List ℕ
  pub buffer : List ℕ

-- accepted: the figures, and the buffer as it is written
abbrev pub given : (figures buffer : List ℕ) → Answer
given figures buffer = record { refusal = 0; figures = figures; buffer = buffer }

-- refused: the number, each of `count` figures 0, and the buffer as it was
abbrev pub refused : (number count : ℕ) (buffer : List ℕ) → Answer
refused number count buffer = record { refusal = number; figures = replicate count 0; buffer = buffer }

-- by the refusal's number, which is 0 where the call is accepted
unfoldable pub answer_of : ℕ → (figures before after : List ℕ) → Answer
answer_of zero figures before after = given figures after
answer_of (suc n) figures before after = refused (suc n) (length figures) before

-- what a call with this list of refusals answers
abbrev pub answer : List Row → (figures before after : List ℕ) → Answer
answer rows figures before after = answer_of (first_that_applies rows) figures before after
