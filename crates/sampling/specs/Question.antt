-- What *Left* and *Draw* are asked of a grammar and a history, as one thing: "*Left* (bank, diary, length)", "*Draw* (bank, diary, length, [..])",
-- a voice with either (document 02, U4), and a pattern in place of the length (U1).
-- Assumes nothing: these are definitions.
use Rattle.std.specs.Prelude.{List, [], ℕ}
use Rattle.std.proofs.Math.ListN as list
use Rattle.sampling.specs.declared.question.Question as code

pub record Question : Type 0 where
  pub length : ℕ
  pub voice : ℕ
  pub pattern : List ℕ

-- the question of the plain calls: no pattern
abbrev pub plainly : (n v : ℕ) → Question
plainly n v = record { length = n; voice = v; pattern = [] }

-- "The named length is the pattern's."
abbrev pub matching : (pattern : List ℕ) (v : ℕ) → Question
matching pattern v = record { length = list.length pattern; voice = v; pattern = pattern }

-- the question that the code's struct puts, with a pattern beside it
abbrev pub asked : code.Question → (pattern : List ℕ) → Question
asked a pattern = record { length = a.length; voice = a.voice; pattern = pattern }
