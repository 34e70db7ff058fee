-- The house matrix grammar's 229 bytes (document 01, section 'House bank and listing program').
-- Assumes nothing: these are definitions.
use Rattle.std.specs.Prelude.{List, [], ◌∷◌, ℕ}
use Rattle.answers.specs.Answer.{Answer, given}

-- "The house matrix bank is a fixed run of 229 bytes: N 9, W 50, R 54, S 0." What its rules and chains are is a theorem of
-- proofs/Rules.antt.
abbrev pub table : List ℕ
table =
    9 ∷ 50 ∷ 54 ∷ 0 ∷
    1 ∷ 2 ∷ 3 ∷ 4 ∷ 5 ∷ 15 ∷ 25 ∷ 35 ∷ 45 ∷
    1 ∷ 4 ∷ 1 ∷ 0 ∷
    1 ∷ 5 ∷ 2 ∷ 0 ∷
    1 ∷ 6 ∷ 3 ∷ 0 ∷
    1 ∷ 7 ∷ 8 ∷ 0 ∷
    0 ∷ 0 ∷ 0 ∷ 6 ∷ 0 ∷ 1 ∷ 0 ∷ 7 ∷ 0 ∷ 2 ∷ 0 ∷ 8 ∷ 0 ∷ 3 ∷ 0 ∷ 9 ∷ 0 ∷ 4 ∷ 0 ∷ 10 ∷ 0 ∷ 5 ∷ 0 ∷ 11 ∷ 0 ∷ 6 ∷ 0 ∷ 12 ∷ 0 ∷ 7 ∷ 0 ∷ 13 ∷ 0 ∷ 8 ∷ 0 ∷ 14 ∷ 0 ∷ 9 ∷ 0 ∷ 0 ∷
    0 ∷ 10 ∷ 0 ∷ 16 ∷ 0 ∷ 11 ∷ 0 ∷ 17 ∷ 0 ∷ 12 ∷ 0 ∷ 18 ∷ 0 ∷ 13 ∷ 0 ∷ 19 ∷ 0 ∷ 14 ∷ 0 ∷ 20 ∷ 0 ∷ 15 ∷ 0 ∷ 21 ∷ 0 ∷ 16 ∷ 0 ∷ 22 ∷ 0 ∷ 17 ∷ 0 ∷ 23 ∷ 0 ∷ 18 ∷ 0 ∷ 24 ∷ 0 ∷ 19 ∷ 0 ∷ 0 ∷
    0 ∷ 20 ∷ 0 ∷ 26 ∷ 0 ∷ 21 ∷ 0 ∷ 27 ∷ 0 ∷ 22 ∷ 0 ∷ 28 ∷ 0 ∷ 23 ∷ 0 ∷ 29 ∷ 0 ∷ 24 ∷ 0 ∷ 30 ∷ 0 ∷ 25 ∷ 0 ∷ 31 ∷ 0 ∷ 26 ∷ 0 ∷ 32 ∷ 0 ∷ 27 ∷ 0 ∷ 33 ∷ 0 ∷ 28 ∷ 0 ∷ 34 ∷ 0 ∷ 29 ∷ 0 ∷ 0 ∷
    0 ∷ 30 ∷ 0 ∷ 36 ∷ 0 ∷ 31 ∷ 0 ∷ 37 ∷ 0 ∷ 32 ∷ 0 ∷ 38 ∷ 0 ∷ 33 ∷ 0 ∷ 39 ∷ 0 ∷ 34 ∷ 0 ∷ 40 ∷ 0 ∷ 35 ∷ 0 ∷ 41 ∷ 0 ∷ 36 ∷ 0 ∷ 42 ∷ 0 ∷ 37 ∷ 0 ∷ 43 ∷ 0 ∷ 38 ∷ 0 ∷ 44 ∷ 0 ∷ 39 ∷ 0 ∷ 0 ∷
    0 ∷ 40 ∷ 0 ∷ 46 ∷ 0 ∷ 41 ∷ 0 ∷ 47 ∷ 0 ∷ 42 ∷ 0 ∷ 48 ∷ 0 ∷ 43 ∷ 0 ∷ 49 ∷ 0 ∷ 44 ∷ 0 ∷ 50 ∷ 0 ∷ 45 ∷ 0 ∷ 51 ∷ 0 ∷ 46 ∷ 0 ∷ 52 ∷ 0 ∷ 47 ∷ 0 ∷ 53 ∷ 0 ∷ 48 ∷ 0 ∷ 54 ∷ 0 ∷ 49 ∷ 0 ∷ 0 ∷ []

-- what *Check bank* answers on it
abbrev pub accepted : Answer
accepted = given (9 ∷ 50 ∷ []) []
