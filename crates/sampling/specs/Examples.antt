-- The examples P1 to P10 of document 01, as rows under one statement about the definitions.
-- Assumes nothing: these are definitions.
use Rattle.std.specs.Prelude.{◌≡◌, List, [], ◌∷◌, map, ℕ, ◌≤◌, length, drop}
use Rattle.lists.specs.Joined.{up_from}
use Rattle.answers.specs.Answer.{given, refused}
use Rattle.counting.specs.Answers.{count_of}
use Rattle.ranking.specs.Answers.{unrank_of, rank_of}
use Rattle.sampling.specs.Pattern.{blank}
use Rattle.sampling.specs.Question.{matching}
use Rattle.sampling.specs.Answers.{remaining_of, remaining_matching, draw_of, draw_matching}
use Rattle.sampling.specs.Demand3.{Premises, Worded}

-- "Bank F: 2 2 4 0, 1 3, 1 1 1 2, 1 0 1 0, 0 0 0 4, 0 1 0 0."
abbrev pub F : List ℕ
F =
    2 ∷ 2 ∷ 4 ∷ 0 ∷
    1 ∷ 3 ∷
    1 ∷ 1 ∷ 1 ∷ 2 ∷
    1 ∷ 0 ∷ 1 ∷ 0 ∷
    0 ∷ 0 ∷ 0 ∷ 4 ∷
    0 ∷ 1 ∷ 0 ∷ 0 ∷ []

-- "Bank G: 1 1 2 0, 1, 1 0 0 2, 0 0 0 0."
abbrev pub G : List ℕ
G =
    1 ∷ 1 ∷ 2 ∷ 0 ∷
    1 ∷
    1 ∷ 0 ∷ 0 ∷ 2 ∷
    0 ∷ 0 ∷ 0 ∷ 0 ∷ []

-- "diary of 0 1 (bytes 1 0 1 0, 0 0 2 0 0 1, then fourteen zeros)"
abbrev pub heard01 : List ℕ
heard01 =
    1 ∷ 0 ∷ 1 ∷ 0 ∷
    0 ∷ 0 ∷ 2 ∷ 0 ∷ 0 ∷ 1 ∷
    0 ∷ 0 ∷ 0 ∷ 0 ∷ 0 ∷ 0 ∷ 0 ∷ 0 ∷ 0 ∷ 0 ∷ 0 ∷ 0 ∷ 0 ∷ 0 ∷ []

-- the same sentence logged a second time
abbrev pub heard_twice : List ℕ
heard_twice =
    2 ∷ 0 ∷ 2 ∷ 0 ∷
    0 ∷ 0 ∷ 2 ∷ 0 ∷ 0 ∷ 1 ∷
    0 ∷ 0 ∷ 0 ∷ 0 ∷ 0 ∷ 0 ∷ 0 ∷ 0 ∷ 0 ∷ 0 ∷ 0 ∷ 0 ∷ 0 ∷ 0 ∷
    1 ∷ 0 ∷ 2 ∷ 0 ∷ 0 ∷ 1 ∷
    0 ∷ 0 ∷ 0 ∷ 0 ∷ 0 ∷ 0 ∷ 0 ∷ 0 ∷ 0 ∷ 0 ∷ 0 ∷ 0 ∷ 0 ∷ 0 ∷ []

-- the same sentence logged in voice 5: the fourth byte is 16 times that
abbrev pub heard_in_five : List ℕ
heard_in_five =
    1 ∷ 0 ∷ 1 ∷ 0 ∷
    0 ∷ 0 ∷ 2 ∷ 80 ∷ 0 ∷ 1 ∷
    0 ∷ 0 ∷ 0 ∷ 0 ∷ 0 ∷ 0 ∷ 0 ∷ 0 ∷ 0 ∷ 0 ∷ 0 ∷ 0 ∷ 0 ∷ 0 ∷ []

-- the sentence 0 0 0, which has two derivations of G, broken off after one word
abbrev pub broken_off : List ℕ
broken_off =
    1 ∷ 0 ∷ 1 ∷ 0 ∷
    0 ∷ 0 ∷ 3 ∷ 1 ∷ 0 ∷ 0 ∷ 0 ∷
    0 ∷ 0 ∷ 0 ∷ 0 ∷ 0 ∷ 0 ∷ 0 ∷ 0 ∷ 0 ∷ 0 ∷ 0 ∷ 0 ∷ 0 ∷ []

-- a pattern with a blank (document 02, U1): of F's sentences 0 1 and 1 1 the first is heard; the other has the number 3 among all, and 1 among those that fit
pub record Matched : Type 0 where
  pub premises : Premises F heard01 (matching (blank ∷ 1 ∷ []) 0)
  pub worded : Worded F (matching (blank ∷ 1 ∷ []) 0)
  pub left : remaining_matching F heard01 (blank ∷ 1 ∷ []) 0 ≡ given (2 ∷ 1 ∷ 1 ∷ []) []
  pub draw : (out : List ℕ) → 2 ≤ length out → draw_matching F heard01 (blank ∷ 1 ∷ []) 0 0 out ≡ given (1 ∷ 3 ∷ []) (1 ∷ 1 ∷ drop 2 out)

pub record Examples : Type 0 where
  -- "P1: F, length 1: T 0. P2: length 2: T 4. P3: length 16: T 65,536."
  pub p1 : count_of F 1 ≡ given (0 ∷ []) []
  pub p2 : count_of F 2 ≡ given (4 ∷ []) []
  pub p3 : count_of F 16 ≡ given (65536 ∷ []) []
  -- "P4: F, length 3, number 5: words 1 0 1. P5: number 8: refused 16. P6: sentence 1 0 1: number 5", of one derivation
  pub p4 : (out : List ℕ) → 3 ≤ length out → unrank_of F 3 5 out ≡ given (8 ∷ []) (1 ∷ 0 ∷ 1 ∷ drop 3 out)
  pub p5 : (out : List ℕ) → unrank_of F 3 8 out ≡ refused 16 1 out
  pub p6 : rank_of F (1 ∷ 0 ∷ 1 ∷ []) ≡ given (5 ∷ 8 ∷ 1 ∷ []) []
  -- P7, the first line's figures: T 4, heard 1, left 3; then those of the draws 0 to 2. "the listing program uses voice 0" (document 02, U4).
  pub p7 : remaining_of F heard01 2 0 ≡ given (4 ∷ 1 ∷ 3 ∷ []) []
  pub p7_draws : (out : List ℕ) → 2 ≤ length out
      → map (λ q. draw_of F heard01 2 0 q out) (up_from 0 3)
      ≡ given (3 ∷ 0 ∷ []) (0 ∷ 0 ∷ drop 2 out) ∷ given (3 ∷ 2 ∷ []) (1 ∷ 0 ∷ drop 2 out) ∷ given (3 ∷ 3 ∷ []) (1 ∷ 1 ∷ drop 2 out) ∷ []
  -- "P8: same diary, draw 3: refused 16."
  pub p8 : (out : List ℕ) → draw_of F heard01 2 0 3 out ≡ refused 16 2 out
  -- "P9: T at 3 is 2, at 4 is 5." P10, sentence 0 0 0: "P10 becomes 2 derivations, lowest number 0" (document 02, U6)
  pub p9 : count_of G 3 ≡ given (2 ∷ []) []
  pub p9_four : count_of G 4 ≡ given (5 ∷ []) []
  pub p10 : rank_of G (0 ∷ 0 ∷ 0 ∷ []) ≡ given (0 ∷ 2 ∷ 2 ∷ []) []
