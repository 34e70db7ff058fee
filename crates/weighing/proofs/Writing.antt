-- The weights' row once it is written.
-- Assumes nothing.
use mathlib.Core.Path.{◌≡◌, sym, ◌∙◌}
use mathlib.Core.List.{List}
use Prim.Native.Nat.{ℕ}
use native.Mathlib.Omega.{arith}
use native.Mathlib.Decide.{dec_lt}
use lib.ListN.{length, get_or-eq_default}
use Rattle.lists.specs.Inner.Tables.{entry}
use Rattle.weighing.specs.Weights.{weight_of}
use Rattle.weighing.specs.Inner.Tables.{SetAs}

-- the row has the weight of every word: behind the last it is 0
pub set_all : {weights : List ℕ} {before after : List (List ℕ)} → SetAs weights before after → (w : ℕ) → entry after 13 w ≡ weight_of weights w
set_all {weights} q w = elim (dec_lt w (length weights)) [
  | yes h ↦ q.here w h
  | no h ↦ q.none w (omega arith) ∙ sym (get_or-eq_default weights 0 {n = w} (omega arith))
]
