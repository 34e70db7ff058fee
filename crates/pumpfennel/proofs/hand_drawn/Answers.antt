-- `hand_drawn` meets its contract, case by case of the answer.
-- Assumes nothing.
use mathlib.Core.Path.{refl}
use Rattle.sampling.specs.Inner.Says.{draw_says}
use Rattle.pumpfennel.proofs.Cases.{answered}
use Rattle.pumpfennel.proofs.hand_drawn.Goals as goal

pub returns-in-Ok : goal.returns-in-Ok
returns-in-Ok c out = answered (λ a. draw_says a out) _ _ refl c.in-Ok.is refl refl

pub returns-in-Err : goal.returns-in-Err
returns-in-Err c out = answered (λ a. draw_says a out) _ _ refl c.in-Err.is refl c.from.ensures
