-- `hand_remaining` meets its contract, case by case of the answer.
-- Assumes nothing.
use mathlib.Core.Path.{refl}
use Rattle.sampling.specs.Inner.Says.{remaining_says}
use Rattle.pumpfennel.proofs.Cases.{answered}
use Rattle.pumpfennel.proofs.hand_remaining.Goals as goal

pub returns-in-Ok : goal.returns-in-Ok
returns-in-Ok c = answered remaining_says _ _ refl c.in-Ok.is refl refl

pub returns-in-Err : goal.returns-in-Err
returns-in-Err c = answered remaining_says _ _ refl c.in-Err.is refl c.from.ensures
