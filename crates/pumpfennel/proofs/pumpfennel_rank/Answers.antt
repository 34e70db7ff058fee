-- `pumpfennel_rank` meets its contract, case by case of the answer.
-- Assumes nothing.
use mathlib.Core.Path.{refl}
use Rattle.ranking.specs.Inner.Says.{rank_says}
use Rattle.pumpfennel.proofs.Cases.{answered}
use Rattle.pumpfennel.proofs.pumpfennel_rank.Goals as goal

pub returns-in-Ok : goal.returns-in-Ok
returns-in-Ok c = answered rank_says _ _ c.rank.ensures c.in-Ok.is refl refl

pub returns-in-Err : goal.returns-in-Err
returns-in-Err c = answered rank_says _ _ c.rank.ensures c.in-Err.is refl c.from.ensures
