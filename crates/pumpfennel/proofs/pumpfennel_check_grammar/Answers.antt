-- `pumpfennel_check_grammar` meets its contract, case by case of the answer.
-- Assumes nothing.
use mathlib.Core.Path.{refl}
use Rattle.grammar.specs.Inner.Says.{grammar_says}
use Rattle.pumpfennel.proofs.Cases.{answered}
use Rattle.pumpfennel.proofs.pumpfennel_check_grammar.Goals as goal

pub returns-in-Ok : goal.returns-in-Ok
returns-in-Ok c = answered grammar_says _ _ c.check.ensures c.in-Ok.is (rw (c.from.ensures, c.from-in-Ok.ensures) refl) refl

pub returns-in-Err : goal.returns-in-Err
returns-in-Err c = answered grammar_says _ _ c.check.ensures c.in-Err.is refl c.from-in-Err.ensures
