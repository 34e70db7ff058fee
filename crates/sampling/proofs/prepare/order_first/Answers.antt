-- `order_first` meets its contract: the part with the first k numbers is sorted.
-- Assumes nothing.
use native.Mathlib.Omega.{arith}
use Rattle.sampling.proofs.Answering.{sorted_first}
use Rattle.sampling.proofs.prepare.order_first.Goals as goal

pub returns-then-numbers-k : goal.returns-then-numbers-k
returns-then-numbers-k c = record { few = λ l. absurd (omega (arith, c.if-numbers-k.true)); rising = λ l. absurd (omega (arith, c.if-numbers-k.true)); same = λ l d. absurd (omega (arith, c.if-numbers-k.true)) }

pub returns : goal.returns
returns c = sorted_first _ _ _ _ _ c.order.ensures
