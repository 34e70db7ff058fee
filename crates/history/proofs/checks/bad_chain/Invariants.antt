-- `bad_chain` meets its contract. The loop's invariant: the steps made, with what the walk still meets, come to the chain's length.
-- Assumes nothing.
use Rattle.history.proofs.Chain.{Walking}
use Rattle.history.proofs.checks.bad_chain.Given as goal

abbrev pub invariant-loop : goal.invariant-loop
invariant-loop l = Walking l.h l.k l.at l.counter
