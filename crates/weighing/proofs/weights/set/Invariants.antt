-- `set` meets its contract. The loop's invariant: the weights below w are in their row.
-- Assumes nothing.
use Rattle.weighing.specs.Inner.Tables.{SetTo}
use Rattle.weighing.proofs.weights.set.Given as goal

abbrev pub invariant-loop-w : goal.invariant-loop-w
invariant-loop-w l = SetTo l.weights l.w l.initial.rules l.rules
