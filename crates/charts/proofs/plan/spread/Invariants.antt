-- `spread` meets its contract. The loop's invariant: the halves at the left lengths that the iterator no longer has are there.
-- Assumes nothing.
use Rattle.charts.proofs.Spreading.{Spreading}
use Rattle.charts.proofs.plan.spread.Given as goal

abbrev pub invariant-loop-k : goal.invariant-loop-k
invariant-loop-k l = Spreading l.cuts l.m l.k-iterator l.initial.spots l.spots
