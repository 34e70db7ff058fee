-- `cuts_at` meets its contract. The loop's invariant: the set has the left lengths below k at which a span can be cut.
-- Assumes nothing.
use Rattle.charts.proofs.Gathering.{CutsTo}
use Rattle.charts.proofs.plan.cuts_at.Given as goal

abbrev pub invariant-loop-k : goal.invariant-loop-k
invariant-loop-k l = CutsTo l.wanted l.lefts l.rights l.m l.k l.s
