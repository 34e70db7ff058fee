-- `fill_cuts` meets its contract. The loop's invariant is `CutsWalk`: what the row has, with what the cuts left add, is what all add.
-- Assumes nothing.
use Rattle.charts.proofs.Cutting.{CutsWalk}
use Rattle.charts.proofs.chart.Sources.fill_cuts.Given as goal

abbrev pub invariant-loop-k : goal.invariant-loop-k
invariant-loop-k l = CutsWalk l.self.rules.now l.self.plan.now l.self.map.now l.p l.m l.sets l.initial.totals l.totals l.set l.k-iterator
