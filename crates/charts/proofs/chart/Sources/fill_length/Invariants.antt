-- `fill_length` meets its contract. The loop's invariant is `LengthWalk`: the needed spans of this length are filled but for those at the
-- positions left. Assumes nothing.
use Rattle.charts.proofs.Charting.{LengthWalk}
use Rattle.charts.proofs.chart.Sources.fill_length.Given as goal

abbrev pub invariant-loop-p : goal.invariant-loop-p
invariant-loop-p l = LengthWalk l.self.rules.now l.self.plan.now l.self.map.now l.m l.p-iterator l.initial.sets l.initial.totals l.sets l.totals
