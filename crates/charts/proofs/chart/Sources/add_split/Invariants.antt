-- `add_split` meets its contract. The loop's invariant is `SplitWalk`: what the row has, with what the left nonterminals left add, is what all
-- pair rules add. Assumes nothing.
use Rattle.charts.proofs.Adding.{SplitWalk}
use Rattle.charts.proofs.chart.Sources.add_split.Given as goal

abbrev pub invariant-loop-b : goal.invariant-loop-b
invariant-loop-b l = SplitWalk l.self.rules.now l.wanted l.s.row l.s.left l.s.right l.initial.totals l.totals l.set l.b-iterator
