-- `add_left` meets its contract. The loop's invariant is `LeftWalk`: what the row has, with what the right nonterminals left add, is what all
-- with this left nonterminal add. Assumes nothing.
use Rattle.charts.proofs.Adding.{LeftWalk}
use Rattle.charts.proofs.chart.Sources.add_left.Given as goal

abbrev pub invariant-loop-c : goal.invariant-loop-c
invariant-loop-c l = LeftWalk l.self.rules.now l.wanted l.s.row l.s.left l.s.right l.b l.initial.totals l.totals l.set l.c-iterator
