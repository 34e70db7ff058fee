-- `add_word` meets its contract. The loop's invariant is `WordWalk`: what the row has, with what the rules from the one at hand on add, is
-- what all with this word add. The measure is the link to the rule at hand: each walk goes down.
-- Assumes nothing.
use Rattle.charts.proofs.Walking.{WordWalk}
use Rattle.charts.proofs.chart.add_word.Given as goal

abbrev pub invariant-loop-l : goal.invariant-loop-l
invariant-loop-l l = WordWalk l.rules l.x l.row l.initial.totals l.totals l.set l.l

abbrev pub decreases-loop-l : goal.decreases-loop-l
decreases-loop-l l = l.l
