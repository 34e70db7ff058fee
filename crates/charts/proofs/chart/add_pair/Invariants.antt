-- `add_pair` meets its contract. The loop's invariant is `PairWalk`: what the row has, with what the rules from the one at hand on add, is what
-- all with these two nonterminals add. A rule whose owner isn't wanted adds nothing. The measure is the link to the rule at hand: each walk goes down.
-- Assumes nothing.
use Prim.Native.Nat.{◌*◌}
use Rattle.lists.specs.Inner.Tables.{entry}
use Rattle.charts.proofs.Walking.{PairWalk}
use Rattle.charts.proofs.chart.add_pair.Given as goal

abbrev pub invariant-loop-l : goal.invariant-loop-l
invariant-loop-l l = PairWalk l.rules l.wanted (entry l.initial.totals l.left l.b * entry l.initial.totals l.right l.c) l.b l.c l.row l.initial.totals l.totals l.set l.l

abbrev pub decreases-loop-l : goal.decreases-loop-l
decreases-loop-l l = l.l
