-- `row` meets its contract. The loop's invariant: the spans before p have their rows.
-- Assumes nothing.
use Rattle.charts.specs.Inner.Planning.{RowAs}
use Rattle.charts.proofs.plan.row.Given as goal

abbrev pub invariant-loop-p : goal.invariant-loop-p
invariant-loop-p l = RowAs l.spots l.base l.p l.row
