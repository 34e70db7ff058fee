-- `clear` meets its contract: a row outside an empty set is 0 already, one number is a step of `ClearWalk`, and a whole row is cleared as it is said.
-- Assumes nothing.
use native.Mathlib.Omega.{arith}
use Rattle.sets.proofs.Loops.{lowest_low}
use Rattle.charts.proofs.Clearing.{clear_start, clear_end, clear_step}
use Rattle.charts.proofs.chart.clear.Goals as goal

pub returns-then-set-eq0 : goal.returns-then-set-eq0
returns-then-set-eq0 c = let p = c.requires in clear_end p (clear_start p) c.if-set-eq0.true

pub offset_bounds-totals-a : goal.offset_bounds-totals-a
offset_bounds-totals-a c = omega (arith, lowest_low c.args.set c.lowest-a.result c.lowest-a.ensures)

pub bounds-totals-a : goal.bounds-totals-a
bounds-totals-a c = lowest_low c.args.set c.lowest-a.result c.lowest-a.ensures

pub returns : goal.returns
returns c =
    let p = c.requires in
    clear_end p (clear_step p (clear_start p) c.lowest-a.result c.lowest-a.ensures c.after_lowest-others.result c.after_lowest-others.ensures) c.if-others-ne0.false
