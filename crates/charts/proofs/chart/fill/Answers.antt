use native.Mathlib.Omega.{arith}
use Rattle.charts.proofs.Charting.{fill_asks, fill_step, fill_end}
use Rattle.charts.proofs.chart.fill.Goals as goal

pub fill_length-requires : goal.fill_length-requires
fill_length-requires c = let p = c.requires in (p.0, _, fill_asks c.loop-m.invariant p.0 p.1 (omega (arith, c.length-m-end.ensures)))

pub loop-m-preserved : goal.loop-m-preserved
loop-m-preserved c = fill_step c.loop-m.invariant (omega (arith, c.length-m-end.ensures)) (λ first q. c.fill_length.ensures first _ q)

pub returns : goal.returns
returns c = fill_end c.loop-m.invariant (omega (arith, c.length-m-end.ensures))
