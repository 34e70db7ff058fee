use native.Mathlib.Omega.{arith}
use Rattle.charts.proofs.Spreading.{spotted_start, spotted_turn, spotted_end}
use Rattle.charts.proofs.plan.spot.Goals as goal

pub loop-m-init : goal.loop-m-init
loop-m-init c = spotted_start c.requires _ c.with.result c.none.ensures c.with.ensures

pub loop-m-preserved : goal.loop-m-preserved
loop-m-preserved c = spotted_turn c.requires c.loop-m.invariant (omega arith) c.spread.ensures

pub returns : goal.returns
returns c = spotted_end {m = c.loop-m.m} c.requires c.loop-m.invariant (omega arith)
