-- `fill` meets its contract: the tables are made, the pattern's bytes are the letters, and the chart is filled by them.
-- Assumes nothing.
use mathlib.Core.Path.{refl}
use Prim.Native.Nat.{zero}
use lib.ListN.{replicate}
use Rattle.charts.specs.Inner.Plan.{chart_row}
use Rattle.sampling.proofs.Readying.{chart_asks, chart_filled}
use Rattle.sampling.proofs.pattern.fill.Goals as goal

pub fill-requires : goal.fill-requires
fill-requires c = (chart_row, chart_asks c.requires c.ready.ensures c.set_letters.ensures (replicate 154 zero) refl)

pub returns : goal.returns
returns c =
    chart_filled c.requires c.ready.ensures c.set_letters.ensures
    (c.fill.ensures chart_row (chart_asks c.requires c.ready.ensures c.set_letters.ensures (replicate 154 zero) refl))
