use mathlib.Core.Path.{◌∙◌}
use Rattle.charts.proofs.Charting.{length_start, length_end, length_asks, length_step}
use Rattle.charts.proofs.chart.Sources.fill_length.Goals as goal

pub loop-p-init : goal.loop-p-init
loop-p-init c = length_start _ (c.into_iter-p-iterator.ensures.into_iter_gives ∙ c.each-p-items.ensures)

pub fill_span-requires : goal.fill_span-requires
fill_span-requires c = length_asks c.loop-p.invariant _ _ c.in-Some.ensures.steps c.requires.0 c.requires.1 c.requires.2

pub loop-p-preserved : goal.loop-p-preserved
loop-p-preserved c = length_step c.loop-p.invariant _ _ c.in-Some.ensures.steps c.fill_span.ensures

pub returns : goal.returns
returns c = length_end c.loop-p.invariant c.in-None.ensures.steps.0
