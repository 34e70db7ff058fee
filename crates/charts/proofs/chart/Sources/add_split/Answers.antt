use mathlib.Core.Path.{◌∙◌}
use Rattle.charts.proofs.Adding.{split_start, split_end, split_asks, split_step}
use Rattle.charts.proofs.chart.Sources.add_split.Goals as goal

pub loop-b-init : goal.loop-b-init
loop-b-init c = split_start c.requires _ (c.into_iter-b-iterator.ensures.into_iter_gives ∙ c.each-b-items.ensures)

pub add_left-requires : goal.add_left-requires
add_left-requires c = split_asks c.requires _ c.loop-b.invariant _ _ c.in-Some.ensures.steps

pub loop-b-preserved : goal.loop-b-preserved
loop-b-preserved c = split_step c.requires _ c.loop-b.invariant _ _ c.in-Some.ensures.steps c.add_left.ensures c.either-set.ensures

pub returns : goal.returns
returns c = split_end c.requires _ c.loop-b.invariant c.in-None.ensures.steps.0
