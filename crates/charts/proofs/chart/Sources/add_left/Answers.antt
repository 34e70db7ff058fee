use mathlib.Core.Path.{◌∙◌}
use Rattle.charts.proofs.Adding.{left_start, left_end, left_asks, left_step}
use Rattle.charts.proofs.chart.Sources.add_left.Goals as goal

pub loop-c-init : goal.loop-c-init
loop-c-init c = left_start c.requires _ (c.into_iter-c-iterator.ensures.into_iter_gives ∙ c.each-c-items.ensures) c.both.ensures

pub add_pair-requires : goal.add_pair-requires
add_pair-requires c = left_asks c.requires _ c.loop-c.invariant _ _ c.in-Some.ensures.steps

pub loop-c-preserved : goal.loop-c-preserved
loop-c-preserved c = left_step c.requires _ c.loop-c.invariant _ _ c.in-Some.ensures.steps c.add_pair.ensures c.either-set.ensures

pub returns : goal.returns
returns c = left_end c.requires _ c.loop-c.invariant c.in-None.ensures.steps.0
