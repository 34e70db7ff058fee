use mathlib.Core.Path.{◌∙◌}
use native.Mathlib.Omega.{arith}
use Rattle.charts.proofs.Cutting.{cuts_made, cuts_start, cuts_end, cut_within, cut_asks, cut_step}
use Rattle.charts.proofs.chart.Sources.fill_cuts.Goals as goal

pub loop-k-init : goal.loop-k-init
loop-k-init c = cuts_start c.requires c.row_at-row.ensures c.clear.ensures _ (c.into_iter-k-iterator.ensures.into_iter_gives ∙ c.each-k-items.ensures)

pub row_at-requires : goal.row_at-requires
row_at-requires c =
    let q = c.requires.makes in (q.low, omega (arith, cut_within c.loop-k.invariant _ _ c.in-Some.ensures.steps, q.short))

pub overflow_add-p : goal.overflow_add-p
overflow_add-p c = omega (arith, cut_within c.loop-k.invariant _ _ c.in-Some.ensures.steps)

pub overflow_sub-m : goal.overflow_sub-m
overflow_sub-m c = omega (arith, cut_within c.loop-k.invariant _ _ c.in-Some.ensures.steps)

pub row_at-requires-in-loop-k : goal.row_at-requires-in-loop-k
row_at-requires-in-loop-k c =
    let within = cut_within c.loop-k.invariant _ _ c.in-Some.ensures.steps in (omega (arith, within), omega (arith, c.requires.makes.short))

pub add_split-requires : goal.add_split-requires
add_split-requires c =
    cut_asks c.loop-k.invariant _ _ c.in-Some.ensures.steps _ _ _ c.row_at-row.ensures c.row_at.ensures c.row_at-in-loop-k.ensures

pub loop-k-preserved : goal.loop-k-preserved
loop-k-preserved c =
    cut_step c.loop-k.invariant _ _ c.in-Some.ensures.steps _ _ _ c.row_at-row.ensures c.row_at.ensures c.row_at-in-loop-k.ensures
    c.add_split.ensures c.either-set.ensures

pub returns : goal.returns
returns c = cuts_made c.requires c.row_at-row.result c.row_at-row.ensures c.clear.ensures (cuts_end c.loop-k.invariant c.in-None.ensures.steps.0)
