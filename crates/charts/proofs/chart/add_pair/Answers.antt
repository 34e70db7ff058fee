use mathlib.Core.Path.{sym, ◌∙◌}
use native.Mathlib.Omega.{arith}
use Rattle.charts.proofs.Walking.{walk_end, pair_start, pair_low, pair_owner_lem, pair_less, pair_fits, pair_step, pair_skip}
use Rattle.charts.proofs.chart.add_pair.Goals as goal
use Rattle.charts.proofs.chart.add_pair.Goals.{then-has, else-has}

pub loop-l-init : goal.loop-l-init
loop-l-init c = pair_start c.requires c.pair_head-l.ensures.0

pub link_at-a-requires : goal.link_at-a-requires
link_at-a-requires c = (omega (arith, c.requires.adds.linked.long), omega (arith, pair_low c.requires c.loop-l-test.true c.loop-l.invariant))

pub has-requires : goal.has-requires
has-requires c = omega (arith, pair_owner_lem c.requires c.loop-l-test.true c.loop-l.invariant _ c.link_at-a.ensures.0, c.requires.b_low)

pub overflow_mul-totals : goal.overflow_mul-totals
overflow_mul-totals c = omega (arith, pair_fits c.requires c.loop-l-test.true c.loop-l.invariant _ c.link_at-a.ensures.0 (sym c.has.ensures ∙ c.if-has.true))

pub bounds-totals-a : goal.bounds-totals-a
bounds-totals-a c = pair_owner_lem c.requires c.loop-l-test.true c.loop-l.invariant _ c.link_at-a.ensures.0

pub overflow_add-totals : goal.overflow_add-totals
overflow_add-totals c = omega (arith, pair_fits c.requires c.loop-l-test.true c.loop-l.invariant _ c.link_at-a.ensures.0 (sym c.has.ensures ∙ c.if-has.true))

pub bounds-totals-a-then-has : goal.bounds-totals-a-then-has
bounds-totals-a-then-has c = pair_owner_lem c.requires c.loop-l-test.true c.loop-l.invariant _ c.link_at-a.ensures.0

pub with-set-requires : goal.with-set-requires
with-set-requires c = pair_owner_lem c.requires c.loop-l-test.true c.loop-l.invariant _ c.link_at-a.ensures.0

pub link_at-l-requires : goal.link_at-l-requires
link_at-l-requires c = (omega (arith, c.requires.adds.linked.long), omega (arith, pair_low c.requires c.loop-l-test.true c.loop-l.invariant))

pub loop-l-smaller : goal.loop-l-smaller
loop-l-smaller c = pair_less c.requires c.loop-l-test.true c.loop-l.invariant c.link_at-l.ensures.0

pub loop-l-preserved : goal.loop-l-preserved
loop-l-preserved c =
    let q = c.requires in
    let w = c.loop-l.invariant in
    let some = c.loop-l-test.true in
    let is = c.link_at-a.ensures.0 in
    elim c.if-has.branch [
      | then-has o ↦ rw (o.totals-is, o.set-is) (pair_step q some w _ is (sym c.has.ensures ∙ o.if-has.true) c.link_at-l.ensures.0 o.with-set.ensures)
      | else-has o ↦ rw (o.totals-is, o.set-is) (pair_skip q some w _ is (sym c.has.ensures ∙ o.if-has.false) c.link_at-l.ensures.0)
    ]

pub returns : goal.returns
returns c = walk_end c.loop-l-test.false c.loop-l.invariant
