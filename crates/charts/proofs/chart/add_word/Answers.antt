use native.Mathlib.Omega.{arith}
use Rattle.charts.proofs.Walking.{walk_end, word_start, word_low, word_owner_lem, word_less, word_step}
use Rattle.charts.proofs.chart.add_word.Goals as goal

pub loop-l-init : goal.loop-l-init
loop-l-init c = let q = c.requires in word_start q.0 q.1 c.link_at-l.ensures.0

pub link_at-a-requires : goal.link_at-a-requires
link_at-a-requires c = (omega (arith, c.requires.0.linked.long), omega (arith, word_low c.requires.0 c.loop-l-test.true c.loop-l.invariant))

pub bounds-totals-a : goal.bounds-totals-a
bounds-totals-a c = word_owner_lem c.requires.0 c.loop-l-test.true c.loop-l.invariant _ c.link_at-a.ensures.0

pub with-set-requires : goal.with-set-requires
with-set-requires c = word_owner_lem c.requires.0 c.loop-l-test.true c.loop-l.invariant _ c.link_at-a.ensures.0

pub link_at-l-requires-in-loop-l : goal.link_at-l-requires-in-loop-l
link_at-l-requires-in-loop-l c = (omega (arith, c.requires.0.linked.long), omega (arith, word_low c.requires.0 c.loop-l-test.true c.loop-l.invariant))

pub loop-l-smaller : goal.loop-l-smaller
loop-l-smaller c = word_less c.requires.0 c.loop-l-test.true c.loop-l.invariant c.link_at-l-in-loop-l.ensures.0

pub loop-l-preserved : goal.loop-l-preserved
loop-l-preserved c =
    word_step c.requires.0 c.loop-l-test.true c.loop-l.invariant c.link_at-a.result c.link_at-a.ensures.0 c.link_at-l-in-loop-l.ensures.0
    c.with-set.ensures

pub returns : goal.returns
returns c = walk_end c.loop-l-test.false c.loop-l.invariant
