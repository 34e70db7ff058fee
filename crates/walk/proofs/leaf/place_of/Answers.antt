use native.Mathlib.Omega.{arith}
use Rattle.walk.proofs.Linking.{linking_start, linking_low, linking_some, linking_end, linking_next}
use Rattle.walk.proofs.leaf.place_of.Goals as goal

pub loop-l-init : goal.loop-l-init
loop-l-init c = linking_start c.requires c.link_at-l.ensures.0

pub link_at-requires : goal.link_at-requires
link_at-requires c = let s = c.requires in (omega (arith, s.linked.long), omega (arith, linking_low s c.loop-l.invariant))

pub link_at-l-requires-in-loop-l : goal.link_at-l-requires-in-loop-l
link_at-l-requires-in-loop-l c = let s = c.requires in (omega (arith, s.linked.long), omega (arith, linking_low s c.loop-l.invariant))

pub loop-l-smaller : goal.loop-l-smaller
loop-l-smaller c = (linking_next c.requires c.loop-l.invariant c.link_at.ensures.0 c.loop-l-test.true c.link_at-l-in-loop-l.ensures.0).1

pub loop-l-preserved : goal.loop-l-preserved
loop-l-preserved c = (linking_next c.requires c.loop-l.invariant c.link_at.ensures.0 c.loop-l-test.true c.link_at-l-in-loop-l.ensures.0).0

pub overflow_sub-result : goal.overflow_sub-result
overflow_sub-result c = omega (arith, linking_some c.requires c.loop-l.invariant)

pub returns : goal.returns
returns c = linking_end c.requires c.loop-l.invariant c.link_at.ensures.0 c.loop-l-test.false
