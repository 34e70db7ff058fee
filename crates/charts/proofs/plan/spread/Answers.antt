use native.Mathlib.Omega.{arith}
use Rattle.charts.proofs.Spreading.{lowest_within, spreading_turn, spreading_end}
use Rattle.charts.proofs.plan.spread.Goals as goal

pub offset_bounds-spots-k : goal.offset_bounds-spots-k
offset_bounds-spots-k c = omega (arith, lowest_within c.requires c.loop-k.invariant c.in-Some.ensures.steps)

pub bounds-spots-k : goal.bounds-spots-k
bounds-spots-k c = omega (arith, lowest_within c.requires c.loop-k.invariant c.in-Some.ensures.steps)

pub offset_bounds-spots-k-in-loop-k : goal.offset_bounds-spots-k-in-loop-k
offset_bounds-spots-k-in-loop-k c = omega (arith, lowest_within c.requires c.loop-k.invariant c.in-Some.ensures.steps)

pub bounds-spots-k-in-loop-k : goal.bounds-spots-k-in-loop-k
bounds-spots-k-in-loop-k c = omega (arith, lowest_within c.requires c.loop-k.invariant c.in-Some.ensures.steps)

pub overflow_sub-m : goal.overflow_sub-m
overflow_sub-m c = omega (arith, lowest_within c.requires c.loop-k.invariant c.in-Some.ensures.steps)

pub moved-requires : goal.moved-requires
moved-requires c = omega (arith, lowest_within c.requires c.loop-k.invariant c.in-Some.ensures.steps)

pub overflow_sub-spots : goal.overflow_sub-spots
overflow_sub-spots c = omega (arith, lowest_within c.requires c.loop-k.invariant c.in-Some.ensures.steps)

pub loop-k-preserved : goal.loop-k-preserved
loop-k-preserved c =
    spreading_turn c.requires c.loop-k.invariant _ _ c.in-Some.ensures.steps
    c.either.result c.either.ensures
    c.moved.result c.moved.ensures
    c.either-in-loop-k.result c.either-in-loop-k.ensures

pub returns : goal.returns
returns c = spreading_end c.loop-k.invariant c.in-None.ensures.steps.0
