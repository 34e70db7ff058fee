-- `skip` meets its contract: the search by halves ends where the skip does, as each middle tells on which side that is.
-- Assumes nothing.
use Prim.Native.Nat.{◌+◌, ◌-◌, ◌/◌}
use native.Mathlib.Omega.{arith}
use Rattle.sampling.proofs.Skipping.{passed_gone, passed_fits, search_start, mid_inside, search_right, search_left, search_end}
use Rattle.sampling.proofs.skip.Heard.skip.Goals as goal

pub loop-low-init : goal.loop-low-init
loop-low-init c = search_start

pub overflow_sub-mid : goal.overflow_sub-mid
overflow_sub-mid c = let s = c.loop-low.invariant in omega arith

pub overflow_add-mid : goal.overflow_add-mid
overflow_add-mid c = let s = c.loop-low.invariant in omega (arith, s.ordered, s.inside)

pub offset_bounds-self-mid : goal.offset_bounds-self-mid
offset_bounds-self-mid c = omega (arith, mid_inside c.loop-low.invariant c.loop-low-test.true, c.requires.few)

pub bounds-self-mid : goal.bounds-self-mid
bounds-self-mid c = mid_inside c.loop-low.invariant c.loop-low-test.true

pub passed-requires : goal.passed-requires
passed-requires c n = omega (arith, mid_inside c.loop-low.invariant c.loop-low-test.true, c.requires.told.enough n)

pub overflow_add-first : goal.overflow_add-first
overflow_add-first c =
    let l = c.loop-low in
    omega (arith, passed_fits c.requires (l.low + (l.high - l.low) / 2) (omega (arith, mid_inside l.invariant c.loop-low-test.true)) c.passed.ensures)

pub overflow_add-low : goal.overflow_add-low
overflow_add-low c = omega (arith, mid_inside c.loop-low.invariant c.loop-low-test.true, c.requires.few)

pub loop-low-smaller-then-self-mid : goal.loop-low-smaller-then-self-mid
loop-low-smaller-then-self-mid c = omega (arith, c.loop-low-test.true)

pub loop-low-preserved-then-self-mid : goal.loop-low-preserved-then-self-mid
loop-low-preserved-then-self-mid c =
    let gone_is = passed_gone c.requires (c.loop-low.low + (c.loop-low.high - c.loop-low.low) / 2) (omega (arith, mid_inside c.loop-low.invariant c.loop-low-test.true)) c.passed.ensures in
    search_right c.requires.apart c.loop-low.invariant (omega arith) (omega (arith, c.loop-low-test.true)) (omega (arith, gone_is, c.if-self-mid.true))

pub loop-low-smaller : goal.loop-low-smaller
loop-low-smaller c = omega (arith, c.loop-low-test.true)

pub loop-low-preserved : goal.loop-low-preserved
loop-low-preserved c =
    let gone_is = passed_gone c.requires (c.loop-low.low + (c.loop-low.high - c.loop-low.low) / 2) (omega (arith, mid_inside c.loop-low.invariant c.loop-low-test.true)) c.passed.ensures in
    search_left c.requires.apart c.loop-low.invariant (omega arith) (omega (arith, c.loop-low-test.true)) (omega (arith, gone_is, c.if-self-mid.false))

pub passed-requires-2 : goal.passed-requires-2
passed-requires-2 c n = let s = c.loop-low.invariant in omega (arith, s.ordered, s.inside, c.requires.told.enough n)

pub overflow_add-result : goal.overflow_add-result
overflow_add-result c =
    let s = c.loop-low.invariant in
    omega (arith, passed_fits c.requires c.loop-low.low (omega (arith, s.ordered, s.inside)) c.passed-2.ensures)

pub returns : goal.returns
returns c =
    let s = c.loop-low.invariant in
    omega (arith, passed_gone c.requires c.loop-low.low (omega (arith, s.ordered, s.inside)) c.passed-2.ensures, search_end s c.loop-low-test.false)
