use native.Mathlib.Omega.{arith}
use Rattle.walk.proofs.Leaves.{scanning_low, scanning_room, scanning_found, scanning_next}
use Rattle.walk.proofs.leaf.scan.Goals as goal

pub word_at-word-requires : goal.word_at-word-requires
word_at-word-requires c = let s = c.requires in (s.table.long, omega (arith, scanning_low s c.loop-rest.invariant))

pub returns-then-rest-weight : goal.returns-then-rest-weight
returns-then-rest-weight c = scanning_found c.requires c.loop-rest.invariant c.word_at-word.ensures c.weight-weight.ensures.0 c.weight-measured.ensures.0 c.if-rest-weight.true

pub overflow_add-place : goal.overflow_add-place
overflow_add-place c = omega (arith, scanning_room c.requires c.loop-rest.invariant c.word_at-word.ensures c.weight-weight.ensures.0 c.weight-measured.ensures.0)

pub overflow_add-i : goal.overflow_add-i
overflow_add-i c = omega (arith, scanning_low c.requires c.loop-rest.invariant)

pub loop-rest-smaller : goal.loop-rest-smaller
loop-rest-smaller c = omega (arith, scanning_low c.requires c.loop-rest.invariant)

pub loop-rest-preserved : goal.loop-rest-preserved
loop-rest-preserved c = scanning_next c.requires c.loop-rest.invariant c.word_at-word.ensures c.weight-weight.ensures.0 c.weight-measured.ensures.0 c.if-rest-weight.false
