use native.Mathlib.Omega.{arith}
use Rattle.counting.proofs.Finding.{find_start, find_owners, find_step, find_end}
use Rattle.counting.proofs.needs.find.Goals as goal

pub loop-m-init : goal.loop-m-init
loop-m-init c = find_start c.requires c.none-met.ensures c.start.ensures.0 c.with-here.ensures

pub with_all_halves-halves-requires : goal.with_all_halves-halves-requires
with_all_halves-halves-requires c = find_owners c.requires c.loop-m.invariant _ c.without.ensures

pub loop-m-preserved : goal.loop-m-preserved
loop-m-preserved c = find_step c.requires c.loop-m.invariant _ c.without.ensures _ c.with_all_halves-halves.ensures c.either-met.ensures (omega arith)

pub returns : goal.returns
returns c = find_end c.requires c.loop-m.invariant (omega arith)
