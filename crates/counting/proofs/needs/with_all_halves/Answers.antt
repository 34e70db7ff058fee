use Rattle.counting.proofs.Finding.{owner_here, owners_step, owners_end}
use Rattle.counting.proofs.needs.with_all_halves.Goals as goal

pub with_halves-set-requires : goal.with_halves-set-requires
with_halves-set-requires c = (c.requires.table, c.requires.inside _ (owner_here c.loop-a.invariant c.in-Some.ensures.steps))

pub loop-a-preserved : goal.loop-a-preserved
loop-a-preserved c = owners_step c.loop-a.invariant _ _ _ c.in-Some.ensures.steps c.with_halves-set.ensures

pub returns : goal.returns
returns c = owners_end c.loop-a.invariant c.in-None.ensures.steps.0
