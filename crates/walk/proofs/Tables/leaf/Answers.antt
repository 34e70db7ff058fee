-- `leaf` meets its contract: the word picked is written. Assumes nothing.
use Rattle.walk.proofs.Leaves.{leaf_written}
use Rattle.walk.proofs.Tables.leaf.Goals as goal

pub returns : goal.returns
returns c = leaf_written c.args.out.now c.requires.2 c.pick-w.ensures
