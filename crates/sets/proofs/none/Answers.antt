-- `none` meets its contract. Assumes nothing.
use Rattle.sets.proofs.Lists.{members_none}
use Rattle.sets.proofs.none.Goals as goal

pub returns : goal.returns
returns c = members_none
