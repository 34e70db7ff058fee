-- `lowest` meets its contract. Assumes nothing.
use Rattle.sets.proofs.Lists.{members_lowest}
use Rattle.sets.proofs.lowest.Goals as goal

pub returns : goal.returns
returns c = members_lowest c.args.s c.requires c.ranges.s.fits
