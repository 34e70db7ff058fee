-- `after_lowest` meets its contract. Assumes nothing.
use Rattle.sets.proofs.Lists.{members_after}
use Rattle.sets.proofs.after_lowest.Goals as goal

pub returns : goal.returns
returns c = members_after c.args.s c.requires c.ranges.s.fits
