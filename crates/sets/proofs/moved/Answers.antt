-- `moved` meets its contract. Assumes nothing.
use Rattle.sets.proofs.Digits.{member_moved}
use Rattle.sets.proofs.moved.Goals as goal

pub returns : goal.returns
returns c b h = member_moved _ _ b h
