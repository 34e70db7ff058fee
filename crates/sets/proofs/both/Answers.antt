-- `both` meets its contract. Assumes nothing.
use Rattle.sets.proofs.Digits.{member_and}
use Rattle.sets.proofs.both.Goals as goal

pub returns : goal.returns
returns c b = member_and _ _ b
