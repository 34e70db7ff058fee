-- `with` meets its contract. Assumes nothing.
use Rattle.sets.proofs.Digits.{member_with}
use Rattle.sets.proofs.with.Goals as goal

pub returns : goal.returns
returns c b = member_with _ _ b c.requires
