-- `either` meets its contract. Assumes nothing.
use Rattle.sets.proofs.Digits.{member_or}
use Rattle.sets.proofs.either.Goals as goal

pub returns : goal.returns
returns c b = member_or _ _ b
