-- `without` meets its contract. Assumes nothing.
use Rattle.sets.proofs.Digits.{member_without}
use Rattle.sets.proofs.without.Goals as goal

pub returns : goal.returns
returns c b = member_without _ _ b
