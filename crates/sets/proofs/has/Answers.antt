-- `has` meets its contract. Assumes nothing.
use Rattle.sets.proofs.Digits.{member_has}
use Rattle.sets.proofs.has.Goals as goal

pub returns : goal.returns
returns c = member_has _ _
