-- `behind` meets its contract, by the length.
-- Assumes nothing.
use Rattle.sampling.proofs.Readying.{behind_short, behind_long}
use Rattle.sampling.proofs.prepare.behind.Goals as goal

pub returns-then-n-le5 : goal.returns-then-n-le5
returns-then-n-le5 c = behind_short _ c.if-n-le5.true

pub returns-else-n-le5 : goal.returns-else-n-le5
returns-else-n-le5 c = behind_long _ c.if-n-le5.false
