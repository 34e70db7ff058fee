-- `Reader::open` meets its contract: an accepted history has its first four bytes.
-- Assumes nothing.
use native.Mathlib.Omega.{arith}
use Rattle.history.proofs.Acceptance.{known}
use Rattle.history.proofs.reader.Reader.open.Goals as goal

pub two_at-requires : goal.two_at-requires
two_at-requires c = let k = known _ c.requires in omega arith
