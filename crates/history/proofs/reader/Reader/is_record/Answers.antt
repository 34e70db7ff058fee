-- `Reader::is_record` meets its contract: K lies inside the bytes.
-- Assumes nothing.
use native.Mathlib.Omega.{arith}
use Rattle.history.proofs.Acceptance.{known}
use Rattle.history.proofs.reader.Reader.is_record.Goals as goal

pub two_at-requires : goal.two_at-requires
two_at-requires c = let k = known _ c.requires in omega arith
