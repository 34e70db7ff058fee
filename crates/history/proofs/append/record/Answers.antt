-- `record` meets its contract: the four first bytes, and then the sentence, over zeros.
-- Assumes nothing.
use native.Mathlib.Omega.{arith}
use Rattle.history.proofs.Writing.{record_made}
use Rattle.history.proofs.append.record.Goals as goal

pub returns : goal.returns
returns c = record_made _ _ _ (omega arith) c.put_two.ensures c.copy_from_slice.ensures.after
