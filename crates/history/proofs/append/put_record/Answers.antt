-- `put_record` meets its contract: a record has twenty bytes.
-- Assumes nothing.
use mathlib.Core.Path.{◌∙◌}
use native.Mathlib.Omega.{arith}
use Rattle.history.proofs.Writing.{part_put, record_length}
use Rattle.history.proofs.append.put_record.Goals as goal

pub returns : goal.returns
returns c = part_put _ _ _ 20 (c.copy_from_slice.ensures.after ∙ c.record.ensures) (record_length _ _ _ (omega arith))
