-- `note` meets its contract: beyond the end nothing is set.
-- Assumes nothing.
use mathlib.Core.Path.{sym}
use native.Mathlib.Omega.{arith}
use lib.Seq.{set_out}
use Rattle.sampling.proofs.heard.note.Goals as goal

pub returns-else-i-ends : goal.returns-else-i-ends
returns-else-i-ends c = let a = c.args in sym (set_out a.ends.now a.i _ (omega (arith, c.if-i-ends.false)))
