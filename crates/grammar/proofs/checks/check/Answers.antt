-- `checks::check` meets its contract: `read` answers, in a table of its own.
-- Assumes nothing.
use native.Mathlib.Omega.{arith}
use Rattle.lists.proofs.Tables.{wide_made}
use Rattle.grammar.proofs.checks.check.Goals as goal

pub read-requires : goal.read-requires
read-requires c = record { long = omega arith; wide = wide_made 4 256 0 }
