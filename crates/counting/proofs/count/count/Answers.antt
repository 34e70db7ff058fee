-- `count` meets its contract: a refusal is handed on, and otherwise the table has T(S, n). Assumes nothing.
use native.Mathlib.Omega.{arith}
use Rattle.answers.proofs.Results.{handed_on}
use Rattle.lists.proofs.Tables.{wide_made, made_entry}
use Rattle.counting.proofs.Preparing.{count_refused, count_asks, count_given}
use Rattle.counting.proofs.count.count.Goals as goal

pub prepare-requires : goal.prepare-requires
prepare-requires c =
    record {
      rules_room = record { long = omega arith; wide = wide_made 4 256 0 };
      long = omega arith;
      wide = wide_made 17 32 0;
      zeros = λ r A l. made_entry 17 32 r A;
    }

pub count_at-requires : goal.count_at-requires
count_at-requires c = count_asks c.prepare.ensures c.in_ok-prepare.was c.start.ensures.0

pub returns-in_err-prepare : goal.returns-in_err-prepare
returns-in_err-prepare c = rw (handed_on c.from_residual.ensures.1) (count_refused c.prepare.ensures c.in_err-prepare.was)

pub returns : goal.returns
returns c = count_given c.prepare.ensures c.in_ok-prepare.was c.start.ensures.0 c.count_at.ensures
