-- `unrank` meets its contract: where preparing is refused so is the call, and with the tables at hand `give` answers.
-- Assumes nothing.
use mathlib.Core.Path.{◌∙◌}
use native.Mathlib.Omega.{arith}
use Rattle.answers.proofs.Results.{handed_on}
use Rattle.lists.proofs.Tables.{wide_made, made_entry}
use Rattle.ranking.proofs.Answering.{prepared_none, prepared_refused, give_unprepared, give_tabled}
use Rattle.ranking.proofs.unrank.unrank.Goals as goal

pub prepare-requires : goal.prepare-requires
prepare-requires c = record { rules_room = record { long = omega arith; wide = wide_made 4 256 0 }; long = omega arith; wide = wide_made 17 32 0; zeros = λ r A l. made_entry 17 32 r A }

pub give-requires : goal.give-requires
give-requires c = (c.prepare.ensures.ready c.in_ok-prepare.was).counted

pub returns-in_err-prepare : goal.returns-in_err-prepare
returns-in_err-prepare c = rw (handed_on c.from_residual.ensures.1) (give_unprepared _ _ _ _ _ (prepared_refused c.prepare.ensures _ c.in_err-prepare.was))

pub returns : goal.returns
returns c =
    let q = c.prepare.ensures in
    c.give.ensures ∙ give_tabled _ _ _ _ (prepared_none q c.in_ok-prepare.was) (q.ready c.in_ok-prepare.was).holds
