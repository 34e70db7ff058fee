-- `number` meets its contract: where preparing is refused so is the call, and with the tables at hand `number_by` answers.
-- Assumes nothing.
use mathlib.Core.Path.{◌∙◌}
use native.Mathlib.Omega.{arith}
use Rattle.answers.proofs.Results.{handed_on}
use Rattle.lists.proofs.Tables.{wide_made, made_entry}
use Rattle.ranking.proofs.Answering.{prepared_none, prepared_refused, rank_unprepared, rank_tabled}
use Rattle.ranking.proofs.Finding.{roomy_made, prepared_sought}
use Rattle.ranking.proofs.rank.number.Goals as goal

pub prepare-requires : goal.prepare-requires
prepare-requires g c =
    let p = roomy_made c.requires in
    record { rules_room = record { long = omega arith; wide = wide_made 13 256 0 }; long = omega (arith, p.counts); wide = p.wide; zeros = λ r A l. p.zeros r A }

pub number_by-requires : goal.number_by-requires
number_by-requires g c = prepared_sought (made_entry 13 256) (omega arith) (roomy_made c.requires) c.prepare.ensures c.in_ok-prepare.was

pub returns-in_err-prepare : goal.returns-in_err-prepare
returns-in_err-prepare g c = rw (handed_on c.from_residual.ensures.1) (rank_unprepared _ _ _ (prepared_refused c.prepare.ensures _ c.in_err-prepare.was))

pub returns : goal.returns
returns g c =
    let q = c.prepare.ensures in
    c.number_by.ensures ∙ rank_tabled _ _ (prepared_none q c.in_ok-prepare.was) (q.ready c.in_ok-prepare.was).holds
