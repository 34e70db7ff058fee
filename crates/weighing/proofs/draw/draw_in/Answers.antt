-- `draw_in` meets its contract: where preparing is refused so is the call, and else the draw from what is prepared is the call's.
-- Assumes nothing.
use mathlib.Core.Path.{◌∙◌}
use Rattle.answers.proofs.Results.{handed_on}
use Rattle.charts.proofs.Mapping.{counts_map_lem}
use Rattle.weighing.proofs.Preparing.{call_made, drawn_unready, draw_served, drawn_ready}
use Rattle.weighing.proofs.draw.draw_in.Goals as goal

pub prepare-requires : goal.prepare-requires
prepare-requires g c = call_made c.requires

pub draw_from-requires : goal.draw_from-requires
draw_from-requires g c = (draw_served c.prepare.ensures c.in_ok-k.was, counts_map_lem)

pub returns-in_err-k : goal.returns-in_err-k
returns-in_err-k g c = rw (handed_on c.from_residual.ensures.1) (drawn_unready c.prepare.ensures c.in_err-k.was _ _)

pub returns : goal.returns
returns g c = c.draw_from.ensures ∙ drawn_ready c.prepare.ensures c.in_ok-k.was _ _
