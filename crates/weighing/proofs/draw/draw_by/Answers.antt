-- `draw_by` meets its contract: either number of places is enough for the history. Assumes nothing.
use Rattle.weighing.proofs.Preparing.{room_for_short, room_for_all}
use Rattle.weighing.proofs.draw.draw_by.Goals as goal

pub draw_in-requires : goal.draw_in-requires
draw_in-requires g c = room_for_short _ c.requires c.if-h-le2004.true

pub draw_in-requires-else-h-le2004 : goal.draw_in-requires-else-h-le2004
draw_in-requires-else-h-le2004 g c = room_for_all _ c.requires
