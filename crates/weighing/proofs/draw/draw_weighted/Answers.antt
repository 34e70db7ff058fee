-- `draw_weighted` meets its contract: either number of rows is enough for the history and for the chart of a heard sentence. Assumes nothing.
use Rattle.weighing.proofs.Preparing.{room_for_none, rows_short, rows_long}
use Rattle.weighing.proofs.draw.draw_weighted.Goals as goal

pub draw_in-requires : goal.draw_in-requires
draw_in-requires c = room_for_none _ _ c.if-h-lt24.true

pub draw_by-requires : goal.draw_by-requires
draw_by-requires c = rows_short _ c.if-question-le5.true

pub draw_by-requires-else-question-le5 : goal.draw_by-requires-else-question-le5
draw_by-requires-else-question-le5 c = rows_long _
