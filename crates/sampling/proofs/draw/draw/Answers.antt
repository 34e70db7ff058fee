-- `draw` meets its contract: each number of places is enough.
-- Assumes nothing.
use Rattle.sampling.proofs.Answering.{places_all, places_short, places_none}
use Rattle.sampling.proofs.draw.draw.Goals as goal

pub draw_in-requires : goal.draw_in-requires
draw_in-requires c = places_none _ c.if-h-lt24.true

pub draw_in-requires-then-h-le2004 : goal.draw_in-requires-then-h-le2004
draw_in-requires-then-h-le2004 c = places_short _ c.if-h-le2004.true

pub draw_in-requires-else-h-le2004 : goal.draw_in-requires-else-h-le2004
draw_in-requires-else-h-le2004 c = places_all _
