-- `draw_matching_by` meets its contract: each number of places is enough.
-- Assumes nothing.
use Rattle.sampling.proofs.Answering.{places_all, places_short, places_none}
use Rattle.sampling.proofs.draw.draw_matching_by.Goals as goal

pub draw_matching_in-requires : goal.draw_matching_in-requires
draw_matching_in-requires g c = (c.requires, places_none _ c.if-h-lt24.true)

pub draw_matching_in-requires-then-h-le2004 : goal.draw_matching_in-requires-then-h-le2004
draw_matching_in-requires-then-h-le2004 g c = (c.requires, places_short _ c.if-h-le2004.true)

pub draw_matching_in-requires-else-h-le2004 : goal.draw_matching_in-requires-else-h-le2004
draw_matching_in-requires-else-h-le2004 g c = (c.requires, places_all _)
