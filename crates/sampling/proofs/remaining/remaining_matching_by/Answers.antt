-- `remaining_matching_by` meets its contract: each number of places is enough.
-- Assumes nothing.
use Rattle.sampling.proofs.Answering.{places_all, places_short, places_none}
use Rattle.sampling.proofs.remaining.remaining_matching_by.Goals as goal

pub remaining_matching_in-requires : goal.remaining_matching_in-requires
remaining_matching_in-requires g c = (c.requires, places_none _ c.if-h-lt24.true)

pub remaining_matching_in-requires-then-h-le2004 : goal.remaining_matching_in-requires-then-h-le2004
remaining_matching_in-requires-then-h-le2004 g c = (c.requires, places_short _ c.if-h-le2004.true)

pub remaining_matching_in-requires-else-h-le2004 : goal.remaining_matching_in-requires-else-h-le2004
remaining_matching_in-requires-else-h-le2004 g c = (c.requires, places_all _)
