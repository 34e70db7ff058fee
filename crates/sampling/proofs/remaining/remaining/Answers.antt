-- `remaining` meets its contract: each number of places is enough.
-- Assumes nothing.
use Rattle.sampling.proofs.Answering.{places_all, places_short, places_none}
use Rattle.sampling.proofs.remaining.remaining.Goals as goal

pub remaining_in-requires : goal.remaining_in-requires
remaining_in-requires c = places_none _ c.if-h-lt24.true

pub remaining_in-requires-then-h-le2004 : goal.remaining_in-requires-then-h-le2004
remaining_in-requires-then-h-le2004 c = places_short _ c.if-h-le2004.true

pub remaining_in-requires-else-h-le2004 : goal.remaining_in-requires-else-h-le2004
remaining_in-requires-else-h-le2004 c = places_all _
