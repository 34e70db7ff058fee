-- `heard_numbers` meets its contract: either number of rows is enough for the charts.
-- Assumes nothing.
use Rattle.ranking.proofs.Finding.{room_for_short, room_for_long}
use Rattle.sampling.proofs.prepare.heard_numbers.Goals as goal

pub heard_numbers_in-requires : goal.heard_numbers_in-requires
heard_numbers_in-requires c = (c.requires, room_for_short _ c.if-question-le5.true)

pub heard_numbers_in-requires-else-question-le5 : goal.heard_numbers_in-requires-else-question-le5
heard_numbers_in-requires-else-question-le5 c = (c.requires, room_for_long _)
