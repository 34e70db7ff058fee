-- `rank` meets its contract: either number of rows is enough for the sentence's chart.
-- Assumes nothing.
use Rattle.ranking.proofs.Finding.{room_for_short, room_for_long}
use Rattle.ranking.proofs.rank.rank.Goals as goal

pub number-requires : goal.number-requires
number-requires c = room_for_short _ c.if-sentence-le5.true

pub number-requires-else-sentence-le5 : goal.number-requires-else-sentence-le5
number-requires-else-sentence-le5 c = room_for_long _
