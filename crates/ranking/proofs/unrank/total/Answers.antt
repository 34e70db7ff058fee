-- `total` meets its contract: what the whole weighs by the choice.
-- Assumes nothing.
use Rattle.ranking.proofs.Finding.{total_asks, total_given}
use Rattle.ranking.proofs.unrank.total.Goals as goal

pub total-requires : goal.total-requires
total-requires c = total_asks c.requires _ c.start.ensures.0

pub returns : goal.returns
returns c = total_given c.requires _ c.start.ensures.0 _ c.total.ensures
