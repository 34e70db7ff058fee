-- `count` meets its contract: the count of S and n.
-- Assumes nothing.
use Rattle.ranking.proofs.Finding.{count_asks, count_given}
use Rattle.ranking.proofs.unrank.count.Goals as goal

pub count_at-requires : goal.count_at-requires
count_at-requires c = count_asks c.requires _ c.start.ensures.0

pub returns : goal.returns
returns c = count_given c.requires _ c.start.ensures.0 _ c.count_at.ensures
