-- `draw_prepared` meets its contract: the counts choose and measure.
-- Assumes nothing.
use Rattle.charts.proofs.Mapping.{counts_map_lem}
use Rattle.sampling.proofs.draw.draw_prepared.Goals as goal

pub draw_from-requires : goal.draw_from-requires
draw_from-requires c = (c.requires, counts_map_lem)
