-- `draw_matching` meets its contract: either number of rows is enough for the pattern's chart and a sentence's.
-- Assumes nothing.
use mathlib.Core.Path.{refl}
use Rattle.sampling.proofs.Answering.{rows_short, rows_all}
use Rattle.sampling.proofs.draw.draw_matching.Goals as goal

pub draw_matching_by-requires : goal.draw_matching_by-requires
draw_matching_by-requires c = rows_short _ refl c.if-pattern-le5.true

pub draw_matching_by-requires-else-pattern-le5 : goal.draw_matching_by-requires-else-pattern-le5
draw_matching_by-requires-else-pattern-le5 c = rows_all _ refl
