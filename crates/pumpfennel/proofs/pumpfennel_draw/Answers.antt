-- `pumpfennel_draw` meets its contract: what is answered is handed over.
-- Assumes nothing.
use mathlib.Core.Path.{◌∙◌}
use Rattle.pumpfennel.proofs.pumpfennel_draw.Goals as goal

pub returns : goal.returns
returns c = c.hand_drawn.ensures _ ∙ c.draw-a.ensures
