-- `pumpfennel_remaining` meets its contract: what is answered is handed over.
-- Assumes nothing.
use mathlib.Core.Path.{◌∙◌}
use Rattle.pumpfennel.proofs.pumpfennel_remaining.Goals as goal

pub returns : goal.returns
returns c = c.hand_remaining.ensures ∙ c.remaining-a.ensures
