-- `pumpfennel_remaining_matching` meets its contract: what is answered is handed over.
-- Assumes nothing.
use mathlib.Core.Path.{◌∙◌}
use Rattle.pumpfennel.proofs.pumpfennel_remaining_matching.Goals as goal

pub returns : goal.returns
returns c = c.hand_remaining.ensures ∙ c.remaining_matching-a.ensures
