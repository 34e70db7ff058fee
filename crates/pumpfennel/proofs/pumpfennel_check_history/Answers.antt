-- `pumpfennel_check_history` meets its contract: its one figure is handed over.
-- Assumes nothing.
use mathlib.Core.Path.{refl, ◌∙◌}
use Rattle.history.specs.Inner.Says.{history_says}
use Rattle.pumpfennel.proofs.Cases.{one_figure}
use Rattle.pumpfennel.proofs.pumpfennel_check_history.Goals as goal

pub returns : goal.returns
returns c = c.hand_figure.ensures _ ∙ one_figure history_says _ (λ x. refl) (λ r. refl) _ ∙ c.check.ensures
