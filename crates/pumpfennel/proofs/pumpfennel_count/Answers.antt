-- `pumpfennel_count` meets its contract: its one figure is handed over.
-- Assumes nothing.
use mathlib.Core.Path.{refl, ◌∙◌}
use Rattle.counting.specs.Inner.Says.{count_says}
use Rattle.pumpfennel.proofs.Cases.{one_figure}
use Rattle.pumpfennel.proofs.pumpfennel_count.Goals as goal

pub returns : goal.returns
returns c = c.hand_figure.ensures _ ∙ one_figure count_says _ (λ x. refl) (λ r. refl) _ ∙ c.count.ensures
