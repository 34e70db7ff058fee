-- `pumpfennel_append` meets its contract: its one figure is handed over.
-- Assumes nothing.
use mathlib.Core.Path.{refl, ◌∙◌}
use Rattle.history.specs.Inner.Says.{append_says}
use Rattle.pumpfennel.proofs.Cases.{one_figure}
use Rattle.pumpfennel.proofs.pumpfennel_append.Goals as goal

pub returns : goal.returns
returns c = c.hand_figure.ensures _ ∙ one_figure (λ a. append_says a c.append.new.h) _ (λ x. refl) (λ r. refl) _ ∙ c.append.ensures
