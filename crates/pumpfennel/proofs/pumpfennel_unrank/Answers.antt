-- `pumpfennel_unrank` meets its contract: its one figure is handed over.
-- Assumes nothing.
use mathlib.Core.Path.{refl, ◌∙◌}
use Rattle.ranking.specs.Inner.Says.{unrank_says}
use Rattle.pumpfennel.proofs.Cases.{one_figure}
use Rattle.pumpfennel.proofs.pumpfennel_unrank.Goals as goal

pub returns : goal.returns
returns c = c.hand_figure.ensures _ ∙ one_figure (λ a. unrank_says a c.unrank-a.new.out) _ (λ x. refl) (λ r. refl) _ ∙ c.unrank-a.ensures
