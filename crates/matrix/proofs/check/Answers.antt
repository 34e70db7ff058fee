-- `matrix::check` meets its contract: the reader answers by its definition, and that computes to the acceptance.
-- Assumes nothing.
use mathlib.Core.Path.{◌∙◌}
use Rattle.matrix.proofs.Rules.{checked}
use Rattle.matrix.proofs.check.Goals as goal

pub returns : goal.returns
returns c = c.check.ensures ∙ checked
