-- `bad` meets its contract: they are not one for each word, or some weight is 0.
-- Assumes nothing.
use mathlib.Core.Path.{◌≡◌, refl, sym, ◌∙◌}
use mathlib.Core.Bool.{false}
use borrow.Author.Tests.{eq-eqb, ne_eqb}
use lib.Dec.{eqb}
use lib.ListN.{length}
use Rattle.sampling.proofs.Blanks.{any_some}
use Rattle.weighing.specs.Weights.{bad_weights}
use Rattle.weighing.proofs.weights.bad.Goals as goal

pub returns-then-weights-from : goal.returns-then-weights-from
unfolding bad_weights
returns-then-weights-from c =
    let e : eqb (length c.args.weights.now) c.args.words ≡ false = ne_eqb _ _ (λ h. c.if-weights-from.true (h ∙ sym c.from.ensures)) in
    rw (c.from.ensures, e) refl

pub returns-else-weights-from : goal.returns-else-weights-from
unfolding bad_weights
returns-else-weights-from c = rw (eq-eqb _ _ (c.if-weights-from.false ∙ c.from.ensures)) (c.contains.ensures.value ∙ any_some (λ x. eqb x 0) c.args.weights.now)
