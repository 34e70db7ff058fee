-- `link` meets its contract. The loop's invariant: the pair rules below i are in the sets.
-- Assumes nothing.
use Rattle.charts.specs.Inner.Planning.{SidedAs}
use Rattle.charts.proofs.plan.link.Given as goal

abbrev pub invariant-loop-i : goal.invariant-loop-i
invariant-loop-i l = SidedAs l.rules l.i l.partners l.lefts l.rights
