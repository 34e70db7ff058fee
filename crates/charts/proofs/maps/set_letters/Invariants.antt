-- `set_letters` meets its contract. The loop's invariant: the letters of the first p words are there.
-- Assumes nothing.
use Rattle.charts.proofs.Mapping.{LetteredTo}
use Rattle.charts.proofs.maps.set_letters.Given as goal

abbrev pub invariant-loop-p : goal.invariant-loop-p
invariant-loop-p l = LetteredTo l.blank l.words l.p l.initial.map l.map
