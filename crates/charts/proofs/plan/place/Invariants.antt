-- `place` meets its contract. The loop's invariant: the spans of fewer than m positions have their rows, and `base` is where those of m
-- positions begin.
-- Assumes nothing.
use mathlib.Core.Path.{◌≡◌}
use lib.ListN.{length}
use Rattle.charts.specs.Inner.Planning.{base_of, PlacedAs}
use Rattle.charts.proofs.plan.place.Given as goal

abbrev pub invariant-loop-m : goal.invariant-loop-m
invariant-loop-m l = (l.base ≡ base_of l.first l.n l.m) × (length l.rows ≡ 16) × PlacedAs l.spots l.first l.n l.m l.initial.map l.map
