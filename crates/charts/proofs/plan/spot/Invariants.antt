-- `spot` meets its contract. The loop's invariant: the whole is there, and with a span of m positions or more its halves.
-- Assumes nothing.
use Rattle.charts.specs.Inner.Planning.{SpottedAs}
use Rattle.charts.proofs.plan.spot.Given as goal

abbrev pub invariant-loop-m : goal.invariant-loop-m
invariant-loop-m l = SpottedAs l.cuts l.n l.m l.spots
