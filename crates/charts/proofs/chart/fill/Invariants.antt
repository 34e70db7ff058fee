-- `fill` meets its contract. The loop's invariant is `FillWalk`: the needed spans shorter than m are filled. The measure is the lengths left.
-- Assumes nothing.
use Rattle.charts.specs.Inner.Plan.{length_in}
use Rattle.charts.proofs.Charting.{FillWalk}
use Rattle.charts.proofs.chart.fill.Given as goal

abbrev pub invariant-loop-m : goal.invariant-loop-m
invariant-loop-m l = FillWalk l.rules l.plan l.map (length_in l.plan) l.m l.initial.sets l.initial.totals l.sets l.totals
