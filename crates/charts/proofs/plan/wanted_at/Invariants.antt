-- `wanted_at` meets its contract. The loop's invariant: the set has the nonterminals below a that have a derivation.
-- Assumes nothing.
use Rattle.charts.specs.Inner.Planning.{WantedAs}
use Rattle.charts.proofs.plan.wanted_at.Given as goal

abbrev pub invariant-loop-a : goal.invariant-loop-a
invariant-loop-a l = WantedAs l.totals l.a l.m l.s
