-- `want` meets its contract. The loop's invariant: the lengths below m have their nonterminals.
-- Assumes nothing.
use Prim.Native.Nat.{◌-◌}
use Rattle.charts.specs.Inner.Planning.{AllWantedAs}
use Rattle.charts.proofs.plan.want.Given as goal

abbrev pub invariant-loop-m : goal.invariant-loop-m
invariant-loop-m l = AllWantedAs l.totals l.count (l.m - 1) l.wanted
