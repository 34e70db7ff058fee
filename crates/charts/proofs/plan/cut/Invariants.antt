-- `cut` meets its contract. The loop's invariant: the lengths below m have their left lengths.
-- Assumes nothing.
use Prim.Native.Nat.{◌-◌}
use Rattle.charts.specs.Inner.Planning.{AllCutAs}
use Rattle.charts.proofs.plan.cut.Given as goal

abbrev pub invariant-loop-m : goal.invariant-loop-m
invariant-loop-m l = AllCutAs l.wanted l.lefts l.rights (l.m - 1) l.cuts
