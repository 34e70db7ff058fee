-- `find` meets its contract. The loop's invariant: the sets of the lengths from m on are found, and what stands in the pair rules of all that is needed
-- above m is gathered. Assumes nothing.
use Rattle.counting.proofs.Finding.{FindTo}
use Rattle.counting.proofs.needs.find.Given as goal

abbrev pub invariant-loop-m : goal.invariant-loop-m
invariant-loop-m l = FindTo l.rules l.n l.m l.met l.halves l.here l.needs
