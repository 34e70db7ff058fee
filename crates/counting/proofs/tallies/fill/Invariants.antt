-- `fill` meets its contract. The loop's invariant: the rows below m have what is asked for, and it fits. A row that does not fit is the
-- answer, for its length is at most n. Assumes nothing.
use mathlib.Core.Bool.{true}
use Rattle.counting.specs.Inner.Filling.{BesideAs}
use Rattle.counting.proofs.Filling.{Rising}
use Rattle.counting.proofs.tallies.fill.Given as goal

abbrev pub invariant-loop-m : goal.invariant-loop-m
invariant-loop-m l = BesideAs l.rules l.letter l.at (λ u b t fits. Rising l.rules u b t l.n l.m) l.initial.totals l.totals true
