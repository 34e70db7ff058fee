-- `scan` meets its contract. The loop's invariant: the words before the place i are gone through. While the ticket is one of theirs a word is left.
-- Assumes nothing.
use Prim.Native.Nat.{◌-◌}
use Rattle.walk.proofs.Leaves.{Scanning}
use Rattle.walk.proofs.leaf.scan.Given as goal

abbrev pub invariant-loop-rest : goal.invariant-loop-rest
invariant-loop-rest l = Scanning l.rules l.by l.to l.a l.ticket l.i l.rest l.place

abbrev pub decreases-loop-rest : goal.decreases-loop-rest
decreases-loop-rest l = 256 - l.i
