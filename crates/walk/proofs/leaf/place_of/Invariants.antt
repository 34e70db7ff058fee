-- `place_of` meets its contract. The loop goes along the links of the word; its invariant: the place of the word in a is still to come. Each
-- link leads lower. Assumes nothing.
use Rattle.walk.proofs.Linking.{Linking}
use Rattle.walk.proofs.leaf.place_of.Given as goal

abbrev pub invariant-loop-l : goal.invariant-loop-l
invariant-loop-l l = Linking l.rules l.x l.a l.l

abbrev pub decreases-loop-l : goal.decreases-loop-l
decreases-loop-l l = l.l
