-- The rule chooser and the halves writer meet their contracts. They call each other, and the length falls: the measure is three times the
-- length, for the chooser one more and for a left half two more. A single word is found by the leaf; of a pair rule that is chosen both halves
-- are known and have tickets. The writer's loop goes along the right halves; its invariant: what is found of the halves at hand, put behind what
-- is written, is what is found of the first ones (`Along` in proofs/Walking.antt).
-- Assumes nothing.
use mathlib.Core.Path.{◌≡◌}
use Prim.Native.Nat.{◌+◌, ◌*◌}
use lib.ListN.{length, take}
use Rattle.walk.proofs.Walking.{Along}
use Rattle.walk.proofs.Tables.+choose_halves_left_half.Given as goal

-- ---- the measures, of the node

abbrev pub decreases-choose : goal.decreases-choose
decreases-choose l = 3 * l.node.m + 1

abbrev pub decreases-left_half : goal.decreases-left_half
decreases-left_half l = 3 * l.node.m + 2

abbrev pub decreases-halves : goal.decreases-halves
decreases-halves l = 3 * l.node.m

abbrev pub invariant-halves-loop-here : goal.invariant-halves-loop-here
invariant-halves-loop-here l = Along l.self.rules.now l.self.totals.now l.self.choice.now l.self.measure.now l.initial.here.p l.initial.here.m l.initial.chosen.b l.initial.chosen.c l.initial.chosen.k l.initial.chosen.before l.initial.chosen.rest
    (take l.at l.out) l.here.a l.here.p l.here.m l.chosen.b l.chosen.c l.chosen.k l.chosen.before l.chosen.rest
    l.found.place l.found.measured l.found.weight l.found.offset
    × (l.at + l.here.m ≡ l.initial.here.m)
    × (length l.out ≡ l.initial.here.m)

abbrev pub decreases-halves-loop-here : goal.decreases-halves-loop-here
decreases-halves-loop-here l = l.here.m
