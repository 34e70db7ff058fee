-- `entries::enter` meets its contract. The loop's invariant is `Walking`: the numbers met so far, followed by those that the walk still
-- meets, are those on the chains of the nonterminals up to a, and each of the first is marked and entered. A step moves one number from
-- the second to the first; a number that has its mark already is met a second time. None of the R numbers is done twice, so each store
-- has room, and what is left of the R is the measure.
-- Assumes nothing.
use Prim.Native.Nat.{◌+◌, ◌-◌, ◌<◌}
use Rattle.grammar.specs.Layout as Layout
use Rattle.grammar.specs.Inner.Entering.{Kept}
use Rattle.grammar.proofs.Entering.{Walking}
use Rattle.grammar.proofs.entries.enter.Given as goal

abbrev pub invariant-loop-seen : goal.invariant-loop-seen
invariant-loop-seen l = Walking l.g l.seen l.rules l.a l.walk.at l.w l.p × Kept l.initial.rules l.rules × (l.walk.at < 256)

abbrev pub decreases-loop-seen : goal.decreases-loop-seen
decreases-loop-seen l = Layout.rules l.g - (l.w + l.p)
