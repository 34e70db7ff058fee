-- `skip` meets its contract: the search by halves ends where the skip does.
-- Assumes nothing.
use Prim.Native.Nat.{◌-◌}
use Rattle.sampling.proofs.Skipping.{Searching}
use Rattle.sampling.proofs.skip.Heard.skip.Given as goal

abbrev pub invariant-loop-low : goal.invariant-loop-low
invariant-loop-low l = Searching l.self.firsts.now l.self.sums.now l.first l.low l.high

abbrev pub decreases-loop-low : goal.decreases-loop-low
decreases-loop-low l = l.high - l.low
