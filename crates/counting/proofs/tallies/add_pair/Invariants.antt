-- `add_pair` meets its contract. The loop's invariant: before the left length k, the total is what it was with the products for the left lengths below k
-- (001, formula 4a), and so is what is counted beside it, which is no more. It starts after the left lengths at which the right half is too long, which add
-- nothing, and ends at the bound or where the left half is. Assumes nothing.
use Prim.Native.Nat.{◌≤◌}
use Rattle.counting.specs.Inner.Counted.{count_at}
use Rattle.counting.proofs.PairSums.{Adding}
use Rattle.counting.proofs.tallies.add_pair.Given as goal

abbrev pub invariant-loop-k : goal.invariant-loop-k
invariant-loop-k g l = Adding (count_at l.totals) l.b l.c l.m l.to l.fn.before.0 l.k l.total × Adding (count_at (g.C.Counts.table l.counts)) l.b l.c l.m l.to l.fn.before.1 l.k l.count × (l.count ≤ l.total)
