-- `derive` meets its contract. The loop's invariant: each sum so far, with what the pair rules from i on add, is its total, and what is counted beside the
-- total is no more. Assumes nothing.
use Prim.Native.Nat.{ℕ}
use Rattle.counting.specs.Inner.Filling.{DerivingBeside}
use Rattle.counting.proofs.Besides.{SummingBeside}
use Rattle.counting.proofs.tallies.derive.Given as goal

abbrev pub invariant-loop-i : goal.invariant-loop-i
invariant-loop-i g l = (u : ℕ → ℕ) → DerivingBeside l.rules u g.C.Counts.each l.totals (g.C.Counts.table l.counts) l.m l.a → SummingBeside l.rules u g.C.Counts.each l.a l.m l.i l.total l.count
