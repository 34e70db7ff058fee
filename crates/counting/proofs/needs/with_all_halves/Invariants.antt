-- `with_all_halves` meets its contract. The loop's invariant: the set has the nonterminals of the pair rules of those owners that are no longer left.
-- Assumes nothing.
use Rattle.counting.proofs.Finding.{OwnersTo}
use Rattle.counting.proofs.needs.with_all_halves.Given as goal

abbrev pub invariant-loop-a : goal.invariant-loop-a
invariant-loop-a l = OwnersTo l.rules l.owners l.before l.a-iterator l.set
