-- `with_halves` meets its contract. The loop's invariant: the set has the nonterminals of the pair rules before i. Assumes nothing.
use Rattle.counting.proofs.Finding.{HalvesTo}
use Rattle.counting.proofs.needs.with_halves.Given as goal

abbrev pub invariant-loop-i : goal.invariant-loop-i
invariant-loop-i l = HalvesTo l.rules l.a l.before l.i l.set
