-- `checks::some_same` meets its contract. The loop's invariant is `Scanning`: two of the entries are the same where one ahead finds its
-- stamp, or two ahead are the same.
-- Assumes nothing.
use Rattle.grammar.proofs.Repeats.{Scanning}
use Rattle.grammar.proofs.checks.some_same.Given as goal

abbrev pub invariant-loop-i : goal.invariant-loop-i
invariant-loop-i g l = Scanning g.K.Kind.pairs l.rules l.a l.stamp l.stamps l.i
