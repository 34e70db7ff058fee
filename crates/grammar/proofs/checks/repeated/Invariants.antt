-- `checks::repeated` meets its contract. Each chain has two stamps of its own, for its words and its pair rules. The loop's invariant is
-- `Rounds`: none of the chains below a has two rules that are alike, and no number has a later stamp.
-- Assumes nothing.
use Rattle.grammar.proofs.Repeats.{Rounds}
use Rattle.grammar.proofs.checks.repeated.Given as goal

abbrev pub invariant-loop-a : goal.invariant-loop-a
invariant-loop-a l = Rounds l.g l.stamps l.a
