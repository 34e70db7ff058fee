-- `entries::build` meets its contract. The loop's invariant: the chains of the nonterminals below a are walked.
-- Assumes nothing.
use Rattle.grammar.specs.Inner.Entering.{Walked, Kept}
use Rattle.grammar.proofs.entries.build.Given as goal

abbrev pub invariant-loop-a : goal.invariant-loop-a
invariant-loop-a l = Walked l.g l.seen l.rules l.a × Kept l.initial.rules l.rules
