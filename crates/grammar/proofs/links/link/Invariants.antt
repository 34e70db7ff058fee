-- `links::link` meets its contract. The loop's invariant is `LinkLoop`: the rules of the nonterminals below a are linked.
-- Assumes nothing.
use Rattle.grammar.proofs.Linking.{LinkLoop}
use Rattle.grammar.proofs.links.link.Given as goal

abbrev pub invariant-loop-a : goal.invariant-loop-a
invariant-loop-a l = LinkLoop l.initial.rules l.rules l.a
