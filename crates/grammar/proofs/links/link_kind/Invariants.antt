-- `links::link_kind` meets its contract. The loop's invariant is `Loop`: the rules of the kind at the places below i are linked.
-- Assumes nothing.
use Rattle.grammar.proofs.Linking.{Loop}
use Rattle.grammar.proofs.links.link_kind.Given as goal

abbrev pub invariant-loop-i : goal.invariant-loop-i
invariant-loop-i g l = Loop g.K.Kind.pairs l.initial.rules l.rules l.a l.i
