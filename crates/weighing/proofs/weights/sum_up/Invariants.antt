-- `sum_up` meets its contract. Both loops' invariant: at the places below i what the words before weigh is there, and the sum so far is that of the words
-- of a before i. Assumes nothing.
use Rattle.grammar.specs.Inner.Rules.{word_from}
use Rattle.weighing.proofs.Before.{SummingUp}
use Rattle.weighing.proofs.weights.sum_up.Given as goal

abbrev pub invariant-loop-a : goal.invariant-loop-a
invariant-loop-a l = SummingUp l.fn.rules l.rules l.a (word_from l.fn.rules l.a) 0

abbrev pub invariant-loop-i : goal.invariant-loop-i
invariant-loop-i l = SummingUp l.fn.rules l.rules l.a l.i l.sum
