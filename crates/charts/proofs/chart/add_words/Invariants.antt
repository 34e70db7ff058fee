-- `add_words` meets its contract. The loop's invariant is `WordsFrom`: what the row has, with the words of the nonterminals from a on, is what
-- each has. The measure is the nonterminals left. Assumes nothing.
use Rattle.charts.proofs.Words.{WordsFrom}
use Rattle.charts.proofs.chart.add_words.Given as goal

abbrev pub invariant-loop-a : goal.invariant-loop-a
invariant-loop-a l = WordsFrom l.rules l.row l.initial.totals l.totals l.set l.a
