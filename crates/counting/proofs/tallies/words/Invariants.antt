-- `words` meets its contract. The loop's invariant: the sum so far, with what the words from i on count for, is what all do. Assumes nothing.
use Rattle.counting.specs.Inner.Letters.{by_letter}
use Rattle.counting.proofs.Filling.{Wording}
use Rattle.counting.proofs.tallies.words.Given as goal

abbrev pub invariant-loop-i : goal.invariant-loop-i
invariant-loop-i l = Wording l.rules (by_letter l.rules l.letter) l.a l.i l.sum
