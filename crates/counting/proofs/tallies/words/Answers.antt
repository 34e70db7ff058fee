use native.Mathlib.Omega.{arith}
use Rattle.counting.proofs.Filling.{words_few, words_any, wording_start, wording_room, wording_step, wording_end}
use Rattle.counting.proofs.tallies.words.Goals as goal

pub returns-then-letter-eq-ANY : goal.returns-then-letter-eq-ANY
returns-then-letter-eq-ANY c = words_any c.requires c.if-letter-eq-ANY.true c.words_from-from.ensures.0 c.words_from-to.ensures.0

pub loop-i-init : goal.loop-i-init
loop-i-init c = wording_start c.requires c.words_from-from.ensures.0

pub word_at-requires : goal.word_at-requires
word_at-requires c = (c.requires.table.long, omega (arith, words_few c.requires))

pub overflow_add-sum : goal.overflow_add-sum
overflow_add-sum c = omega (arith, wording_room c.requires c.loop-i.invariant (omega arith) c.word_at.ensures c.weight-sum.ensures.0 c.weight-sum.ensures.1)

pub loop-i-preserved : goal.loop-i-preserved
loop-i-preserved c = wording_step c.requires c.loop-i.invariant (omega arith) c.word_at.ensures c.weight-sum.ensures.0 c.weight-sum.ensures.1

pub returns : goal.returns
returns c = wording_end c.requires c.loop-i.invariant (omega arith)
