use mathlib.Core.Path.{refl}
use native.Mathlib.Omega.{arith}
use borrow.Author.Rules.{rules}
use Rattle.weighing.proofs.Summing.{summing_above, summing_fits, summing_turn}
use Rattle.weighing.proofs.sums.fill.Goals as goal

pub overflow_sub-sum : goal.overflow_sub-sum
overflow_sub-sum c = let s = c.requires in omega (arith, summing_above s.1 (c.loop-i.invariant.0 s.0 s.1) (omega arith))

pub overflow_add-sum : goal.overflow_add-sum
overflow_add-sum c = let s = c.requires in omega (arith, summing_fits s.1 (c.loop-i.invariant.0 s.0 s.1) (omega arith))

pub loop-i-preserved : goal.loop-i-preserved
loop-i-preserved c = ((λ k s. summing_turn s (c.loop-i.invariant.0 k s) (omega arith) refl), search rules)
