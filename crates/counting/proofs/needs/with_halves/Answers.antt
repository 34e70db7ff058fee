use native.Mathlib.Omega.{arith}
use Rattle.grammar.proofs.Ruling.{pair_below}
use Rattle.counting.proofs.Finding.{halves_start, halves_step, halves_end}
use Rattle.counting.proofs.needs.with_halves.Goals as goal

pub loop-i-init : goal.loop-i-init
loop-i-init c = halves_start c.pairs_from-i.ensures.0

pub with-set-requires : goal.with-set-requires
with-set-requires c =
    let t = c.requires.0 in
    omega (arith, t.few, t.lefts _ (pair_below t c.args.a c.loop-i.i c.requires.1 (omega arith)), c.left_at-b.ensures.0)

pub with-set-requires-in-loop-i : goal.with-set-requires-in-loop-i
with-set-requires-in-loop-i c =
    let t = c.requires.0 in
    omega (arith, t.few, t.rights _ (pair_below t c.args.a c.loop-i.i c.requires.1 (omega arith)), c.right_at-c.ensures.0)

pub loop-i-preserved : goal.loop-i-preserved
loop-i-preserved c =
    halves_step c.loop-i.invariant _ _ (omega arith) c.left_at-b.ensures.0 c.right_at-c.ensures.0 c.with-set.ensures c.with-set-in-loop-i.ensures

pub returns : goal.returns
returns c = halves_end c.loop-i.invariant (omega arith)
