use native.Mathlib.Omega.{arith}
use Rattle.counting.proofs.Filling.{summing_asks}
use Rattle.counting.proofs.Besides.{beside_start, beside_asks, beside_step, beside_past, beside_end}
use Rattle.counting.proofs.tallies.derive.Goals as goal

pub loop-i-init : goal.loop-i-init
loop-i-init g c u d = beside_start d c.requires.1 c.pairs_from-i.ensures.0

pub add_pair-requires-clause-halves : goal.add_pair-requires-clause-halves
add_pair-requires-clause-halves g c =
    let d = c.requires.0 in
    summing_asks d.1.own c.requires.1 (c.loop-i.invariant d.0 d.1).own (omega arith) c.left_at-b.ensures.0 c.right_at-c.ensures.0 (omega arith)

pub add_pair-requires-clause-beside : goal.add_pair-requires-clause-beside
add_pair-requires-clause-beside g c =
    let d = c.requires.0 in
    beside_asks d.1 c.requires.1 (c.loop-i.invariant d.0 d.1) (omega arith) c.left_at-b.ensures.0 c.right_at-c.ensures.0

pub returns-in_err-total : goal.returns-in_err-total
returns-in_err-total g c u d =
    rw c.from_residual.ensures
    (beside_past d c.requires.1 (c.loop-i.invariant u d) (omega arith) c.left_at-b.ensures.0 c.right_at-c.ensures.0 c.in_err-total.ensures)

pub loop-i-preserved : goal.loop-i-preserved
loop-i-preserved g c u d =
    let q = c.in_ok-total.ensures in
    beside_step d c.requires.1 (c.loop-i.invariant u d) (omega arith) c.left_at-b.ensures.0 c.right_at-c.ensures.0 q.0 q.1 q.2

pub returns : goal.returns
returns g c u d = beside_end d c.requires.1 (c.loop-i.invariant u d) (omega arith)
