use native.Mathlib.Omega.{arith}
use Rattle.charts.proofs.Placing.{base_next, base_low, placed_turn}
use Rattle.charts.proofs.plan.place.Goals as goal

pub row-requires : goal.row-requires
row-requires c =
    let b = base_low c.args.first c.args.n c.loop-m.m (omega arith) (omega arith) (omega arith) in
    (omega (arith, c.loop-m.invariant.0), omega arith, c.loop-m.invariant.1)

pub overflow_add-base : goal.overflow_add-base
overflow_add-base c =
    let b = base_low c.args.first c.args.n c.loop-m.m (omega arith) (omega arith) (omega arith) in
    omega (arith, c.loop-m.invariant.0)

pub loop-m-preserved : goal.loop-m-preserved
loop-m-preserved c =
    let i = c.loop-m.invariant in (
      omega (arith, base_next c.args.first c.args.n c.loop-m.m (omega arith) (omega arith), i.0),
      c.row.ensures.long,
      placed_turn i.2 (omega arith) (omega arith) (omega arith) i.0 c.row.ensures,
    )
