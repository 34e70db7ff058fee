use native.Mathlib.Omega.{arith}
use Rattle.charts.proofs.Gathering.{wants_start, wants_put, wants_pass}
use Rattle.charts.proofs.plan.wanted_at.Goals as goal
use Rattle.charts.proofs.plan.wanted_at.Goals.{then-totals-m-ne0, else-totals-m-ne0}

pub loop-a-init : goal.loop-a-init
loop-a-init c = wants_start _ _ _ c.none-s.ensures

pub loop-a-preserved : goal.loop-a-preserved
loop-a-preserved c =
    let w = c.loop-a.invariant in
    elim c.if-totals-m-ne0.branch [
      | then-totals-m-ne0 x ↦ rw x.s-is (wants_put w _ (omega (arith, x.if-totals-m-ne0.true)) x.with-s.ensures)
      | else-totals-m-ne0 x ↦ rw x.s-is (wants_pass w x.if-totals-m-ne0.false)
    ]
