use mathlib.Core.Path.{sym, ◌∙◌}
use mathlib.Core.Bool.{false≢true}
use native.Mathlib.Omega.{arith}
use Rattle.charts.proofs.Gathering.{cuts_start, cuts_put, cuts_pass}
use Rattle.charts.proofs.plan.cuts_at.Goals as goal
use Rattle.charts.proofs.plan.cuts_at.Goals.{then-meets+then-meets-2, else-meets, else-meets-via-then-meets+else-meets-2, else-meets-via-else-meets}

pub loop-k-init : goal.loop-k-init
loop-k-init c = cuts_start _ _ _ _ _ c.none-s.ensures

pub loop-k-preserved : goal.loop-k-preserved
loop-k-preserved c =
    let w = c.loop-k.invariant in
    elim c.if-meets.branch [
      | then-meets+then-meets-2 x ↦ rw x.s-is (cuts_put w (omega arith) _ x.with-s.ensures)
      | else-meets x ↦ rw x.s-is (cuts_pass w (omega arith) (λ B C a b r d. elim x.else-meets.branch [
        | else-meets-via-then-meets+else-meets-2 y ↦ false≢true (sym y.if-meets-2.false ∙ y.meets-then-meets.ensures C d r)
        | else-meets-via-else-meets y ↦ false≢true (sym y.if-meets.false ∙ c.meets.ensures B b a)
      ]))
    ]
