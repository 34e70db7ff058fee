-- `refusal` meets its contract: 10 applies where the counts don't fit, and else the refusal that is known to. Assumes nothing.
use native.Mathlib.Omega.{arith}
use Rattle.lists.proofs.Tables.{wide_made, made_entry}
use Rattle.counting.specs.Inner.Letters.{any}
use Rattle.counting.proofs.Besides.{alone}
use Rattle.weighing.proofs.Asking.{told_large, told_known}
use Rattle.weighing.proofs.prepare.refusal.Goals as goal

pub fill-requires : goal.fill-requires
fill-requires c =
    let p = c.requires in
    alone any (λ z. absurd (omega arith))
    (record { table = p.0; some = p.1; short = p.2; long = omega arith; wide = wide_made 17 32 0; zeros = λ r A h. made_entry 17 32 r A })

pub returns-then-fill : goal.returns-then-fill
returns-then-fill c = told_known _ c.fill.ensures.own c.if-fill.true

pub returns-else-fill : goal.returns-else-fill
returns-else-fill c = told_large _ c.fill.ensures.own c.if-fill.false
