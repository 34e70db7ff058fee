use mathlib.Core.Path.{refl}
use native.Mathlib.Omega.{arith}
use Rattle.counting.proofs.Besides.{fills_start, fills_asks, fills_over, fills_step, fills_end}
use Rattle.counting.proofs.tallies.fill.Goals as goal

pub find-requires : goal.find-requires
find-requires c = let f = c.requires.own in record { table = f.table; some = f.some; short = f.short; long = refl }

pub loop-m-init : goal.loop-m-init
loop-m-init c = fills_start c.requires

pub row-requires : goal.row-requires
row-requires c = fills_asks c.requires c.loop-m.invariant (omega arith) c.find.ensures refl

pub returns-then-not-row : goal.returns-then-not-row
returns-then-not-row c = fills_over c.requires c.loop-m.invariant (omega arith) c.find.ensures refl c.row.ensures c.if-not-row.true

pub loop-m-preserved : goal.loop-m-preserved
loop-m-preserved c = fills_step c.requires c.loop-m.invariant (omega arith) c.find.ensures refl c.row.ensures c.if-not-row.false

pub returns : goal.returns
returns c = fills_end c.requires c.loop-m.invariant (omega arith)
