-- `derivations` meets its contract: at the length 1 what the words count for is the total, and what they are counted as the count; at a greater one
-- `derive` says both. Assumes nothing.
use native.Mathlib.Omega.{arith}
use Rattle.counting.proofs.Filling.{words_total}
use Rattle.counting.proofs.Besides.{count_less}
use Rattle.counting.proofs.tallies.derivations.Goals as goal

pub returns-then-m-eq1 : goal.returns-then-m-eq1
returns-then-m-eq1 g c =
    let d = c.requires.0 in
    let total = words_total d.own c.if-m-eq1.true c.words.ensures in
    let count = words_total d.beside c.if-m-eq1.true c.words-then-m-eq1.ensures in
    (total, count, omega (arith, total, count, count_less d.own.table d.less c.args.a c.args.m d.own.inside))

pub returns : goal.returns
returns g c = c.derive.ensures _ c.requires.0
