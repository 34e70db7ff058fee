use Prim.Native.Nat.{◌<◌}
use Rattle.grammar.proofs.Repeats.{scan_start, scan_end, scan_low, scan_hit, scan_next}
use Rattle.grammar.proofs.checks.some_same.Goals as goal

pub loop-i-init : goal.loop-i-init
loop-i-init g c = scan_start c.requires c.begins-i.ensures.0

pub bounds-stamps-e : goal.bounds-stamps-e
bounds-stamps-e g c = scan_low c.loop-i.invariant c.begins-i-end.ensures.0 c.loop-i-test.true c.entry-e.ensures c.requires

pub returns-then-stamps-e : goal.returns-then-stamps-e
returns-then-stamps-e g c =
    let low : c.entry-e.result < 1024 = scan_low c.loop-i.invariant c.begins-i-end.ensures.0 c.loop-i-test.true c.entry-e.ensures c.requires in
    scan_hit c.loop-i.invariant c.begins-i-end.ensures.0 c.loop-i-test.true c.entry-e.ensures low c.if-stamps-e.true

pub bounds-stamps-e-in-loop-i : goal.bounds-stamps-e-in-loop-i
bounds-stamps-e-in-loop-i g c = scan_low c.loop-i.invariant c.begins-i-end.ensures.0 c.loop-i-test.true c.entry-e.ensures c.requires

pub loop-i-preserved : goal.loop-i-preserved
loop-i-preserved g c =
    let low : c.entry-e.result < 1024 = scan_low c.loop-i.invariant c.begins-i-end.ensures.0 c.loop-i-test.true c.entry-e.ensures c.requires in
    scan_next c.loop-i.invariant c.begins-i-end.ensures.0 c.loop-i-test.true c.entry-e.ensures low c.if-stamps-e.false

pub returns : goal.returns
returns g c = scan_end c.loop-i.invariant c.begins-i-end.ensures.0 c.loop-i-test.false
