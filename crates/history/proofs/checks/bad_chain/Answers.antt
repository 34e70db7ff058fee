use mathlib.Core.Path.{ap, ◌∙◌}
use native.Mathlib.Omega.{arith}
use Rattle.history.specs.Layout.{two_at}
use Rattle.history.proofs.Chain.{walk_start, walk_step, walk_short, walk_end}
use Rattle.history.proofs.checks.bad_chain.Goals as goal

pub loop-init : goal.loop-init
loop-init c = let s = c.requires in walk_start s.0.count s.1 c.two_at-at.ensures.0

pub returns-then-at-eq0 : goal.returns-then-at-eq0
returns-then-at-eq0 c = let s = c.requires in
    walk_short s.0.count s.1 (omega arith) c.if-at-eq0.true c.loop.invariant

pub loop-preserved : goal.loop-preserved
loop-preserved c = let s = c.requires in
    walk_step s.0.count s.1 (omega arith) c.if-at-eq0.false (c.two_at-at-in-loop.ensures.0 ∙ ap (two_at c.args.h.now) c.record_at.ensures) c.loop.invariant

pub returns : goal.returns
returns c = let s = c.requires in walk_end s.0.count s.1 (omega arith) c.loop.invariant
