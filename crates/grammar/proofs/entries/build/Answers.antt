use mathlib.Core.Path.{◌≡◌}
use native.Mathlib.Omega.{arith}
use Rattle.grammar.specs.Layout.{nonterminals}
use Rattle.lists.proofs.Tables.{kept_same, kept_then}
use Rattle.grammar.proofs.Entering.{build_start, build_again, build_end}
use Rattle.grammar.proofs.entries.build.Goals as goal

pub prepare-requires : goal.prepare-requires
prepare-requires c = c.requires.1

pub loop-a-init : goal.loop-a-init
loop-a-init c = let p = c.prepare.ensures in (build_start p, kept_same p.entered.roomy.wide)

pub enter-requires : goal.enter-requires
enter-requires c = record { readable = c.requires.0; inside = omega arith; walked = c.loop-a.invariant.0 }

pub returns-then-enter : goal.returns-then-enter
returns-then-enter c = build_again (kept_then c.prepare.ensures.kept c.loop-a.invariant.1) (rw c.if-enter.true at c.enter.ensures)

pub loop-a-preserved : goal.loop-a-preserved
loop-a-preserved c = (c.enter.ensures.walked c.if-enter.false, kept_then c.loop-a.invariant.1 c.enter.ensures.kept)

pub returns : goal.returns
returns c = let e : c.loop-a.a ≡ nonterminals c.args.g.now = omega arith in
    build_end c.requires.0 (kept_then c.prepare.ensures.kept c.loop-a.invariant.1) (rw e at c.loop-a.invariant.0)
