use native.Mathlib.Omega.{arith}
use Rattle.grammar.proofs.Repeats.{rounds_start, rounds_end, round_words, round_pairs, round_hit, round_next}
use Rattle.grammar.proofs.checks.repeated.Goals as goal

pub loop-a-init : goal.loop-a-init
loop-a-init c = rounds_start _

pub some_same-requires : goal.some_same-requires
some_same-requires c = round_words c.requires.0 c.requires.1 c.loop-a.invariant (omega arith)

pub returns-then-some_same : goal.returns-then-some_same
returns-then-some_same c = round_hit c.requires.0 c.requires.1 c.loop-a.invariant (omega arith) c.some_same.ensures c.if-some_same.true

pub some_same-requires-in-loop-a : goal.some_same-requires-in-loop-a
some_same-requires-in-loop-a c = round_pairs c.requires.0 c.requires.1 c.loop-a.invariant (omega arith) c.some_same.ensures

pub returns-then-some_same-2 : goal.returns-then-some_same-2
returns-then-some_same-2 c = round_hit c.requires.0 c.requires.1 c.loop-a.invariant (omega arith) c.some_same-in-loop-a.ensures c.if-some_same-2.true

pub loop-a-preserved : goal.loop-a-preserved
loop-a-preserved c =
    round_next c.requires.0 c.requires.1 c.loop-a.invariant (omega arith) c.some_same.ensures c.if-some_same.false c.some_same-in-loop-a.ensures
    c.if-some_same-2.false

pub returns : goal.returns
returns c = rounds_end c.loop-a.invariant (omega arith)
