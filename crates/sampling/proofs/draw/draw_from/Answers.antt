-- `draw_from` meets its contract: past its two tests the derivation that the skip finds is written.
-- Assumes nothing.
use native.Mathlib.Omega.{arith}
use Rattle.sampling.proofs.Answering.{struck_sum, left_struck, skips, skip_sought, skipping_beyond, skipping_short, skipping_written}
use Rattle.sampling.proofs.draw.draw_from.Goals as goal

pub passed-requires : goal.passed-requires
passed-requires c n = omega (arith, c.requires.0.told.enough n)

pub overflow_sub-left : goal.overflow_sub-left
overflow_sub-left c = omega (arith, c.total-total.ensures, (struck_sum c.requires.0 c.passed.ensures).0)

pub returns-then-left-q : goal.returns-then-left-q
returns-then-left-q c =
    skipping_beyond _ _ _ _ _ _ _ (omega (arith, left_struck c.requires.0 c.total-total.ensures c.passed.ensures, c.if-left-q.true))

pub returns-then-out-n : goal.returns-then-out-n
returns-then-out-n c =
    skipping_short _ _ _ _ _ _ _ (omega (arith, left_struck c.requires.0 c.total-total.ensures c.passed.ensures, c.if-left-q.false)) c.if-out-n.true

pub skip-d-requires : goal.skip-d-requires
skip-d-requires c = skips c.requires.0 (omega (arith, left_struck c.requires.0 c.total-total.ensures c.passed.ensures, c.if-left-q.false))

pub write-number-requires : goal.write-number-requires
write-number-requires c =
    skip_sought c.requires.0 c.requires.1 _ _ _ (omega (arith, left_struck c.requires.0 c.total-total.ensures c.passed.ensures, c.if-left-q.false))
    c.skip-d.ensures c.if-out-n.false

pub returns : goal.returns
returns c =
    let left = left_struck c.requires.0 c.total-total.ensures c.passed.ensures in
    skipping_written _ _ _ _ _ _ _ _ _ _ _ (omega (arith, left, c.if-left-q.false)) c.if-out-n.false left c.skip-d.ensures c.write-number.ensures
