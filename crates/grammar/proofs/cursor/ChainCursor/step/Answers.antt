-- `ChainCursor::step` meets its contract: the laws of a step, case by case. Each byte read lies inside, since the grammar has its right
-- size.
-- Assumes nothing.
use mathlib.Core.Path.{◌≡◌}
use mathlib.Core.List.{List}
use Prim.Native.Nat.{ℕ, ◌+◌, ◌*◌}
use native.Mathlib.Omega.{arith}
use Rattle.grammar.specs.Layout.{byte_at}
use Rattle.grammar.proofs.Walks.{step_zero, step_above, step_word, step_pair, step_other}
use Rattle.grammar.proofs.cursor.ChainCursor.step.Goals as goal

pub returns-then-at-eq0 : goal.returns-then-at-eq0
returns-then-at-eq0 c = step_zero _ _ c.if-at-eq0.true

pub returns-then-g-at : goal.returns-then-g-at
returns-then-g-at c = step_above _ _ c.if-g-at.true

-- the kind's byte, read at the number as a usize
kind_same : (g : List ℕ) (n : ℕ) {at i : ℕ} → i ≡ at → byte_at g (n + 4 * i) ≡ byte_at g (n + 4 * at)
kind_same g n e = rw e

pub returns-in-0 : goal.returns-in-0
returns-in-0 c =
    let kind = kind_same c.args.g.now c.args.n c.from.ensures in
    rw c.from.ensures (step_word c.args.g.now c.args.self.at (omega arith) (omega arith) c.requires.1 (omega (arith, kind)))

pub returns-in-1 : goal.returns-in-1
returns-in-1 c =
    let kind = kind_same c.args.g.now c.args.n c.from.ensures in
    rw c.from.ensures (step_pair c.args.g.now c.args.self.at (omega arith) (omega arith) c.requires.1 (omega (arith, kind)))

pub returns-in-2-to-255 : goal.returns-in-2-to-255
returns-in-2-to-255 c =
    let kind = kind_same c.args.g.now c.args.n c.from.ensures in
    absurd (step_other c.args.g.now c.args.self.at (omega arith) (omega arith) c.requires.1 c.requires.0 (λ e. omega (arith, e, kind)) (λ e. omega (arith, e, kind)))
