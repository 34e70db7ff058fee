use mathlib.Core.Path.{refl}
use Prim.Native.Nat.{◌-◌, ◌≤◌}
use native.Mathlib.Omega.{arith}
use Rattle.counting.specs.Inner.Counted.{longest_at}
use Rattle.counting.proofs.PairSums.{halves_end, adding_start, adding_step, adding_past, adding_end, adding_none, counts_end, less_added}
use Rattle.counting.proofs.tallies.add_pair.Goals as goal

pub returns-then-last-over : goal.returns-then-last-over
returns-then-last-over g c =
    let h = c.requires in
    let past : c.min-last.result ≤ c.args.m - 1 - longest_at c.args.totals.now c.args.c = omega arith in
    (adding_none (halves_end h.halves) past (omega arith), adding_none (counts_end h.halves h.beside) past (omega arith), h.beside.less)

pub loop-k-init : goal.loop-k-init
loop-k-init g c =
    let h = c.requires in
    (adding_start (halves_end h.halves) (omega arith), adding_start (counts_end h.halves h.beside) (omega arith), h.beside.less)

pub returns-in_err-total : goal.returns-in_err-total
returns-in_err-total g c =
    rw c.from_residual.ensures
    (adding_past (halves_end c.requires.halves) c.loop-k.invariant.0 (omega arith) c.count_at.ensures c.count_at-in-loop-k.ensures c.in_err-total.ensures)

pub add-count-requires : goal.add-count-requires
add-count-requires g c =
    let h = c.requires in
    let less = less_added h.halves h.beside c.loop-k.invariant.2 (omega arith) (omega arith) c.count_at.ensures c.count_at-in-loop-k.ensures refl refl c.in_ok-total.ensures in
    (h.beside.long, h.halves.left, h.halves.right, h.halves.short, omega arith, omega (arith, less))

pub loop-k-preserved : goal.loop-k-preserved
loop-k-preserved g c =
    let h = c.requires in
    let less = less_added h.halves h.beside c.loop-k.invariant.2 (omega arith) (omega arith) c.count_at.ensures c.count_at-in-loop-k.ensures refl refl c.in_ok-total.ensures in (
      adding_step (halves_end h.halves) c.loop-k.invariant.0 (omega arith) c.count_at.ensures c.count_at-in-loop-k.ensures c.in_ok-total.ensures,
      adding_step (counts_end h.halves h.beside) c.loop-k.invariant.1 (omega arith) refl refl c.add-count.ensures,
      omega (arith, less, c.add-count.ensures),
    )

pub returns : goal.returns
returns g c =
    let h = c.requires in (
      adding_end (halves_end h.halves) c.loop-k.invariant.0 c.loop-k-test.false (omega arith),
      adding_end (counts_end h.halves h.beside) c.loop-k.invariant.1 c.loop-k-test.false (omega arith),
      c.loop-k.invariant.2,
    )
