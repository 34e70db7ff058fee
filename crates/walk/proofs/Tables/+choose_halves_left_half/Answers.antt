use mathlib.Core.Path.{◌≡◌, ◌∙◌}
use mathlib.Core.List.{List}
use Prim.Native.Nat.{ℕ, ◌+◌, ◌-◌, ◌≤◌}
use native.Mathlib.Omega.{arith}
use lib.ListN.{length, take}
use borrow.Rule.Slice.PartMut.{put_mid}
use Rattle.walk.proofs.Joined.{lent_length, put_length, put_front, rest_length, put_rest}
use Rattle.walk.proofs.Walking.{word_sought, leaf_owned, short, k_short, placed_by, placed_to, some_right, left_sought, rest_fits, halves_owned, Behind, extends, behind, along, extends_last, found_last}
use Rattle.walk.proofs.Tables.+choose_halves_left_half.Goals as goal
use Rattle.walk.proofs.Tables.+choose_halves_left_half.Goals.{halves-After-extend-found}

-- ---- `choose`

pub choose-leaf-requires : goal.choose-leaf-requires
choose-leaf-requires t c =
    let q = c.requires in
    let m = c.if-node-eq1.true in
    (word_sought q.0 m, omega (arith, short q.0, m), q.1 ∙ m)

pub choose-returns-then-node-eq1 : goal.choose-returns-then-node-eq1
choose-returns-then-node-eq1 t c = leaf_owned c.requires.0 c.if-node-eq1.true c.leaf.ensures

pub choose-returns : goal.choose-returns
choose-returns t c = halves_owned c.choose_rule-pick.ensures c.halves.ensures

-- ---- `left_half`

pub left_half-leaf-requires : goal.left_half-leaf-requires
left_half-leaf-requires t c =
    let q = c.requires in
    let m = c.if-node-eq1.true in
    (word_sought q.0 m, omega (arith, short q.0, m), q.1 ∙ m)

pub left_half-returns-then-node-eq1 : goal.left_half-returns-then-node-eq1
left_half-returns-then-node-eq1 t c = leaf_owned c.requires.0 c.if-node-eq1.true c.leaf.ensures

-- ---- `halves`: the left half

pub halves-total-v-requires : goal.halves-total-v-requires
halves-total-v-requires t c = placed_by c.loop-here.invariant.0.sought c.left-left.ensures c.right-right.ensures

pub halves-total-u-requires : goal.halves-total-u-requires
halves-total-u-requires t c = placed_to c.loop-here.invariant.0.sought c.left-left.ensures c.right-right.ensures

pub halves-quotient-requires : goal.halves-quotient-requires
halves-quotient-requires t c = some_right c.loop-here.invariant.0.sought c.left-left.ensures c.right-right.ensures c.total-v.ensures

pub halves-left_half-l-requires : goal.halves-left_half-l-requires
halves-left_half-l-requires t c =
    let w = c.loop-here.invariant in
    let k = c.left-left.ensures.2 in
    let room : c.loop-here.at + c.loop-here.chosen.k ≤ length c.loop-here.out = omega (arith, k_short w.0.sought, w.1, w.2) in (
      omega (arith, c.decreases, k_short w.0.sought, w.1, k),
      (left_sought w.0.sought c.left-left.ensures c.right-right.ensures c.total-v.ensures c.quotient.ensures, rw k (lent_length c.loop-here.at c.loop-here.chosen.k c.loop-here.out room)),
    )

pub halves-overflow_mul-x : goal.halves-overflow_mul-x
halves-overflow_mul-x t c = omega (arith, rest_fits c.loop-here.invariant.0.sought c.left-left.ensures c.right-right.ensures c.total-v.ensures c.quotient.ensures c.left_half-l.ensures)

pub halves-remainder-requires : goal.halves-remainder-requires
halves-remainder-requires t c = some_right c.loop-here.invariant.0.sought c.left-left.ensures c.right-right.ensures c.total-v.ensures

pub halves-extend-found-requires : goal.halves-extend-found-requires
halves-extend-found-requires t c =
    extends c.loop-here.invariant.0 c.left-left.ensures c.right-right.ensures c.total-v.ensures c.total-u.ensures c.quotient.ensures c.left_half-l.ensures c.remainder.ensures

-- ---- `halves`: the right half, when the left one is written up to `end`

module _ (t : ℕ) (c : halves-After-extend-found t) where
  abbrev end : ℕ
  end = c.loop-here.at + c.loop-here.chosen.k

  -- what `out` holds then
  abbrev out : List ℕ
  out = put_mid c.loop-here.at (end - c.loop-here.at) c.loop-here.out c.left_half-l.new.out

  room : end ≤ length c.loop-here.out
  room = omega (arith, k_short c.loop-here.invariant.0.sought, c.loop-here.invariant.1, c.loop-here.invariant.2)

  words_length : length c.left_half-l.new.out ≡ c.loop-here.chosen.k
  words_length = c.left_half-l.auto.out ∙ lent_length c.loop-here.at c.loop-here.chosen.k c.loop-here.out room

  out_length : length out ≡ c.args.node.m
  out_length = put_length c.loop-here.at c.loop-here.chosen.k c.loop-here.out room c.left_half-l.new.out words_length ∙ c.loop-here.invariant.2

  right : Behind c.args.self.now.rules.now c.args.self.now.totals.now c.args.self.now.choice.now c.args.self.now.measure.now c.args.node.p c.args.node.m
      c.args.pick.b c.args.pick.c c.args.pick.k c.args.pick.before c.args.pick.rest (take end out)
      c.right-right.result.a c.right-right.result.p c.right-right.result.m c.quotient-ticket.result
      c.extend-found.result.place c.extend-found.result.measured c.extend-found.result.weight c.extend-found.result.offset
  right =
      rw (put_front c.loop-here.at c.loop-here.chosen.k c.loop-here.out room c.left_half-l.new.out words_length)
      (behind c.loop-here.invariant.0 c.left-left.ensures c.right-right.ensures c.total-v.ensures c.total-u.ensures c.quotient.ensures c.left_half-l.ensures c.remainder.ensures c.extend-found.ensures c.quotient-ticket.ensures)

pub halves-leaf-f-requires : goal.halves-leaf-f-requires
halves-leaf-f-requires t c =
    let d = (goal.at.halves-leaf-f-requires t c).After-extend-found in
    let s = (right t d).sought in
    let m = c.if-here-eq1.true in
    (word_sought s m, omega (arith, short s, m), rest_length (end t d) (out t d) ∙ omega (arith, out_length t d, c.loop-here.invariant.1, c.right-right.ensures.2, m))

pub halves-extend-requires : goal.halves-extend-requires
halves-extend-requires t c =
    let b = right t (goal.at.halves-extend-requires t c).After-extend-found in
    extends_last b (leaf_owned b.sought c.if-here-eq1.true c.leaf-f.ensures)

pub halves-returns-then-here-eq1 : goal.halves-returns-then-here-eq1
halves-returns-then-here-eq1 t c =
    let d = (goal.at.halves-returns-then-here-eq1 t c).After-extend-found in
    let b = right t d in
    rw (put_rest (end t d) (out t d) c.leaf-f.new.out) (found_last b (leaf_owned b.sought c.if-here-eq1.true c.leaf-f.ensures) c.extend.ensures)

pub halves-choose_rule-chosen-requires : goal.halves-choose_rule-chosen-requires
halves-choose_rule-chosen-requires t c =
    let s = (right t (goal.at.halves-choose_rule-chosen-requires t c).After-extend-found).sought in
    (s, omega (arith, s.asked.some, c.if-here-eq1.false))

pub halves-loop-here-preserved : goal.halves-loop-here-preserved
halves-loop-here-preserved t c =
    let d = (goal.at.halves-loop-here-preserved t c).After-extend-found in
    (along (right t d) c.choose_rule-chosen.ensures, omega (arith, c.loop-here.invariant.1, k_short c.loop-here.invariant.0.sought, c.right-right.ensures.2), out_length t d)
