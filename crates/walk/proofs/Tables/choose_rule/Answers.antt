use mathlib.Core.Path.{refl}
use native.Mathlib.Omega.{arith}
use Rattle.walk.proofs.Walking.{short, going_start, rule_low, left_few, right_few, going_rule, cut_by, cut_to, going_found, going_room, going_next}
use Rattle.walk.proofs.Tables.choose_rule.Goals as goal

pub loop-k-init : goal.loop-k-init
loop-k-init c = going_start c.requires.0 c.requires.1 c.pairs_from-i.ensures.0

pub product-x-requires : goal.product-x-requires
product-x-requires c = cut_by c.requires.0 c.requires.1 c.loop-k.invariant c.if-k-end.true c.left-l.ensures c.right-r.ensures

pub returns-then-rest-x : goal.returns-then-rest-x
returns-then-rest-x c = going_found c.requires.0 c.requires.1 c.loop-k.invariant c.if-k-end.true c.left-l.ensures c.right-r.ensures c.product-x.ensures c.if-rest-x.true

pub product-before-requires : goal.product-before-requires
product-before-requires c = cut_to c.requires.0 c.requires.1 c.loop-k.invariant c.if-k-end.true c.left-l.ensures c.right-r.ensures

pub overflow_add-before : goal.overflow_add-before
overflow_add-before c =
    omega (arith, going_room c.requires.0 c.requires.1 c.loop-k.invariant c.if-k-end.true c.left-l.ensures c.right-r.ensures c.product-x.ensures c.product-before.ensures)

pub loop-k-preserved-then-k-end : goal.loop-k-preserved-then-k-end
loop-k-preserved-then-k-end c =
    going_next c.requires.0 c.requires.1 c.loop-k.invariant c.if-k-end.true c.left-l.ensures c.right-r.ensures c.product-x.ensures c.product-before.ensures c.if-rest-x.false

pub left_at-b-requires : goal.left_at-b-requires
left_at-b-requires c = (c.requires.0.tables.counted.table.long, omega (arith, rule_low c.requires.0 c.requires.1 c.loop-k.invariant c.if-k-end.false))

pub right_at-c-requires : goal.right_at-c-requires
right_at-c-requires c = (c.requires.0.tables.counted.table.long, omega (arith, rule_low c.requires.0 c.requires.1 c.loop-k.invariant c.if-k-end.false))

pub bounds-self-c : goal.bounds-self-c
bounds-self-c c = right_few c.requires.0 c.requires.1 c.loop-k.invariant c.if-k-end.false c.left_at-b.ensures.0 c.right_at-c.ensures.0

pub bounds-self-b : goal.bounds-self-b
bounds-self-b c = left_few c.requires.0 c.requires.1 c.loop-k.invariant c.if-k-end.false c.left_at-b.ensures.0 c.right_at-c.ensures.0

pub overflow_add-i : goal.overflow_add-i
overflow_add-i c = omega (arith, rule_low c.requires.0 c.requires.1 c.loop-k.invariant c.if-k-end.false)

pub loop-k-smaller : goal.loop-k-smaller
loop-k-smaller c = omega (arith, rule_low c.requires.0 c.requires.1 c.loop-k.invariant c.if-k-end.false, c.past-end.ensures.0, short c.requires.0)

pub loop-k-preserved : goal.loop-k-preserved
loop-k-preserved c =
    going_rule c.requires.0 c.requires.1 c.loop-k.invariant c.if-k-end.false c.left_at-b.ensures.0 c.right_at-c.ensures.0
    refl c.first-k.ensures refl c.past-end.ensures
