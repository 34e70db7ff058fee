use mathlib.Core.Path.{◌≡◌, ◌∙◌}
use native.Mathlib.Omega.{arith}
use lib.ListN.{length-set}
use Rattle.grammar.specs.Inner.Linking.{next_row, owner_row}
use Rattle.grammar.proofs.Linking.{kind_start, kind_end, kind_long, kind_low, head_inside, kind_more}
use Rattle.grammar.proofs.links.link_kind.Goals as goal

pub loop-i-init : goal.loop-i-init
loop-i-init g c = kind_start g.K.Kind.pairs c.args.rules.now c.args.a c.requires c.begins-i.ensures.0

pub head-row-requires : goal.head-row-requires
head-row-requires g c = kind_low g.K.Kind.pairs c.loop-i.invariant c.begins-i-end.ensures.0 c.loop-i-test.true c.entry.ensures

pub offset_bounds-rules-row : goal.offset_bounds-rules-row
offset_bounds-rules-row g c =
    let inside = head_inside g.K.Kind.pairs c.loop-i.invariant c.begins-i-end.ensures.0 c.loop-i-test.true c.entry.ensures in
    omega (arith, c.head-row.ensures.0, inside.0)

pub bounds-rules-row : goal.bounds-rules-row
bounds-rules-row g c =
    let inside = head_inside g.K.Kind.pairs c.loop-i.invariant c.begins-i-end.ensures.0 c.loop-i-test.true c.entry.ensures in
    omega (arith, c.head-row.ensures.0, inside.0, kind_long g.K.Kind.pairs c.loop-i.invariant)

pub bounds-rules-place : goal.bounds-rules-place
bounds-rules-place g c =
    let inside = head_inside g.K.Kind.pairs c.loop-i.invariant c.begins-i-end.ensures.0 c.loop-i-test.true c.entry.ensures in
    omega (arith, c.head-row.ensures.1, inside.1)

pub offset_bounds-rules-row-in-loop-i : goal.offset_bounds-rules-row-in-loop-i
offset_bounds-rules-row-in-loop-i g c =
    let inside = head_inside g.K.Kind.pairs c.loop-i.invariant c.begins-i-end.ensures.0 c.loop-i-test.true c.entry.ensures in
    omega (arith, c.head-row.ensures.0, inside.0)

pub bounds-rules-row-in-loop-i : goal.bounds-rules-row-in-loop-i
bounds-rules-row-in-loop-i g c =
    let inside = head_inside g.K.Kind.pairs c.loop-i.invariant c.begins-i-end.ensures.0 c.loop-i-test.true c.entry.ensures in
    simp length-set (omega (arith, c.head-row.ensures.0, inside.0, kind_long g.K.Kind.pairs c.loop-i.invariant))

pub bounds-rules-place-in-loop-i : goal.bounds-rules-place-in-loop-i
bounds-rules-place-in-loop-i g c =
    let inside = head_inside g.K.Kind.pairs c.loop-i.invariant c.begins-i-end.ensures.0 c.loop-i-test.true c.entry.ensures in
    omega (arith, c.head-row.ensures.1, inside.1)

pub loop-i-preserved : goal.loop-i-preserved
loop-i-preserved g c =
    let k = g.K.Kind.pairs in
    let next : c.NEXT.result ≡ next_row k = c.NEXT.ensures ∙ g.met.K.Kind.rows.0 in
    let owner : c.OWNER.result ≡ owner_row k = c.OWNER.ensures ∙ g.met.K.Kind.rows.1 in
    rw (next, owner, c.head-row.ensures.0, c.head-row.ensures.1)
    (kind_more k c.loop-i.invariant c.begins-i-end.ensures.0 c.loop-i-test.true c.entry.ensures)

pub returns : goal.returns
returns g c = kind_end g.K.Kind.pairs c.loop-i.invariant c.begins-i-end.ensures.0 c.loop-i-test.false
