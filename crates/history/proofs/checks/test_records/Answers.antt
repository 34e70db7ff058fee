use mathlib.Core.Path.{◌≡◌, refl, sym, ap, ◌∙◌}
use mathlib.Core.Bool.{Bool, true, false, ◌||◌, or-false}
use mathlib.Core.List.{List}
use Prim.Native.Nat.{ℕ, ◌+◌, ◌-◌, ◌≤◌, ◌<◌}
use native.Mathlib.Omega.{arith}
use native.Mathlib.Decide.{dec_lt}
use borrow.Author.Tests.{lt-ltb, le-ltb}
use lib.Dec.{ltb}
use Rattle.std.specs.Prelude.{Some, None}
use Rattle.lists.specs.Searched.{some_below, some_to}
use Rattle.lists.proofs.Tests.{or_true, to_hit, to_miss, to_some}
use Rattle.history.specs.Layout.{records_of, head_of, record_at, two_at}
use Rattle.history.specs.Refusals.{misfit, next_above, bad_record, bad_link}
use Rattle.history.specs.Inner.Checks.{Sized, TestedAs}
use Rattle.history.proofs.checks.test_records.Invariants.{Past}
use Rattle.history.proofs.checks.test_records.Goals as goal

module _ (h : List ℕ) {k : ℕ} (s : Sized h k) where
  -- before the first
  none : {x : ℕ} → x ≡ head_of h → Past h (ltb k x) 1
  unfolding some_below
  none e = record { fit = refl; links = sym (or-false (ltb (records_of h) (head_of h)) ∙ cc s.count) }

  -- after the last
  module _ {far : Bool} {r : ℕ} (p : Past h far r) (l : r ≡ k + 1) where
    all_fit : bad_record h ≡ false
    unfolding bad_record
    all_fit = let f : r - 1 ≡ records_of h = omega (arith, s.count) in rw f at p.fit

    link_far : far ≡ bad_link h
    unfolding bad_link
    link_far = let f : r - 1 ≡ records_of h = omega (arith, s.count) in rw f at p.links

    all_tested : TestedAs h (Some far)
    all_tested = (all_fit, link_far)

  -- the record r, which stands at i
  module _ {r i : ℕ} (l : 1 ≤ r) (m : r ≤ k) (e : i ≡ record_at r) where
    bad : misfit h i ≡ true → TestedAs h None
    unfolding bad_record
    bad b = to_some (λ q. misfit h (record_at q)) (records_of h) r l (omega (arith, s.count)) (rw e at b)

    module _ {far : Bool} {x : ℕ} (p : Past h far r) (n : misfit h i ≡ false) (f : x ≡ two_at h i) where
      next_fit : some_to (λ q. misfit h (record_at q)) (r + 1 - 1) ≡ false
      next_fit = let g : r + 1 - 1 ≡ r = omega arith in rw g (to_miss (λ q. misfit h (record_at q)) r l (rw e at n) ∙ p.fit)

      next_far : k < x → Past h true (r + 1)
      next_far b =
          let g : r + 1 - 1 ≡ r = omega arith in
          let above : next_above h r ≡ true = lt-ltb (records_of h) (two_at h (record_at r)) (omega (arith, s.count, ap (two_at h) e)) in
          record { fit = next_fit; links = rw g (sym (or_true (ltb (records_of h) (head_of h)) (some_to (next_above h) r) (to_hit (next_above h) r l above))) }

      next_near : x ≤ k → Past h far (r + 1)
      next_near b =
          let g : r + 1 - 1 ≡ r = omega arith in
          let below : next_above h r ≡ false = le-ltb (records_of h) (two_at h (record_at r)) (omega (arith, s.count, ap (two_at h) e)) in
          record { fit = next_fit; links = rw (g, to_miss (next_above h) r l below) p.links }

      next : Past h (far || ltb k x) (r + 1)
      next =
          elim (dec_lt k x) [
            | yes b ↦ rw (lt-ltb k x b, or_true far true refl) (next_far b)
            | no b ↦ rw (le-ltb k x (omega arith), or-false far) (next_near (omega arith))
          ]

pub loop-r-init : goal.loop-r-init
loop-r-init c = none _ c.requires c.two_at.ensures.0

pub returns-then-misfit : goal.returns-then-misfit
returns-then-misfit c = bad c.args.h.now c.requires (omega arith) (omega arith) c.record_at-at.ensures (sym c.if-misfit.ensures)

pub loop-r-preserved : goal.loop-r-preserved
loop-r-preserved c =
    next c.args.h.now c.requires (omega arith) (omega arith) c.record_at-at.ensures c.loop-r.invariant (sym c.if-misfit.ensures) c.two_at-in-loop-r.ensures.0

pub returns : goal.returns
returns c = all_tested _ c.requires c.loop-r.invariant (omega arith)
