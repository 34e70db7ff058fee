use mathlib.Core.Path.{◌≡◌, sym, ap, ◌∙◌}
use mathlib.Core.Bool.{Bool, true, false, cond, not, ◌||◌, or_comm}
use mathlib.Core.List.{List}
use Prim.Native.Nat.{ℕ, ◌+◌, ◌*◌, ◌-◌, ◌≤◌}
use native.Mathlib.Omega.{arith}
use lib.Dec.{ltb}
use Rattle.std.specs.Prelude.{Ok, Err}
use Rattle.answers.specs.declared.refusal.Refusal.TheVariants.{GrammarBadLink}
use Rattle.lists.specs.Searched.{some_to}
use Rattle.lists.proofs.Tests.{to_miss, to_step, to_some, below_none}
use Rattle.grammar.specs.Layout.{byte_at, rules}
use Rattle.grammar.specs.Refusals.{fits, misfit, bad_rule, next_above}
use Rattle.grammar.specs.Inner.Checks.{Sized, rules_say}
use Rattle.grammar.proofs.checks.check_rules.Invariants.{Passed}
use Rattle.grammar.proofs.checks.check_rules.Goals as goal
use Rattle.grammar.proofs.checks.check_rules.Goals.{else-loop-i-test, then-loop-i-test+else-not-rule_fits+else-i-r}

module _ {g : List ℕ} {n r : ℕ} (s : Sized g n r) (i : ℕ) {fit : Bool}
    (read : fit ≡ fits (byte_at g 0) (byte_at g 1) (byte_at g (n + 4 * i)) (byte_at g (n + 4 * i + 1)) (byte_at g (n + 4 * i + 2))) where
  -- the bytes read are those of rule i
  misfit_at : {b : Bool} → fit ≡ b → misfit g i ≡ not b
  misfit_at e = ap not (sym (rw s.heads at read) ∙ e)

  one_more : {link : Bool} {x : ℕ} → Passed g r link (i - 1) → i ≤ r → 1 ≤ i → fit ≡ true → x ≡ byte_at g (n + 4 * i + 3)
      → Passed g r (link || ltb r x) i
  one_more w h k e ex = record {
    reached = h;
    good = to_miss (misfit g) i k (misfit_at e) ∙ w.good;
    far =
        rw (w.far, ex, s.heads, s.bodies)
        (or_comm (some_to (next_above g) (i - 1)) (next_above g i) ∙ sym (to_step (next_above g) i k));
  }

all_passed : {g : List ℕ} {n r m : ℕ} {link : Bool} → Sized g n r → Passed g r link m → r ≤ m → (b : Bool) → link ≡ b
    → cond b (Err GrammarBadLink) (Ok tt) ≡ rules_say g
unfolding bad_rule
all_passed {g} {m = m} s w h b e =
    let all : m ≡ rules g = omega (arith, s.bodies, w.reached) in
    let good : some_to (misfit g) (rules g) ≡ false = rw all at w.good in
    let far : some_to (next_above g) (rules g) ≡ b = sym (rw all at w.far) ∙ e in
    rw (good, far)

pub loop-i-init : goal.loop-i-init
loop-i-init c = record { reached = omega arith; good = below_none _ _ (omega arith); far = sym (below_none _ _ (omega arith)) }

pub returns-then-not-rule_fits : goal.returns-then-not-rule_fits
unfolding bad_rule
returns-then-not-rule_fits c =
    let g = c.args.g.now in
    let i = c.loop-i.i in
    let bad : some_to (misfit g) (rules g) ≡ true
    = to_some (misfit g) (rules g) i (omega arith) (omega arith) (misfit_at c.requires i c.rule_fits.ensures c.if-not-rule_fits.true) in
    rw bad

pub loop-i-preserved : goal.loop-i-preserved
loop-i-preserved c =
    let i = c.loop-i.i in
    let e : i + 1 - 1 ≡ i = omega arith in
    rw e (one_more c.requires i c.rule_fits.ensures c.loop-i.invariant (omega arith) (omega arith) c.if-not-rule_fits.false c.from.ensures)

-- the loop ends at its test where there is no rule, and else behind the last
pub returns-then-link : goal.returns-then-link
returns-then-link c =
    elim c.loop-i-test.branch [
      | else-loop-i-test w ↦ all_passed c.requires c.loop-i.invariant (omega arith) true (sym w.link-is ∙ c.if-link.true)
      | then-loop-i-test+else-not-rule_fits+else-i-r w ↦
          let last = one_more c.requires c.loop-i.i w.rule_fits.ensures c.loop-i.invariant (omega arith) (omega arith) w.if-not-rule_fits.false w.from.ensures in
          all_passed c.requires last (omega arith) true (sym w.link-is ∙ c.if-link.true)
    ]

pub returns-else-link : goal.returns-else-link
returns-else-link c =
    elim c.loop-i-test.branch [
      | else-loop-i-test w ↦ all_passed c.requires c.loop-i.invariant (omega arith) false (sym w.link-is ∙ c.if-link.false)
      | then-loop-i-test+else-not-rule_fits+else-i-r w ↦
          let last = one_more c.requires c.loop-i.i w.rule_fits.ensures c.loop-i.invariant (omega arith) (omega arith) w.if-not-rule_fits.false w.from.ensures in
          all_passed c.requires last (omega arith) false (sym w.link-is ∙ c.if-link.false)
    ]
