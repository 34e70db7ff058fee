use mathlib.Core.Path.{◌≡◌}
use mathlib.Core.List.{List}
use Prim.Native.Nat.{ℕ, ◌+◌, ◌≤◌}
use native.Mathlib.Omega.{arith}
use lib.ListN.{get_or}
use Rattle.grammar.proofs.Walks.{step_met}
use Rattle.lists.proofs.Tables.{kept_same, kept_put}
use Rattle.grammar.proofs.Entering.{Walking, enter_few, walk_start, walk_room, walk_again, walk_free, walk_word, walk_pair, walk_end}
use Rattle.grammar.specs.Inner.Entering.{Entering}
use Rattle.grammar.proofs.entries.enter.Goals as goal

-- the words and pair rules entered have room
room : {g seen : List ℕ} {old rules : List (List ℕ)} {seen' : List ℕ} {a at w p : ℕ} → Entering g seen old a → Walking g seen' rules a at w p → w + p ≤ 255
room q v = omega (arith, walk_room q v, q.readable.sized.numbered)

pub words_from-w-requires : goal.words_from-w-requires
words_from-w-requires c = (
  c.requires.walked.entered.roomy.long,
  omega (arith, enter_few c.requires, c.from-i.ensures),
)

pub pairs_from-p-requires : goal.pairs_from-p-requires
pairs_from-p-requires c = (
  c.requires.walked.entered.roomy.long,
  omega (arith, enter_few c.requires, c.from-i.ensures),
)

pub loop-seen-init : goal.loop-seen-init
loop-seen-init c = (
  walk_start c.requires c.from-i.ensures c.words_from-w.ensures.0 c.pairs_from-p.ensures.0 c.new-walk.ensures,
  kept_same c.requires.walked.entered.roomy.wide,
  omega arith,
)

pub returns-then-seen-at-ne0 : goal.returns-then-seen-at-ne0
returns-then-seen-at-ne0 c = walk_again c.requires c.loop-seen.invariant.0 c.from-at.ensures c.if-seen-at-ne0.true c.loop-seen.invariant.1

pub overflow_cast-rules : goal.overflow_cast-rules
overflow_cast-rules c = omega (arith, room c.requires c.loop-seen.invariant.0)

pub overflow_add-rules : goal.overflow_add-rules
overflow_add-rules c = omega (arith, enter_few c.requires)

pub bounds-rules-i : goal.bounds-rules-i
bounds-rules-i c = omega (arith, enter_few c.requires)

pub overflow_cast-rules-in-End : goal.overflow_cast-rules-in-End
overflow_cast-rules-in-End c = omega (arith, room c.requires c.loop-seen.invariant.0)

pub overflow_add-rules-in-End : goal.overflow_add-rules-in-End
overflow_add-rules-in-End c = omega (arith, enter_few c.requires)

pub overflow_add-rules-in-End-2 : goal.overflow_add-rules-in-End-2
overflow_add-rules-in-End-2 c = omega (arith, enter_few c.requires)

pub bounds-rules-i-in-End : goal.bounds-rules-i-in-End
bounds-rules-i-in-End c = omega (arith, enter_few c.requires)

pub returns-in-End : goal.returns-in-End
returns-in-End c = walk_end c.requires c.loop-seen.invariant.0 c.from-i.ensures (step_met _ _ c.step.ensures c.in-End.is) c.loop-seen.invariant.1

pub bounds-rules-w : goal.bounds-rules-w
bounds-rules-w c = omega (arith, room c.requires c.loop-seen.invariant.0)

pub overflow_add-w : goal.overflow_add-w
overflow_add-w c = omega (arith, room c.requires c.loop-seen.invariant.0)

pub loop-seen-smaller-in-Word : goal.loop-seen-smaller-in-Word
loop-seen-smaller-in-Word c =
    let same : c.from-at.result ≡ c.loop-seen.walk.at = c.from-at.ensures in
    let new : get_or c.loop-seen.seen c.from-at.result 0 ≡ 0 = c.if-seen-at-ne0.false in
    omega (arith, walk_free c.requires c.loop-seen.invariant.0 same new (step_met _ _ c.step.ensures c.in-Word.is))

pub loop-seen-preserved-in-Word : goal.loop-seen-preserved-in-Word
loop-seen-preserved-in-Word c =
    let same : c.from-at.result ≡ c.loop-seen.walk.at = c.from-at.ensures in
    let new : get_or c.loop-seen.seen c.from-at.result 0 ≡ 0 = c.if-seen-at-ne0.false in (
      walk_word c.requires c.loop-seen.invariant.0 same new (step_met _ _ c.step.ensures c.in-Word.is),
      kept_put 0 _ _ (omega arith) c.loop-seen.invariant.1,
      omega arith,
    )

pub bounds-rules-p : goal.bounds-rules-p
bounds-rules-p c = omega (arith, room c.requires c.loop-seen.invariant.0)

pub bounds-rules-p-in-Pair : goal.bounds-rules-p-in-Pair
bounds-rules-p-in-Pair c = omega (arith, room c.requires c.loop-seen.invariant.0)

pub overflow_add-p : goal.overflow_add-p
overflow_add-p c = omega (arith, room c.requires c.loop-seen.invariant.0)

pub loop-seen-smaller : goal.loop-seen-smaller
loop-seen-smaller c =
    let same : c.from-at.result ≡ c.loop-seen.walk.at = c.from-at.ensures in
    let new : get_or c.loop-seen.seen c.from-at.result 0 ≡ 0 = c.if-seen-at-ne0.false in
    omega (arith, walk_free c.requires c.loop-seen.invariant.0 same new (step_met _ _ c.step.ensures c.in-Pair.is))

pub loop-seen-preserved : goal.loop-seen-preserved
loop-seen-preserved c =
    let same : c.from-at.result ≡ c.loop-seen.walk.at = c.from-at.ensures in
    let new : get_or c.loop-seen.seen c.from-at.result 0 ≡ 0 = c.if-seen-at-ne0.false in (
      walk_pair c.requires c.loop-seen.invariant.0 same new (step_met _ _ c.step.ensures c.in-Pair.is),
      kept_put 2 _ _ (omega arith) (kept_put 1 _ _ (omega arith) c.loop-seen.invariant.1),
      omega arith,
    )
