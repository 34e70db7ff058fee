use mathlib.Core.Path.{◌≡◌, ap}
use mathlib.Core.List.{List}
use Prim.Native.Nat.{ℕ, ◌+◌, ◌*◌, ◌%◌, ◌/◌, ◌<◌}
use native.Mathlib.Omega.{arith}
use lib.ListN.{get_or}
use Rattle.grammar.specs.Inner.Rules.{count_in, word_from}
use Rattle.weighing.proofs.Before.{summing_from, summing_low, summing_word, summing_end}
use Rattle.weighing.proofs.weights.sum_up.Goals as goal

pub loop-i-preserved : goal.loop-i-preserved
loop-i-preserved c =
    let l = c.loop-i in
    let held : c.loop-a.a < count_in c.args.rules.now = omega (arith, c.loop-a-test.true, c.count-a-end.ensures.0) in
    let inside : l.i < word_from c.args.rules.now (c.loop-a.a + 1) = omega (arith, c.loop-i-test.true, c.words_from-i-end.ensures.0, summing_from c.requires c.loop-a.invariant (c.loop-a.a + 1)) in
    let low : get_or c.to_le_bytes.result 0 0 ≡ l.sum % 256 = ap (λ (b : List ℕ). get_or b 0 0) c.to_le_bytes.ensures in
    let high : get_or c.to_le_bytes.result 1 0 ≡ l.sum / 256 % 256 = ap (λ (b : List ℕ). get_or b 1 0) c.to_le_bytes.ensures in
    let bytes : get_or c.to_le_bytes.result 0 0 + 256 * get_or c.to_le_bytes.result 1 0 ≡ l.sum = omega (arith, low, high, l.invariant.light, summing_low c.requires l.invariant held) in
    summing_word c.requires l.invariant held inside c.word_at-word.ensures c.weight-weight.ensures.0 c.weight-weight.ensures.1 _ _ bytes

pub returns : goal.returns
returns c = summing_end c.requires c.loop-a.invariant (omega (arith, c.loop-a-test.false, c.count-a-end.ensures.0))
