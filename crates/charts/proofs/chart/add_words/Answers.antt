use mathlib.Core.Path.{◌≡◌, ap₂}
use Prim.Native.Nat.{◌-◌, ◌<◌}
use native.Mathlib.Omega.{arith}
use Rattle.grammar.specs.Inner.Rules.{count_in}
use Rattle.charts.specs.Inner.Filling.{word_count}
use Rattle.charts.proofs.Words.{words_step, words_skip}
use Rattle.charts.proofs.chart.add_words.Goals as goal
use Rattle.charts.proofs.chart.add_words.Goals.{then-words-ne0, else-words-ne0}

pub loop-a-preserved : goal.loop-a-preserved
loop-a-preserved c =
    let words : c.words_from.result - c.words_from-in-loop-a.result ≡ word_count c.args.rules.now c.loop-a.a = ap₂ ◌-◌ c.words_from.ensures.0 c.words_from-in-loop-a.ensures.0 in
    let below : c.loop-a.a < count_in c.args.rules.now = omega (arith, c.loop-a-test.true, c.count-count.ensures.0) in
    let q = c.requires in
    let a = c.loop-a.a in
    let w = c.loop-a.invariant in
    elim c.if-words-ne0.branch [
      | then-words-ne0 o ↦ rw o.set-is (words_step q a w below _ words o.totals-is o.with-set.ensures)
      | else-words-ne0 o ↦ rw o.set-is (words_skip q a w below _ words o.if-words-ne0.false o.totals-is)
    ]
