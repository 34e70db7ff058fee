-- `collect` meets its contract. The loop's invariant: the places so far, with what the sentences still to come add, are all of them, the same of where
-- they end if there is room for that, and the tables serve the next sentence. The measure is the records still to come.
-- Assumes nothing.
use mathlib.Core.Path.{◌≡◌}
use Prim.Native.Nat.{◌≤◌}
use lib.ListN.{length}
use Rattle.ranking.specs.Inner.Inside.{weighs}
use Rattle.history.specs.Layout.{records_of}
use Rattle.history.specs.Chain.{numbers_from}
use Rattle.sampling.specs.Inner.Collect.{beginning, ending, Serves}
use Rattle.sampling.proofs.Collect.{Collecting}
use Rattle.sampling.proofs.heard.Sources.collect.Given as goal

abbrev pub invariant-loop-at : goal.invariant-loop-at
invariant-loop-at l = Collecting l.self.rules.now (weighs l.self.rules.now l.self.measure.now) beginning l.h l.question.length l.question.voice l.numbers l.at l.count
    × Serves l.self.rules.now l.self.plan.now l.map l.self.measure.now l.sets l.totals
    × (length l.sets ≡ 290)
    × (length l.totals ≡ length l.initial.totals)
    × (length l.numbers ≡ length l.initial.numbers)
    × (records_of l.h ≤ length l.initial.ends → Collecting l.self.rules.now (weighs l.self.rules.now l.self.measure.now) ending l.h l.question.length l.question.voice l.ends l.at l.count)
    × (length l.ends ≡ length l.initial.ends)

abbrev pub decreases-loop-at : goal.decreases-loop-at
decreases-loop-at l = length (numbers_from l.h l.at)
