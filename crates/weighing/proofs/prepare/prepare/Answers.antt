-- `prepare` meets its contract: what the grammar, the question and the weights are refused for, then the history's refusals, then 15; past them the tables,
-- the first tickets and the sums.
-- Assumes nothing.
use Prim.Native.Nat.{ℕ, ◌-◌, ◌≤◌}
use native.Mathlib.Omega.{arith}
use lib.ListN.{length, take}
use Rattle.answers.proofs.Results.{handed_on}
use Rattle.history.specs.Layout.{records_of}
use Rattle.history.specs.Refusals.{Accepted}
use Rattle.sampling.specs.Question.{plainly}
use Rattle.sampling.specs.Inner.Collect.{spans_by}
use Rattle.sampling.specs.Inner.Preparing.{DrawableBy, SampledBy}
use Rattle.sampling.proofs.Answering.{prepared_case}
use Rattle.weighing.specs.Weights.{weighs}
use Rattle.weighing.specs.Weighted.{weighed_rows}
use Rattle.weighing.specs.Inner.Sums.{SumsSought}
use Rattle.weighing.specs.Inner.Preparing.{RecordsAs}
use Rattle.charts.specs.Inner.Maps.{weights_map}
use mathlib.Core.Path.{◌≡◌}
use Rattle.std.specs.Prelude.{Ok}
use Rattle.weighing.proofs.Preparing.{records_sought, prepared_unweighed, prepared_sampled, prepared_unready, prepared_ready, sums_sought, sums_tell}
use Rattle.weighing.proofs.prepare.prepare.Goals as goal
use Rattle.weighing.proofs.prepare.prepare.Goals.{After-records}

-- ---- past 22 and the weights

-- what is lent has room for the history
numbers_room : (c : After-records) → Accepted c.args.h.now → records_of c.args.h.now ≤ length c.records.new.numbers
numbers_room c d = omega (arith, c.records.auto.numbers, c.requires.room.numbers_room d)

ends_room : (c : After-records) → Accepted c.args.h.now → records_of c.args.h.now ≤ length c.records.new.ends
ends_room c d = omega (arith, c.records.auto.ends, c.requires.room.sums_room d)

-- what the history is answered
recorded : (c : After-records)
    → RecordsAs c.weigh.new.rules c.args.h.now c.args.question.length c.args.question.voice c.args.weights.now c.records.new.rules c.records.new.totals c.records.new.numbers
    c.records.new.ends c.records.result
recorded c = c.records.ensures _ _ (records_sought c.weigh.ensures c.in_ok-weigh.was c.requires.room)

sampled : (c : After-records) → let q = c.args.question in
    SampledBy c.args.g.now c.args.h.now (plainly q.length q.voice) (weighs c.args.weights.now) (weighed_rows c.args.g.now q.length q.voice c.args.weights.now) c.records.new.rules
    c.records.new.totals weights_map c.records.new.numbers c.records.result
sampled c = prepared_sampled c.weigh.ensures c.in_ok-weigh.was (numbers_room c) (recorded c).recorded

drawable : (c : After-records) {k : ℕ} → c.records.result ≡ Ok k → let q = c.args.question in
    DrawableBy c.args.g.now c.args.h.now (plainly q.length q.voice) (weighs c.args.weights.now) (weighed_rows c.args.g.now q.length q.voice c.args.weights.now) c.records.new.rules
    c.records.new.totals weights_map c.records.new.numbers k
drawable c e = prepared_case (sampled c) e

sums_asked : (c : After-records) {k : ℕ} → c.records.result ≡ Ok k
    → SumsSought (spans_by c.args.g.now c.args.h.now c.args.question.length c.args.question.voice (weighs c.args.weights.now)) (take (k - 0) c.records.new.numbers) c.records.new.ends
sums_asked c e =
    sums_sought c.args.weights.now (drawable c e) (numbers_room c) (c.weigh.ensures.ready c.in_ok-weigh.was).tabled.holds (ends_room c) ((recorded c).ended _ e)

-- ---- the answers

pub returns-in_err-weigh : goal.returns-in_err-weigh
returns-in_err-weigh c =
    rw (handed_on c.from_residual.ensures.1) (prepared_unweighed c.weigh.ensures c.in_err-weigh.was c.requires.room.numbers_room)

pub returns-in_err-k : goal.returns-in_err-k
returns-in_err-k c = rw (handed_on c.from_residual-in_err-k.ensures.1) (prepared_unready (sampled (goal.at.returns-in_err-k c).After-records) c.in_err-k.was)

pub fill-requires : goal.fill-requires
fill-requires c = (_, sums_asked (goal.at.fill-requires c).After-records c.in_ok-k.was)

pub returns : goal.returns
returns c =
    let p = (goal.at.returns c).After-records in
    let e = c.in_ok-k.was in
    prepared_ready (sampled p) e
    (sums_tell c.args.weights.now (drawable p e) (numbers_room p) (c.weigh.ensures.ready c.in_ok-weigh.was).tabled.holds (ends_room p) ((recorded p).ended _ e)
    (c.fill.ensures _ (sums_asked p e)))
