-- `remaining_in` meets its contract: where preparing is refused so is the call; else the figures are T, how many are heard, and the difference.
-- Assumes nothing.
use mathlib.Core.Path.{◌≡◌, sym, ◌∙◌}
use Rattle.answers.proofs.Results.{handed_on}
use Rattle.charts.specs.Inner.Maps.{counts_map}
use Rattle.charts.proofs.Mapping.{counts_map_lem}
use Rattle.ranking.specs.Inner.Inside.{weigh_in}
use Rattle.ranking.proofs.Finding.{counts_total}
use Rattle.sampling.specs.Question.{plainly}
use Rattle.sampling.specs.Inner.Preparing.{Drawable}
use Rattle.sampling.proofs.Answering.{heard_few, left_counted, left_refused, plainly_made, prepared_case}
use Rattle.answers.proofs.Numbers.{number_some}
use Rattle.sampling.proofs.remaining.remaining_in.Goals as goal

pub prepare-requires : goal.prepare-requires
prepare-requires g c = plainly_made c.requires

pub count-total-requires : goal.count-total-requires
count-total-requires g c =
    let last = c.prepare.new in
    let drawable : Drawable c.args.g.now c.args.h.now (plainly c.args.question.length c.args.question.voice) last.rules last.totals counts_map last.numbers c.in_ok-k.k
    = prepared_case c.prepare.ensures c.in_ok-k.was in
    drawable.chooses.counted

pub figures-requires : goal.figures-requires
figures-requires g c =
    let last = c.prepare.new in
    let drawable : Drawable c.args.g.now c.args.h.now (plainly c.args.question.length c.args.question.voice) last.rules last.totals counts_map last.numbers c.in_ok-k.k
    = prepared_case c.prepare.ensures c.in_ok-k.was in
    -- without a pattern each derivation weighs 1
    let weigh_all : c.count-total.result ≡ weigh_in last.rules counts_map c.args.question.length
    = c.count-total.ensures ∙ sym (counts_total _ counts_map_lem _ drawable.chooses.counted.short) in
    heard_few drawable c.prepare.ensures.room _ weigh_all

pub returns-in_err-k : goal.returns-in_err-k
returns-in_err-k g c = rw (handed_on c.from_residual.ensures.1) (left_refused _ _ _ _ (prepared_case c.prepare.ensures c.in_err-k.was) (number_some _))

pub returns : goal.returns
returns g c =
    let last = c.prepare.new in
    let drawable : Drawable c.args.g.now c.args.h.now (plainly c.args.question.length c.args.question.voice) last.rules last.totals counts_map last.numbers c.in_ok-k.k
    = prepared_case c.prepare.ensures c.in_ok-k.was in
    -- without a pattern each derivation weighs 1
    let weigh_all : c.count-total.result ≡ weigh_in last.rules counts_map c.args.question.length
    = c.count-total.ensures ∙ sym (counts_total _ counts_map_lem _ drawable.chooses.counted.short) in
    c.figures.ensures ∙ left_counted _ _ _ drawable c.prepare.ensures.room _ weigh_all
