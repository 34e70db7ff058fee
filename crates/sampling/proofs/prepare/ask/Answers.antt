-- `ask` meets its contract: a refusal of opening is handed on; past it come the voice, the counts and the pattern.
-- Assumes nothing.
use mathlib.Core.Path.{sym, ◌∙◌}
use native.Mathlib.Omega.{arith}
use Rattle.answers.proofs.Results.{handed_on}
use Rattle.lists.specs.Inner.Tables.{Kept}
use Rattle.lists.proofs.Tables.{kept_same}
use Rattle.counting.specs.Inner.Preparing.{Tabled}
use Rattle.counting.proofs.Preparing.{prepare_asks, filled_large, filled_tabled}
use Rattle.sampling.specs.Question.{asked}
use Rattle.sampling.proofs.Asking.{ask_unopened, ask_voice, ask_large, ask_pattern, ask_ready}
use Rattle.sampling.proofs.prepare.ask.Goals as goal

pub returns-in_err-open : goal.returns-in_err-open
returns-in_err-open c =
    let lent : let t = c.args.totals.now in Kept 17 32 t t = kept_same c.requires.wide in
    rw (handed_on c.from_residual.ensures.1) (ask_unopened (asked c.args.question _) c.«open».ensures lent c.in_err-open.was)

pub returns-then-question-gt15 : goal.returns-then-question-gt15
returns-then-question-gt15 c =
    let lent : let t = c.args.totals.now in Kept 17 32 t t = kept_same c.requires.wide in
    ask_voice _ c.«open».ensures lent c.in_ok-open.was (omega (arith, c.if-question-gt15.true))

pub fill-requires : goal.fill-requires
fill-requires c = prepare_asks c.requires c.«open».ensures c.in_ok-open.was

-- 10
pub returns-then-not-fill : goal.returns-then-not-fill
returns-then-not-fill c =
    let filled : Kept 17 32 c.args.totals.now c.fill.new.totals = let f = c.fill.ensures.own in record { long = f.long; wide = f.wide; rest = f.rest } in
    let lent : let t = c.args.totals.now in Kept 17 32 t t = kept_same c.requires.wide in
    let o = c.«open».ensures in
    ask_large _ o lent c.in_ok-open.was (omega (arith, c.if-question-gt15.false)) filled
    (filled_large c.requires o c.in_ok-open.was c.fill.ensures.own c.if-not-fill.true)

-- 21
pub returns-then-bad : goal.returns-then-bad
returns-then-bad c =
    let tabled : Tabled c.args.g.now c.args.question.length c.«open».new.rules c.fill.new.totals = filled_tabled c.requires c.«open».ensures c.in_ok-open.was c.fill.ensures.own c.if-not-fill.false in
    let filled : Kept 17 32 c.args.totals.now c.fill.new.totals = let f = c.fill.ensures.own in record { long = f.long; wide = f.wide; rest = f.rest } in
    let lent : let t = c.args.totals.now in Kept 17 32 t t = kept_same c.requires.wide in
    ask_pattern _ c.«open».ensures lent c.in_ok-open.was (omega (arith, c.if-question-gt15.false)) filled tabled
    (rw c.words.ensures at (sym c.bad.ensures ∙ c.if-bad.true))

pub returns : goal.returns
returns c =
    let tabled : Tabled c.args.g.now c.args.question.length c.«open».new.rules c.fill.new.totals = filled_tabled c.requires c.«open».ensures c.in_ok-open.was c.fill.ensures.own c.if-not-fill.false in
    let filled : Kept 17 32 c.args.totals.now c.fill.new.totals = let f = c.fill.ensures.own in record { long = f.long; wide = f.wide; rest = f.rest } in
    let lent : let t = c.args.totals.now in Kept 17 32 t t = kept_same c.requires.wide in
    ask_ready _ c.«open».ensures lent c.in_ok-open.was (omega (arith, c.if-question-gt15.false)) filled tabled
    (rw c.words.ensures at (sym c.bad.ensures ∙ c.if-bad.false))
