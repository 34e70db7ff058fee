-- `prepare` meets its contract: a refusal of opening is handed on, and past it the counts fit or 10 is the refusal. Assumes nothing.
use Rattle.answers.proofs.Results.{handed_on}
use Rattle.counting.proofs.Preparing.{prepare_by_opening, prepare_asks, prepare_too_large, prepare_ready}
use Rattle.counting.proofs.prepare.prepare.Goals as goal

pub open-requires : goal.open-requires
open-requires c = c.requires.rules_room

pub returns-in_err-open : goal.returns-in_err-open
returns-in_err-open c = rw (handed_on c.from_residual.ensures.1) (prepare_by_opening c.requires c.«open».ensures c.in_err-open.was)

pub fill-requires : goal.fill-requires
fill-requires c = prepare_asks c.requires c.«open».ensures c.in_ok-open.was

pub returns-then-not-fill : goal.returns-then-not-fill
returns-then-not-fill c = prepare_too_large c.requires c.«open».ensures c.in_ok-open.was c.fill.ensures.own c.if-not-fill.true

pub returns : goal.returns
returns c = prepare_ready c.requires c.«open».ensures c.in_ok-open.was c.fill.ensures.own c.if-not-fill.false
