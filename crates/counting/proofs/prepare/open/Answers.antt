-- `open` meets its contract: each test that fails moves the refusal on to the next line, and one that succeeds is the refusal; past the
-- last the rules are there. Assumes nothing.
use native.Mathlib.Omega.{arith}
use Rattle.answers.proofs.Results.{handed_on}
use Rattle.counting.proofs.Preparing.{open_by_grammar, open_too_short, open_too_long, open_ready}
use Rattle.counting.proofs.prepare.open.Goals as goal

pub returns-in_err-read : goal.returns-in_err-read
returns-in_err-read c = rw (handed_on c.from_residual.ensures.1) (open_by_grammar c.read.ensures c.in_err-read.was)

pub returns-then-n-lt1 : goal.returns-then-n-lt1
returns-then-n-lt1 c = open_too_short c.read.ensures c.in_ok-read.was c.if-n-lt1.true

pub returns-then-n-gt16 : goal.returns-then-n-gt16
returns-then-n-gt16 c = open_too_long c.read.ensures c.in_ok-read.was c.if-n-gt16.true

pub returns : goal.returns
returns c = open_ready c.read.ensures c.in_ok-read.was (omega arith) (omega arith)
