-- `checks::check` meets its contract: each test that fails moves the refusal on to the next line, and one that succeeds is the refusal.
-- Assumes nothing.
use mathlib.Core.Path.{refl}
use native.Mathlib.Omega.{arith}
use Rattle.history.proofs.Outcome.{by_size, by_record, by_link, by_chain, counted, sized, linked}
use Rattle.history.proofs.checks.check.Goals as goal

pub returns-then-bad_size : goal.returns-then-bad_size
returns-then-bad_size c = by_size _ c.if-bad_size.ensures

pub two_at-k-requires : goal.two_at-k-requires
two_at-k-requires c = let s = sized c.args.h.now c.if-bad_size.ensures refl in omega arith

pub test_records-requires : goal.test_records-requires
test_records-requires c = sized _ c.if-bad_size.ensures c.two_at-k.ensures.0

pub returns-in_default : goal.returns-in_default
returns-in_default c = by_record _ c.if-bad_size.ensures c.in_default.ensures

pub returns-then-far : goal.returns-then-far
returns-then-far c = by_link _ c.if-bad_size.ensures c.in-Some.ensures c.if-far.true

pub bad_chain-requires : goal.bad_chain-requires
bad_chain-requires c = (sized _ c.if-bad_size.ensures c.two_at-k.ensures.0, linked _ c.if-bad_size.ensures c.in-Some.ensures c.if-far.false)

pub returns-then-bad_chain : goal.returns-then-bad_chain
returns-then-bad_chain c = by_chain _ c.if-bad_size.ensures c.in-Some.ensures c.if-far.false c.if-bad_chain.ensures

pub returns : goal.returns
returns c = counted _ c.if-bad_size.ensures c.in-Some.ensures c.if-far.false c.if-bad_chain.ensures c.two_at-k.ensures.0
