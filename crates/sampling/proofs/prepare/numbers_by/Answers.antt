-- `numbers_by` meets its contract: what is collected, sorted, each once.
-- Assumes nothing.
use Prim.Native.Nat.{◌≤◌}
use native.Mathlib.Omega.{arith}
use lib.ListN.{length}
use Rattle.answers.proofs.Results.{handed_on}
use Rattle.history.specs.Layout.{records_of}
use Rattle.history.proofs.Acceptance.{known}
use Rattle.sampling.proofs.Collect.{collect_case}
use Rattle.sampling.proofs.Answering.{refused_unready, heard_ordered}
use Rattle.sampling.proofs.prepare.numbers_by.Goals as goal

pub order_first-m-requires : goal.order_first-m-requires
order_first-m-requires c =
    let few : c.in_ok-k.k ≤ 1000 = let found = collect_case c.collect.ensures c.in_ok-k.was in
    omega (arith, found.holds.1, (known _ c.requires.diary).sized.few) in
    few

pub order_first-requires : goal.order_first-requires
order_first-requires c =
    let few : c.in_ok-k.k ≤ 1000 = let found = collect_case c.collect.ensures c.in_ok-k.was in
    omega (arith, found.holds.1, (known _ c.requires.diary).sized.few) in
    few

pub returns-in_err-k : goal.returns-in_err-k
returns-in_err-k c =
    let found = collect_case c.collect.ensures c.in_err-k.was in
    rw (handed_on c.from_residual.ensures.1) (record { hold = found.holds; ended = λ long j e. absurd (refused_unready e); still = found.still })

pub returns : goal.returns
returns c =
    let found = collect_case c.collect.ensures c.in_ok-k.was in
    record {
      hold = heard_ordered _ _ _ _ _ _ _ _ _ _ found.holds (omega (arith, c.collect.auto.numbers, c.requires.room)) c.order_first-m.ensures;
      ended = λ long j e.
          let room : records_of c.args.h.now ≤ length c.collect.new.ends = omega (arith, c.order_first.auto.numbers, long) in
          (_, heard_ordered _ _ _ _ _ _ _ _ _ _ (found.ended room) room c.order_first.ensures);
      still = found.still;
    }
