-- `give` meets its contract: past its two tests the sentence is written.
-- Assumes nothing.
use mathlib.Core.Path.{ap, ◌∙◌}
use mathlib.Core.List.{List, ◌++◌}
use Prim.Native.Nat.{ℕ, ◌<◌}
use native.Mathlib.Omega.{arith}
use lib.ListN.{drop}
use Rattle.charts.proofs.Mapping.{counts_map_lem}
use Rattle.ranking.specs.Inner.Inside.{total_in}
use Rattle.ranking.proofs.Answering.{give_beyond, give_short, give_written}
use Rattle.ranking.proofs.Finding.{counts_choose, counts_total, counts_entry}
use Rattle.ranking.proofs.unrank.give.Goals as goal

pub returns-then-t-number : goal.returns-then-t-number
returns-then-t-number c = give_beyond _ _ _ _ (omega (arith, c.count-t.ensures, c.if-t-number.true))

pub returns-then-out-n : goal.returns-then-out-n
returns-then-out-n c = give_short _ _ _ _ (omega (arith, c.count-t.ensures, c.if-t-number.false)) c.if-out-n.true

pub write-requires : goal.write-requires
write-requires c =
    record {
      everywhere = counts_map_lem;
      chooses = counts_choose c.requires counts_map_lem;
      inside = omega (arith, c.count-t.ensures, c.if-t-number.false, counts_total c.args.rules.now counts_map_lem c.args.n c.requires.short);
      room = c.if-out-n.false;
    }

pub returns : goal.returns
returns c =
    let inside : c.args.number.0 < total_in c.args.rules.now c.args.n = omega (arith, c.count-t.ensures, c.if-t-number.false) in
    let entry = counts_entry c.args.rules.now counts_map_lem _ _ c.requires.short inside in
    give_written _ _ _ _ inside c.if-out-n.false _ _ c.count-t.ensures
    (c.write.ensures.words ∙ ap (λ (x : ℕ × List ℕ). x.1 ++ drop c.args.n c.args.out.now) entry)
