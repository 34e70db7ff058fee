-- `fitting_numbers` meets its contract: the pattern's chart chooses; a history without records has nothing heard, and the charts of any other's sentences
-- stand behind the pattern's.
-- Assumes nothing.
use mathlib.Core.Path.{refl, sym, ◌∙◌}
use native.Mathlib.Omega.{arith}
use Rattle.lists.proofs.Tables.{wide_made}
use Rattle.sampling.proofs.Readying.{asks_chart, chooses_fitting, still_charted, length_low, behind_room, asks_fitting, fitted}
use Rattle.sampling.proofs.Answering.{none_heard}
use Rattle.sampling.proofs.prepare.fitting_numbers.Goals as goal

pub fill-requires : goal.fill-requires
fill-requires c = asks_chart c.requires refl

pub returns-then-records-eq0 : goal.returns-then-records-eq0
returns-then-records-eq0 c =
    let w = c.requires in
    record {
      hold = none_heard _ _ _ _ _ _ c.args.numbers.now w.sought.diary (sym w.records_are ∙ c.if-records-eq0.true);
      chosen = chooses_fitting w c.fill.ensures (still_charted w c.fill.ensures);
    }

pub rows-requires : goal.rows-requires
rows-requires c =
    let w = c.requires in
    (length_low w c.fill.ensures, omega (arith, c.behind.ensures, (behind_room _ w.sought.counted.short).1), refl, wide_made 17 16 0)

pub numbers_by-requires : goal.numbers_by-requires
numbers_by-requires c = asks_fitting c.requires c.fill.ensures (rw c.behind.ensures at c.rows.ensures)

pub returns : goal.returns
returns c = fitted c.requires c.fill.ensures (rw c.behind.ensures at c.rows.ensures) c.numbers_by.ensures
