-- `heard_numbers_in` meets its contract: what is heard by the copied tables, where the counts measure.
-- Assumes nothing.
use mathlib.Core.Path.{refl}
use native.Mathlib.Omega.{arith}
use Rattle.lists.proofs.Tables.{wide_made}
use Rattle.ranking.proofs.Finding.{roomy_made}
use Rattle.sampling.proofs.Readying.{counts_asked, asks_ready, asks_collect, plainly_heard}
use Rattle.sampling.proofs.prepare.heard_numbers_in.Goals as goal

pub copy-requires : goal.copy-requires
copy-requires g c = let p = c.requires in counts_asked p.0 (roomy_made p.1)

pub copy-requires-2 : goal.copy-requires-2
copy-requires-2 g c = (c.requires.0.counted.table.long, omega arith)

pub ready-requires : goal.ready-requires
ready-requires g c =
    let s = c.requires in
    asks_ready s.0 (roomy_made s.1) c.copy.ensures c.copy-2.ensures refl refl (wide_made 17 16 0)

pub numbers_by-requires : goal.numbers_by-requires
numbers_by-requires g c =
    let s = c.requires in
    asks_collect s.0 (roomy_made s.1) c.copy.ensures c.copy-2.ensures c.ready.ensures

pub returns : goal.returns
returns g c =
    let s = c.requires in
    plainly_heard s.0 (roomy_made s.1) c.copy.ensures c.copy-2.ensures c.ready.ensures c.numbers_by.ensures
