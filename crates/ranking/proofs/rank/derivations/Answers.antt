-- `derivations` meets its contract: what the whole weighs by the sentence's letters is how many derivations it has.
-- Assumes nothing.
use Rattle.ranking.proofs.Finding.{fill_asks, whole_asks, found_as}
use Rattle.ranking.proofs.rank.derivations.Goals as goal

pub fill-requires : goal.fill-requires
fill-requires c = let q = c.requires in (q.0, fill_asks q.1 c.set_letters.ensures)

pub total-requires : goal.total-requires
total-requires c =
    let q = c.requires in
    whole_asks q.1 c.set_letters.ensures (c.fill.ensures q.0 (fill_asks q.1 c.set_letters.ensures)) _ c.start.ensures.0

pub returns : goal.returns
returns c first q = found_as q c.set_letters.ensures (c.fill.ensures first (fill_asks q c.set_letters.ensures)) _ c.start.ensures.0 _ c.total.ensures
