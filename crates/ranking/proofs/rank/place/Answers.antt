-- `place` meets its contract: the walk finds the place of the sentence's first derivation by the measure.
-- Assumes nothing.
use Prim.Native.Nat.{zero}
use lib.ListN.{replicate}
use Rattle.walk.proofs.Joined.{left_length}
use Rattle.ranking.proofs.Finding.{place_sought, place_found}
use Rattle.ranking.proofs.rank.place.Goals as goal

pub choose-f-requires : goal.choose-f-requires
choose-f-requires c = (place_sought c.requires.1 _ c.start.ensures.0, left_length c.args.n (replicate 16 zero) c.requires.1.counted.short)

pub returns : goal.returns
returns c s w = place_found w _ c.start.ensures.0 c.choose-f.ensures
