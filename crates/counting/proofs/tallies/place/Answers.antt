-- `place` meets its contract: the total is found and written; where counts are beside it, they are found and written with it. Assumes nothing.
use Rattle.counting.proofs.Besides.{place_asks, place_beside_asks}
use Rattle.counting.proofs.tallies.place.Goals as goal

pub derivations-requires : goal.derivations-requires
derivations-requires c = place_asks c.requires c.if-at-eq0.true

pub derivations-requires-2 : goal.derivations-requires-2
derivations-requires-2 c = place_beside_asks c.requires c.if-at-eq0.false
