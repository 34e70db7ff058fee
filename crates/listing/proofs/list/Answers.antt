-- `list` is safe and ends: where the call is not refused, the tables and the heard numbers are there.
-- Assumes nothing.
use Rattle.sampling.proofs.Answering.{draw_sought, lent_made, prepared_case, room_all}
use Rattle.listing.proofs.list.Goals as goal

pub prepare-requires : goal.prepare-requires
prepare-requires c = lent_made _ _ (room_all _)

pub print_list-requires : goal.print_list-requires
print_list-requires c =
    let q = c.prepare.ensures in
    draw_sought (prepared_case q c.in-Ok.is) q.room
