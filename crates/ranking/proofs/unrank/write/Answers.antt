-- `write` meets its contract: the walk by the choice writes the owner of a ticket and measures its number by the counts; what follows is kept.
-- Assumes nothing.
use Rattle.walk.proofs.Joined.{left_length}
use Rattle.ranking.proofs.Finding.{write_sought, written}
use Rattle.ranking.proofs.unrank.write.Goals as goal

pub choose-f-requires : goal.choose-f-requires
choose-f-requires c = (write_sought c.requires _ c.start.ensures.0, left_length c.args.n c.args.out.now c.requires.room)

pub returns : goal.returns
returns c = written c.requires _ c.start.ensures.0 c.choose-f.ensures
