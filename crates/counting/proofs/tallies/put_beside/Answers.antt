-- `put_beside` meets its contract: each part of the table is written in its turn, and the other stays. Assumes nothing.
use Rattle.counting.proofs.Besides.{both_put}
use Rattle.counting.proofs.tallies.put_beside.Goals as goal

pub returns : goal.returns
returns c = both_put c.args.at c.args.totals.now c.args.a c.args.m c.args.v c.args.c c.requires.0 c.requires.1 c.put.new.totals c.put-2.new.totals c.put.ensures c.put-2.ensures
