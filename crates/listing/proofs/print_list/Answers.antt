-- `print_list` is safe and ends: the heard numbers are places of the full list, so they are no more than T.
-- Assumes nothing.
use native.Mathlib.Omega.{arith}
use Rattle.charts.proofs.Mapping.{counts_map_lem}
use Rattle.ranking.proofs.Finding.{counts_total}
use Rattle.sampling.proofs.Answering.{struck_few}
use Rattle.listing.proofs.print_list.Goals as goal

pub overflow_sub-left : goal.overflow_sub-left
overflow_sub-left c = omega (arith, c.count-total.ensures, struck_few c.requires, counts_total c.args.rules.now counts_map_lem c.args.n c.requires.chooses.counted.short)
