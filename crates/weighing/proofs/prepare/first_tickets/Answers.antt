-- `first_tickets` meets its contract: what is collected by the totals by weight, with the charts of the heard sentences behind them, once the weights are
-- summed up.
-- Assumes nothing.
use mathlib.Core.Path.{refl}
use Rattle.lists.proofs.Tables.{wide_made}
use Rattle.weighing.proofs.Firsts.{firsts_ready, firsts_collect, firsts_heard}
use Rattle.weighing.proofs.prepare.first_tickets.Goals as goal

pub ready-requires : goal.ready-requires
ready-requires c =
    let s = c.requires.2 in
    firsts_ready s.weighed c.sum_up.ensures refl refl (wide_made 17 16 0) s.charts

pub numbers_by-requires : goal.numbers_by-requires
numbers_by-requires c = firsts_collect c.requires.2 c.sum_up.ensures c.ready.ensures c.rows.ensures

pub returns : goal.returns
returns c g weights s = firsts_heard s c.sum_up.ensures c.ready.ensures c.rows.ensures c.numbers_by.auto.ends c.numbers_by.ensures
