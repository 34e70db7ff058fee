-- `number_by` meets its contract, by how many derivations are found; linking keeps what the rules answer.
-- Assumes nothing.
use mathlib.Core.Path.{refl, sym, ◌∙◌}
use Prim.Native.Nat.{zero, ◌≤◌}
use native.Mathlib.Omega.{arith}
use lib.ListN.{replicate}
use Rattle.lists.proofs.Tables.{wide_made}
use Rattle.charts.specs.Inner.Plan.{chart_row}
use Rattle.charts.proofs.Mapping.{counts_map_lem, clean_start}
use Rattle.charts.proofs.Placing.{room_low}
use Rattle.ranking.specs.Inner.Ranking.{FindSought}
use Rattle.ranking.proofs.Answering.{rank_none, rank_found}
use Rattle.ranking.proofs.Finding.{place_asks_counts, counts_place, rank_kept}
use Rattle.ranking.proofs.rank.number_by.Goals as goal

pub ready-requires : goal.ready-requires
ready-requires c =
    let p = c.requires in
    record { blank = p.blank; unlinked = p.unlinked; plan_long = refl; map_long = refl; map_wide = wide_made 17 16 0 }

pub derivations-k-requires : goal.derivations-k-requires
derivations-k-requires c =
    let sought : FindSought c.ready.new.rules c.ready.new.plan c.ready.new.map chart_row c.args.sentence.now (replicate 154 zero) c.args.totals.now = let p = c.requires in
    record { ready = c.ready.ensures.ready; clean = clean_start _ _ _ _ (room_low _ p.blank.counted.short) p.zeros } in
    (chart_row, sought)

pub returns-then-k-eq0 : goal.returns-then-k-eq0
returns-then-k-eq0 c =
    let sought : FindSought c.ready.new.rules c.ready.new.plan c.ready.new.map chart_row c.args.sentence.now (replicate 154 zero) c.args.totals.now = let p = c.requires in
    record { ready = c.ready.ensures.ready; clean = clean_start _ _ _ _ (room_low _ p.blank.counted.short) p.zeros } in
    rank_none _ _ (sym (c.derivations-k.ensures chart_row sought).derivations ∙ c.if-k-eq0.true) ∙ rank_kept _ _ _ c.ready.ensures.kept

pub place-d-requires : goal.place-d-requires
place-d-requires c =
    let some : 1 ≤ c.derivations-k.result = omega (arith, c.if-k-eq0.false) in
    let sought : FindSought c.ready.new.rules c.ready.new.plan c.ready.new.map chart_row c.args.sentence.now (replicate 154 zero) c.args.totals.now = let p = c.requires in
    record { ready = c.ready.ensures.ready; clean = clean_start _ _ _ _ (room_low _ p.blank.counted.short) p.zeros } in
    (_, place_asks_counts (c.derivations-k.ensures chart_row sought) some counts_map_lem)

pub count-requires : goal.count-requires
count-requires c =
    let sought : FindSought c.ready.new.rules c.ready.new.plan c.ready.new.map chart_row c.args.sentence.now (replicate 154 zero) c.args.totals.now = let p = c.requires in
    record { ready = c.ready.ensures.ready; clean = clean_start _ _ _ _ (room_low _ p.blank.counted.short) p.zeros } in
    (c.derivations-k.ensures chart_row sought).ready.blank.counted

pub returns : goal.returns
returns c =
    let some : 1 ≤ c.derivations-k.result = omega (arith, c.if-k-eq0.false) in
    let sought : FindSought c.ready.new.rules c.ready.new.plan c.ready.new.map chart_row c.args.sentence.now (replicate 154 zero) c.args.totals.now = let p = c.requires in
    record { ready = c.ready.ensures.ready; clean = clean_start _ _ _ _ (room_low _ p.blank.counted.short) p.zeros } in
    let f = c.derivations-k.ensures chart_row sought in
    let short = f.ready.blank.counted.short in
    rank_found _ _ some f.derivations
    ((c.place-d.ensures _ (place_asks_counts f some counts_map_lem)).first_is ∙ counts_place _ counts_map_lem c.args.sentence.now short)
    c.count.ensures
    ∙ rank_kept _ _ _ c.ready.ensures.kept
