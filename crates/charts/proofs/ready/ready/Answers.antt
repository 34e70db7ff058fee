-- `ready` meets its contract: linking keeps the rules, so the counts are those of the linked table, and the plan is made of it.
-- Assumes nothing.
use Rattle.charts.proofs.Mapping.{linked_blank}
use Rattle.charts.proofs.ready.ready.Goals as goal

pub build-requires : goal.build-requires
build-requires c =
    let p = c.requires in
    record { counted = (linked_blank c.link.ensures p.blank).counted; plan_long = p.plan_long; map_long = p.map_long; map_wide = p.map_wide }

pub returns : goal.returns
returns c =
    let b = c.build.ensures in
    record {
      ready = record { blank = linked_blank c.link.ensures c.requires.blank; linked = c.link.ensures.linked; planned = b.planned; long = b.map_long; wide = b.map_wide };
      kept = c.link.ensures.rules_kept;
      rest = c.link.ensures.rest_kept;
      size = c.link.ensures.long;
    }
