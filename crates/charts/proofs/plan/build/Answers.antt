-- `build` meets its contract: the rows that its steps promise make a plan.
-- Assumes nothing.
use mathlib.Core.Path.{◌≡◌, refl, ap, ◌∙◌}
use mathlib.Core.List.{List}
use Prim.Native.Nat.{ℕ}
use Rattle.lists.proofs.Places.{get_or_same}
use Rattle.grammar.specs.Inner.Rules.{pair_from, count_in}
use Rattle.charts.proofs.Gathering.{cutting_length, length_held}
use Rattle.charts.proofs.Assembling.{spots_ask, built}
use Rattle.charts.proofs.plan.build.Goals as goal

-- where the pair rules end
ends : (rules : List (List ℕ)) {end count : ℕ} → end ≡ pair_from rules count → count ≡ count_in rules → end ≡ pair_from rules (count_in rules)
ends rules e f = e ∙ ap (pair_from rules) f

pub link-sides-requires : goal.link-sides-requires
link-sides-requires c = record { table = c.requires.counted.table; all = ends c.args.rules.now c.pairs_from.ensures.0 c.count-count.ensures.0; long = refl }

pub spot-requires : goal.spot-requires
spot-requires c =
    spots_ask c.requires.counted c.count-count.ensures.0 (ends c.args.rules.now c.pairs_from.ensures.0 c.count-count.ensures.0) c.want.ensures c.link-sides.ensures (cutting_length c.cut.ensures _) _ refl
    (λ i. get_or_same {X = ℕ} 32 i 0)

pub returns : goal.returns
returns c =
    let pre = c.requires in
    built _ pre.plan_long _ _ _ _ pre c.count-count.ensures.0 (ends c.args.rules.now c.pairs_from.ensures.0 c.count-count.ensures.0) c.want.ensures c.link-sides.ensures (cutting_length c.cut.ensures _)
    (length_held c.cut.ensures _) c.spot.ensures c.place.ensures
