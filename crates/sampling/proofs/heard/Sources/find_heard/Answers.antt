-- `find_heard` meets its contract: a sentence of another length adds nothing, one of the plan's what is found by how many derivations it has and
-- whether it stands.
-- Assumes nothing.
use mathlib.Core.Path.{◌≡◌, sym, ◌∙◌}
use lib.ListN.{length}
use Rattle.charts.specs.Inner.Plan.{length_in}
use Rattle.ranking.specs.Inner.Ranking.{FoundAs}
use Rattle.sampling.proofs.Collect.{heard_other, heard_sought, heard_fitted, heard_many, heard_none, heard_unfit, heard_asks, heard_place}
use Rattle.sampling.proofs.heard.Sources.find_heard.Goals as goal

pub returns-then-s-length : goal.returns-then-s-length
returns-then-s-length c = heard_other c.requires (λ e. c.if-s-length.true (e ∙ sym c.length.ensures))

pub derivations-k-requires : goal.derivations-k-requires
derivations-k-requires c =
    let long : length c.args.s.now ≡ length_in c.args.self.now.plan.now = c.if-s-length.false ∙ c.length.ensures in
    let w = c.requires in (w.first, heard_sought w long)

pub returns-then-k-ge2 : goal.returns-then-k-ge2
returns-then-k-ge2 c =
    let long : length c.args.s.now ≡ length_in c.args.self.now.plan.now = c.if-s-length.false ∙ c.length.ensures in
    let found : FoundAs c.args.self.now.rules.now c.args.self.now.plan.now c.derivations-k.new.map c.requires.first c.args.s.now c.args.totals.now c.derivations-k.new.sets c.derivations-k.new.totals c.derivations-k.result = let w = c.requires in c.derivations-k.ensures w.first (heard_sought w long) in
    heard_many c.requires long found c.if-k-ge2.true

pub returns-then-k-eq0 : goal.returns-then-k-eq0
returns-then-k-eq0 c =
    let long : length c.args.s.now ≡ length_in c.args.self.now.plan.now = c.if-s-length.false ∙ c.length.ensures in
    let found : FoundAs c.args.self.now.rules.now c.args.self.now.plan.now c.derivations-k.new.map c.requires.first c.args.s.now c.args.totals.now c.derivations-k.new.sets c.derivations-k.new.totals c.derivations-k.result = let w = c.requires in c.derivations-k.ensures w.first (heard_sought w long) in
    heard_none c.requires long found c.if-k-eq0.true

pub fits-requires : goal.fits-requires
fits-requires c =
    let long : length c.args.s.now ≡ length_in c.args.self.now.plan.now = c.if-s-length.false ∙ c.length.ensures in
    heard_fitted c.requires long

pub place-d-requires : goal.place-d-requires
place-d-requires c =
    let long : length c.args.s.now ≡ length_in c.args.self.now.plan.now = c.if-s-length.false ∙ c.length.ensures in
    let found : FoundAs c.args.self.now.rules.now c.args.self.now.plan.now c.derivations-k.new.map c.requires.first c.args.s.now c.args.totals.now c.derivations-k.new.sets c.derivations-k.new.totals c.derivations-k.result = let w = c.requires in c.derivations-k.ensures w.first (heard_sought w long) in
    (_, heard_asks c.requires long found c.if-k-ge2.false c.if-k-eq0.false)

pub returns-then-fits : goal.returns-then-fits
returns-then-fits c =
    let long : length c.args.s.now ≡ length_in c.args.self.now.plan.now = c.if-s-length.false ∙ c.length.ensures in
    let found : FoundAs c.args.self.now.rules.now c.args.self.now.plan.now c.derivations-k.new.map c.requires.first c.args.s.now c.args.totals.now c.derivations-k.new.sets c.derivations-k.new.totals c.derivations-k.result = let w = c.requires in c.derivations-k.ensures w.first (heard_sought w long) in
    let w = c.requires in
    let stand = sym c.fits.ensures ∙ c.if-fits.true in
    heard_place w long found c.if-k-ge2.false c.if-k-eq0.false stand
    (c.place-d.ensures _ (heard_asks w long found c.if-k-ge2.false c.if-k-eq0.false))

pub returns : goal.returns
returns c =
    let long : length c.args.s.now ≡ length_in c.args.self.now.plan.now = c.if-s-length.false ∙ c.length.ensures in
    let found : FoundAs c.args.self.now.rules.now c.args.self.now.plan.now c.derivations-k.new.map c.requires.first c.args.s.now c.args.totals.now c.derivations-k.new.sets c.derivations-k.new.totals c.derivations-k.result = let w = c.requires in c.derivations-k.ensures w.first (heard_sought w long) in
    heard_unfit c.requires long found c.if-k-ge2.false c.if-k-eq0.false (sym c.fits.ensures ∙ c.if-fits.false)
