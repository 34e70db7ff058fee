-- `checks::read` meets its contract: each test that fails moves the refusal on to the next line, and one that succeeds is the refusal.
-- Past the last one the rules are in the table.
-- Assumes nothing.
use mathlib.Core.Path.{refl, sym, ◌∙◌}
use mathlib.Core.Bool.{false}
use Rattle.std.proofs.lemmas.Result.{err_from_is_err_and}
use Rattle.answers.proofs.Refusals.{row_applies}
use Rattle.lists.proofs.Tables.{kept_same}
use Rattle.grammar.specs.Inner.Entering.{BuiltAs}
use Rattle.grammar.proofs.Outcome.{Opened, Fitting, refused, short, refused_range, refused_size, opened, refused_rules, fitting, refused_head, readable, refused_again, refused_missed, refused_alike, accepted_apart}
use Rattle.grammar.proofs.checks.read.Goals as goal
use Rattle.grammar.proofs.checks.read.Goals.{Else-g-n, In_ok-check_rules, Else-build}

pub returns-then-g-lt4 : goal.returns-then-g-lt4
returns-then-g-lt4 c = refused (kept_same c.requires.wide) _ (row_applies 1 _ (short _ c.if-g-lt4.true))

pub returns-then-out_of_range : goal.returns-then-out_of_range
returns-then-out_of_range c =
    refused (kept_same c.requires.wide) _ (refused_range _ c.if-g-lt4.false (sym c.out_of_range.ensures ∙ c.if-out_of_range.true))

pub returns-then-g-n : goal.returns-then-g-n
returns-then-g-n c =
    refused (kept_same c.requires.wide) _
    (refused_size _ c.if-g-lt4.false (sym c.out_of_range.ensures ∙ c.if-out_of_range.false) c.from-n.ensures c.from-r.ensures c.if-g-n.true)

-- past 3, past 4 and the nexts of 5, and past 6
past_size : (c : Else-g-n) → Opened c.args.g.now c.from-n.result c.from-r.result
past_size c = opened _ c.if-g-lt4.false (sym c.out_of_range.ensures ∙ c.if-out_of_range.false) c.from-n.ensures c.from-r.ensures c.if-g-n.false

past_rules : (c : In_ok-check_rules) → Fitting c.args.g.now c.from-n.result c.from-r.result
past_rules c = fitting (past_size (goal.at.head_above-requires c).Else-g-n) c.in_ok-check_rules.field-0 c.in_ok-check_rules.ensures

built : (c : Else-build) → BuiltAs c.args.g.now c.args.rules.now c.build.new.rules false
built c = rw c.if-build.false at c.build.ensures

pub check_rules-requires : goal.check_rules-requires
check_rules-requires c = (past_size c).sized

pub returns-in_err-check_rules : goal.returns-in_err-check_rules
returns-in_err-check_rules c =
    let o = past_size (goal.at.returns-in_err-check_rules c).Else-g-n in
    let p = err_from_is_err_and c.from_residual.result c.from_residual.ensures.1 in
    rw (p.1, p.2) (refused (kept_same c.requires.wide) _ (refused_rules o _ c.in_err-check_rules.ensures))

pub head_above-requires : goal.head_above-requires
head_above-requires c = (past_rules c).start.sized

pub returns-then-head_above : goal.returns-then-head_above
returns-then-head_above c =
    refused (kept_same c.requires.wide) _
    (refused_head (past_rules (goal.at.returns-then-head_above c).In_ok-check_rules) (sym c.head_above.ensures ∙ c.if-head_above.true))

pub build-requires : goal.build-requires
build-requires c = (readable (past_rules (goal.at.build-requires c).In_ok-check_rules), c.requires)

pub returns-then-build : goal.returns-then-build
returns-then-build c =
    refused_again (past_rules (goal.at.returns-then-build c).In_ok-check_rules) (sym c.head_above.ensures ∙ c.if-head_above.false)
    (rw c.if-build.true at c.build.ensures)

pub words_from-requires : goal.words_from-requires
words_from-requires c = (((built c).sorted refl).roomy.long, (past_rules (goal.at.words_from-requires c).In_ok-check_rules).start.sized.few)

pub pairs_from-requires : goal.pairs_from-requires
pairs_from-requires c = let p = goal.at.pairs_from-requires c in (((built p.Else-build).sorted refl).roomy.long, (past_rules p.In_ok-check_rules).start.sized.few)

pub returns-then-words_from-pairs_from : goal.returns-then-words_from-pairs_from
returns-then-words_from-pairs_from c =
    let p = goal.at.returns-then-words_from-pairs_from c in
    refused_missed (past_rules p.In_ok-check_rules) (sym c.head_above.ensures ∙ c.if-head_above.false) (built p.Else-build) c.words_from.ensures.0 c.pairs_from.ensures.0
    c.if-words_from-pairs_from.true

pub repeated-requires : goal.repeated-requires
repeated-requires c =
    let p = goal.at.repeated-requires c in
    (readable (past_rules p.In_ok-check_rules), (built p.Else-build).sorted refl)

pub returns-then-repeated : goal.returns-then-repeated
returns-then-repeated c =
    let p = goal.at.returns-then-repeated c in
    refused_alike (past_rules p.In_ok-check_rules) (sym c.head_above.ensures ∙ c.if-head_above.false) (built p.Else-build) c.words_from.ensures.0 c.pairs_from.ensures.0
    c.if-words_from-pairs_from.false (sym c.repeated.ensures ∙ c.if-repeated.true)

pub returns : goal.returns
returns c =
    let p = goal.at.returns c in
    accepted_apart (past_rules p.In_ok-check_rules) (sym c.head_above.ensures ∙ c.if-head_above.false) (built p.Else-build) c.words_from.ensures.0 c.pairs_from.ensures.0
    c.if-words_from-pairs_from.false (sym c.repeated.ensures ∙ c.if-repeated.false)
