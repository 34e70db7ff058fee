-- `meets` meets its contract: a shared member is a member of what the sets share, which then isn't 0.
-- Assumes nothing.
use mathlib.Core.Path.{◌∙◌}
use borrow.Author.Tests.{ne_eqb}
use Rattle.sets.proofs.Loops.{some_member}
use Rattle.charts.proofs.plan.meets.Goals as goal

pub returns : goal.returns
returns c a hs ht = rw (ne_eqb c.both.result 0 (some_member c.both.result a (c.both.ensures a ∙ rw (hs, ht))))
