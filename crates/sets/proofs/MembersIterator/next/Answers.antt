-- `next` meets its contract. Assumes nothing.
use mathlib.Core.Path.{sym, ◌∙◌}
use Rattle.sets.proofs.Loops.{over}
use Rattle.sets.proofs.MembersIterator.next.Goals as goal

pub returns-then-left-eq0-clause-steps : goal.returns-then-left-eq0-clause-steps
returns-then-left-eq0-clause-steps c = let e = over c.args.self.now (sym c.self.view_is ∙ c.if-left-eq0.true) in (e, e)
