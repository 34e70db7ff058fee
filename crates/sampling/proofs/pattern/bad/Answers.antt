-- `bad` meets its contract: some byte is neither.
-- Assumes nothing.
use mathlib.Core.Path.{◌∙◌}
use borrow.Author.Rules.{rules}
use borrow.Author.Tests.{tests}
use Rattle.std.proofs.lemmas.Iterator.{YieldsList-from_slice}
use Rattle.std.proofs.lemmas.Iterator.Search.{any_from_yields_List}
use Rattle.sampling.specs.Pattern.{neither, bad_pattern}
use Rattle.sampling.proofs.Blanks.{any_some}
use Rattle.sampling.proofs.pattern.bad.Goals as goal

pub returns : goal.returns
unfolding bad_pattern
returns c =
    any_from_yields_List (neither c.args.words) _ _ c.any.result c.any.ensures.ran (YieldsList-from_slice _ c.iter.ensures.rest) (λ x b q k. search (rules, tests))
    ∙ any_some (neither c.args.words) c.args.pattern.now
