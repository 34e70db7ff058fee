-- `fits` meets its contract: the map of the counts lets every sentence stand, and else each letter is held against its word.
-- Assumes nothing.
use mathlib.Core.Path.{◌∙◌}
use native.Mathlib.Omega.{arith}
use Rattle.std.proofs.Common.{rules, tests}
use Rattle.std.proofs.lemmas.Iterator.{YieldsList-from_slice, YieldsList-from_zip}
use Rattle.std.proofs.lemmas.Iterator.Search.{all_from_yields_List}
use Rattle.charts.specs.Inner.Letters.{admits}
use Rattle.charts.proofs.Mapping.{stands_zip}
use Rattle.charts.proofs.maps.fits.Goals as goal

pub returns-else-row_at-lt-NONE : goal.returns-else-row_at-lt-NONE
returns-else-row_at-lt-NONE c =
    all_from_yields_List (λ e. admits e.0 e.1) c.all.new.self _ c.all.result c.all.ensures.ran
    (YieldsList-from_zip (YieldsList-from_slice _ cc) (YieldsList-from_slice c.args.sentence.now cc)) (λ x b q k. search (rules, tests))
    ∙ stands_zip c.args.map.now 0 c.args.sentence.now (omega (arith, c.requires.short))
