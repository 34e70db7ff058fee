-- Where nothing is counted, no word counts for anything. Assumes nothing.
use mathlib.Core.Path.{refl, sym}
use Rattle.lists.proofs.Sums.{sum_none}
use Rattle.counting.proofs.tallies.NoCountsCounts.words.Goals as goal

pub returns : goal.returns
returns c = sym (sum_none _ _ (λ w i. refl))
