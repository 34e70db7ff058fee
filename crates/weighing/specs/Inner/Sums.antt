-- What summing the weights of the heard derivations asks and gives back. They are a list of first tickets and weights.
-- Assumes nothing: these are definitions.
use Rattle.std.specs.Prelude.{◌≡◌, List, map, ℕ, suc, ◌≤◌, length, get_or, take}
use Rattle.lists.specs.Joined.{sum_over}
use Rattle.lists.specs.Inner.Tickets.{gone}
use Rattle.counting.specs.Refusals.{most}
use Rattle.sampling.specs.Inner.Collect.{beginning, ending}

-- their first tickets and, in as many places, where they end
pub record SumsSought (l : List (ℕ × ℕ)) (firsts ends : List ℕ) : Type 0 where
  pub firsts_are : firsts ≡ map beginning l
  pub ends_are : take (length firsts) ends ≡ map ending l
  pub fits : sum_over (λ (e : ℕ × ℕ). e.1) l ≤ most
  pub few : length firsts ≤ 1000
  pub room : length firsts ≤ length ends

-- each of the first k ends has become what so many of them weigh
pub record SummedTo (l : List (ℕ × ℕ)) (k : ℕ) (before after : List ℕ) : Type 0 where
  pub long : length after ≡ length before
  pub each : (i : ℕ) → suc i ≤ k → get_or after i 0 ≡ gone (suc i) l
  pub rest : (i : ℕ) → k ≤ i → get_or after i 0 ≡ get_or before i 0

abbrev pub SummedAs : (l : List (ℕ × ℕ)) (before after : List ℕ) → Type 0
SummedAs l before after = SummedTo l (length l) before after
