-- The owner of a ticket is looked for part by part: parts that end before it are passed, and the part that holds it is entered.
-- Assumes nothing: these are definitions.
use Rattle.std.specs.Prelude.{◌≡◌, List, ◌++◌, ℕ, ◌+◌, ◌<◌}
use Rattle.lists.specs.Joined.{sum_over}

module _ {X : Type 0} where
  -- What stands before `rest` is passed: it measures `before` by u, and of the ticket t there is `left` to go.
  pub record Passed (v u : X → ℕ) (whole rest : List X) (t before left : ℕ) : Type 0 where
    pub done : List X
    pub whole_is : whole ≡ done ++ rest
    pub before_is : before ≡ sum_over u done
    pub left_is : left + sum_over v done ≡ t

  -- `part` holds t, as its own ticket `left`; what stands before it measures `before`
  pub record Part (v u : X → ℕ) (whole part : List X) (t before left : ℕ) : Type 0 where
    pub rest : List X
    pub passed : Passed v u whole (part ++ rest) t before left
    pub inside : left < sum_over v part
