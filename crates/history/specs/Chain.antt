-- The records along a history's chain (document 01: "A zero head or next ends the chain").
-- Assumes nothing: these are definitions.
use Rattle.std.specs.Prelude.{List, ℕ, ◌+◌}
use Rattle.lists.specs.Linked.{met_from}
use Rattle.history.specs.Layout.{records_of, head_of, next_of}

-- The numbers of the records that a walk from the number r meets, the first K + 1 of them. A walk that meets more has met one of the K
-- records twice within these, which is refused; of an accepted history these are all.
unfoldable pub numbers_from : List ℕ → ℕ → List ℕ
numbers_from h r = met_from (next_of h) (records_of h) (records_of h + 1) r

-- those along the chain
abbrev pub numbers : List ℕ → List ℕ
numbers h = numbers_from h (head_of h)
