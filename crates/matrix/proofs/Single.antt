-- No two derivations of the house matrix grammar have the same sentence, and its totals fit in 64 bits: each by one computed test over the whole
-- table.
-- Assumes nothing.
use mathlib.Core.Path.{◌≡◌, refl}
use mathlib.Core.Bool.{true, false}
use mathlib.Core.List.{[], ◌∷◌}
use Prim.Native.Nat.{ℕ}
use native.Mathlib.Omega.{arith}
use lib.ListN.{get_or}
use Rattle.lists.specs.Searched.{some_below}
use Rattle.lists.specs.Linked.{met_from}
use Rattle.grammar.specs.Layout.{nonterminals, start}
use Rattle.grammar.specs.Chains.{rest, chain}
use Rattle.grammar.specs.Trees.{Tree, sentence, Derives}
use Rattle.grammar.proofs.Plain.{plain, plain_single}
use Rattle.counting.specs.Totals.{total_to, total}
use Rattle.counting.specs.Needed.{needed_to, needed_pairs}
use Rattle.counting.specs.Refusals.{overflows, too_large}
use Rattle.matrix.specs.Table.{table}

-- how long the sentences of each nonterminal are
abbrev lengths : ℕ → ℕ
lengths A = get_or (5 ∷ 4 ∷ 3 ∷ 2 ∷ 1 ∷ 1 ∷ 1 ∷ 1 ∷ 1 ∷ []) A 0

is_plain : plain (chain table) lengths (nonterminals table) ≡ true
unfolding plain some_below met_from rest
is_plain = refl

-- two derivations with the same sentence are one
pub no_two : (m m' : ℕ) (t u : Tree) → Derives (chain table) (start table) m t → Derives (chain table) (start table) m' u
    → sentence t ≡ sentence u → t ≡ u
no_two m m' t u d d' e = plain_single (chain table) lengths (nonterminals table) is_plain (omega arith) d d' e

-- no count that the length 5 needs is above 2^64 - 1
pub counts_fit : too_large table 5 ≡ false
unfolding too_large overflows needed_pairs needed_to total total_to met_from rest
counts_fit = refl
