-- How many sentences the house matrix grammar has: 100,000 of five words, one from each group of ten in turn, and none of any other length.
-- Assumes nothing.
use mathlib.Core.Path.{◌≡◌, refl}
use mathlib.Core.List.{[]}
use Prim.Native.Nat.{ℕ}
use lib.ListN.{length}
use Rattle.lists.specs.Linked.{met_from}
use Rattle.grammar.specs.Layout.{start}
use Rattle.grammar.specs.Chains.{rest, chain, words_of, pairs_of}
use Rattle.counting.specs.Totals.{T}
use Rattle.counting.proofs.OneLength.{OneLength, words_alone, pair_alone}
use Rattle.matrix.specs.Table.{table}

-- the ten words of a group
group : (A : ℕ) → pairs_of (chain table A) ≡ [] → length (words_of (chain table A)) ≡ 10 → OneLength (chain table) A 1 10
group A p w = rw w at (words_alone (chain table) A p)

-- a word of one group, then one of the next, and so on
two : OneLength (chain table) 3 2 100
unfolding met_from rest
two = pair_alone (chain table) 3 refl refl (group 7 refl refl) (group 8 refl refl)

three : OneLength (chain table) 2 3 1000
unfolding met_from rest
three = pair_alone (chain table) 2 refl refl (group 6 refl refl) two

four : OneLength (chain table) 1 4 10000
unfolding met_from rest
four = pair_alone (chain table) 1 refl refl (group 5 refl refl) three

five : OneLength (chain table) 0 5 100000
unfolding met_from rest
five = pair_alone (chain table) 0 refl refl (group 4 refl refl) four

pub sentences_of_five : T (chain table) (start table) 5 ≡ 100000
sentences_of_five = five.here

pub no_others : (m : ℕ) → (m ≡ 5 → ⊥) → T (chain table) (start table) m ≡ 0
no_others m h = five.elsewhere m h
