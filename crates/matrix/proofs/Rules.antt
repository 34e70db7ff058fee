-- The table's acceptance and its chain rule, each by one computation over the whole table.
-- Assumes nothing.
use mathlib.Core.Path.{◌≡◌, refl}
use mathlib.Core.List.{[], ◌∷◌, map}
use lib.ListN.{length}
use Rattle.lists.specs.Joined.{up_from}
use Rattle.answers.specs.Answer.{first_that_applies}
use Rattle.answers.proofs.Refusals.{answer_accepted}
use Rattle.lists.specs.Searched.{some_below}
use Rattle.lists.specs.Linked.{met_from}
use Rattle.grammar.specs.Chains.{word, pair, rule_of, chain_numbers}
use Rattle.grammar.specs.Refusals.{too_short, out_of_range, wrong_size, fits, bad_rule, bad_link, met_twice, on_no_chain, some_alike, repeated, Accepted}
use Rattle.grammar.specs.Answers.{check_grammar}
use Rattle.matrix.specs.Table.{table, accepted}

pub size : length table ≡ 229
size = refl

pub is_accepted : Accepted table
unfolding first_that_applies too_short out_of_range wrong_size fits bad_rule bad_link met_twice on_no_chain some_alike repeated met_from some_below
is_accepted = refl

-- "Rules 1 to 4 are 0 to (4, 1), 1 to (5, 2), 2 to (6, 3), 3 to (7, 8) [..]. Rules 5 to 54 are words 0 to 49 in order"
pub rules_are : map (rule_of table) (up_from 1 54) ≡ pair 4 1 ∷ pair 5 2 ∷ pair 6 3 ∷ pair 7 8 ∷ map word (up_from 0 50)
rules_are = refl

-- "one on each chain [..] ten to each of nonterminals 4 to 8, chained by rising rule number"
pub chains_are : map (chain_numbers table) (up_from 0 9)
    ≡ (1 ∷ []) ∷ (2 ∷ []) ∷ (3 ∷ []) ∷ (4 ∷ []) ∷ up_from 5 10 ∷ up_from 15 10 ∷ up_from 25 10 ∷ up_from 35 10 ∷ up_from 45 10 ∷ []
unfolding met_from
chains_are = refl

pub checked : check_grammar table ≡ accepted
unfolding check_grammar
checked = answer_accepted _ _ _ is_accepted
