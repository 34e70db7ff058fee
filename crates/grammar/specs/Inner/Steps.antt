-- What a step along a chain hands over: a rule and the walk after it, or the end.
-- Assumes nothing: these are definitions.
use Rattle.std.specs.Prelude.{Bool, true, false, List, [], ◌∷◌, ℕ}
use Rattle.lists.specs.Linked.{is_number}
use Rattle.grammar.specs.declared.cursor.Step.{Step}
use Rattle.grammar.specs.declared.cursor.Step.TheVariants.{Word, Pair, End}
use Rattle.grammar.specs.Layout.{rules, next_of}
use Rattle.grammar.specs.Chains.{Rule, word, pair, rule_of}

-- the step at a number that a rule has, or has not
abbrev pub handed : (has : Bool) → Rule → (next : ℕ) → Step
handed true (word w) next = Word w (record { at = next })
handed true (pair B C) next = Pair B C (record { at = next })
handed false x next = End

-- the step at the number r: its rule, and the walk that stands at its next
unfoldable pub step_at : List ℕ → ℕ → Step
step_at g r = handed (is_number (rules g) r) (rule_of g r) (next_of g r)

-- the rules that a walk yields by this step and those after it, where `rest` gives what the walk after it yields
abbrev pub yielded : (rest : ℕ → List Rule) → Step → List Rule
yielded rest (Word w next) = word w ∷ rest next.at
yielded rest (Pair B C next) = pair B C ∷ rest next.at
yielded rest End = []
