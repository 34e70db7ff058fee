-- `checks::head_above` meets its contract: a test over the heads' bytes is one over the nonterminals.
-- Assumes nothing.
use mathlib.Core.Path.{◌≡◌, refl, ◌∙◌}
use mathlib.Core.Bool.{or_comm}
use mathlib.Core.List.{List}
use Prim.Native.Nat.{ℕ, zero, suc, ◌+◌, ◌-◌, ◌≤◌}
use native.Mathlib.Omega.{arith}
use native.Mathlib.Numerals.{add-one}
use lib.Dec.{ltb}
use lib.ListN.{length, take, drop, length-drop}
use Rattle.std.specs.List.{list_any}
use Rattle.std.proofs.Common.{rules, tests, get_or-drop}
use Rattle.std.proofs.lemmas.List.Folds.{list_any_more}
use Rattle.std.proofs.lemmas.Iterator.{YieldsList-from_slice}
use Rattle.std.proofs.lemmas.Iterator.Search.{any_from_yields_List}
use Rattle.lists.specs.Searched.{some_below}
use Rattle.grammar.specs.Layout as layout
use Rattle.grammar.specs.Refusals.{head_above}
use Rattle.grammar.proofs.checks.head_above.Goals as goal

-- the test of the first i heads, from the front and from the back
heads_tested : (g : List ℕ) (i : ℕ) → 4 + i ≤ length g → list_any (ltb (layout.rules g)) (take i (drop 4 g)) ≡ some_below (head_above g) i
unfolding some_below
heads_tested g zero h = refl
heads_tested g (suc i) h =
    rw (← add-one i)
    (list_any_more (ltb (layout.rules g)) (drop 4 g) i 0 (omega (arith, length-drop 4 g))
    ∙ rw (get_or-drop, heads_tested g i (omega arith)) (or_comm (some_below (head_above g) i) (head_above g i)))

pub returns : goal.returns
returns c =
    let g = c.args.g.now in
    let found = any_from_yields_List (ltb c.args.r) _ _ c.any.result c.any.ensures.ran (YieldsList-from_slice (take (4 + c.args.n - 4) (drop 4 g)) (cc)) (λ x b q k. search (rules, tests)) in
    let count : 4 + c.args.n - 4 ≡ layout.nonterminals g = omega (arith, c.requires.heads) in
    found ∙ rw (c.requires.bodies, count) (heads_tested g (layout.nonterminals g) (omega (arith, c.requires.size, c.requires.heads)))
