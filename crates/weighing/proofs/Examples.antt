-- The instance: its totals by weight, and its tickets, by computation.
-- Assumes nothing.
use mathlib.Core.Path.{◌≡◌, refl, ◌∙◌}
use mathlib.Core.Bool.{false}
use mathlib.Core.List.{List, [], ◌∷◌}
use Prim.Native.Nat.{ℕ, ◌≤◌}
use native.Mathlib.Omega.{arith}
use lib.ListN.{length, drop}
use Rattle.answers.specs.Answer.{given}
use Rattle.lists.specs.Linked.{met_from}
use Rattle.grammar.specs.Chains.{rest}
use Rattle.counting.specs.Totals.{total, total_to}
use Rattle.counting.specs.Needed.{needed_to, needed_pairs}
use Rattle.counting.specs.Refusals.{overflows}
use Rattle.sampling.specs.Examples.{F, heard01}
use Rattle.sampling.proofs.Examples.{example_premises, unheard_three}
use Rattle.sampling.proofs.Listed.{from_accepted, from_passed}
use Rattle.weighing.specs.Weights.{bad_weights, too_heavy, tickets_of}
use Rattle.weighing.specs.Weighted.{Holding, draw_weighted, three_two, Instance}
use Rattle.weighing.proofs.Weighing.{left_weighty}
use Rattle.weighing.proofs.Laws.{drawn_from, holding_pass}

good : bad_weights 2 three_two ≡ false
unfolding bad_weights
good = refl

light : too_heavy F 2 three_two ≡ false
unfolding too_heavy overflows needed_pairs needed_to total total_to met_from rest
light = refl

holds : Holding F heard01 2 0 three_two
holds = (example_premises, left_weighty F 2 three_two good light)

many : length (tickets_of F heard01 2 0 three_two) ≡ 19
unfolding tickets_of
many = rw unheard_three refl

draw_eight : (out : List ℕ) → 2 ≤ length out → draw_weighted F heard01 2 0 three_two 8 out ≡ given (19 ∷ 0 ∷ []) (0 ∷ 0 ∷ drop 2 out)
unfolding tickets_of
draw_eight out l =
    drawn_from F heard01 2 0 three_two 8 out (holding_pass F heard01 2 0 three_two holds)
    ∙ from_accepted 2 8 out (tickets_of F heard01 2 0 three_two) (from_passed 2 8 out (tickets_of F heard01 2 0 three_two) (omega (arith, many)) l)
    ∙ rw unheard_three refl

draw_nine : (out : List ℕ) → 2 ≤ length out → draw_weighted F heard01 2 0 three_two 9 out ≡ given (19 ∷ 2 ∷ []) (1 ∷ 0 ∷ drop 2 out)
unfolding tickets_of
draw_nine out l =
    drawn_from F heard01 2 0 three_two 9 out (holding_pass F heard01 2 0 three_two holds)
    ∙ from_accepted 2 9 out (tickets_of F heard01 2 0 three_two) (from_passed 2 9 out (tickets_of F heard01 2 0 three_two) (omega (arith, many)) l)
    ∙ rw unheard_three refl

pub instance_drawn : Instance
instance_drawn = record { holding = holds; last = draw_eight; next = draw_nine }
