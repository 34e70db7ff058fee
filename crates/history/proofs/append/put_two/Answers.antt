-- `put_two` meets its contract: the number's two bytes, the low one first.
-- Assumes nothing.
use mathlib.Core.Path.{◌≡◌, refl, ap, ◌∙◌}
use mathlib.Core.List.{[], ◌∷◌}
use Prim.Native.Nat.{ℕ, ◌/◌, ◌%◌}
use native.Mathlib.Omega.{arith}
use Rattle.history.specs.Writing.{two_bytes}
use Rattle.history.proofs.Writing.{part_put}
use Rattle.history.proofs.append.put_two.Goals as goal

pub returns : goal.returns
returns c =
    let x = c.args.x in
    let high : x / 256 % 256 ≡ x / 256 = omega arith in
    part_put _ (two_bytes x) _ 2 (c.copy_from_slice.ensures.after ∙ c.to_le_bytes.ensures ∙ ap (λ (b : ℕ). x % 256 ∷ b ∷ []) high) refl
