-- Looking for a ticket's owner part by part: a part whose total is at most what is left of the ticket is passed, and the first whose total is
-- above it is entered. What owns the ticket in the part owns it in the whole.
-- Assumes nothing.
use mathlib.Core.Path.{◌≡◌, refl, sym, ap, ◌∙◌}
use mathlib.Core.List.{List, [], ◌∷◌, ◌++◌, append_assoc}
use Prim.Native.Nat.{ℕ, ◌+◌, ◌-◌, ◌≤◌, ◌<◌}
use native.Mathlib.Omega.{arith}
use Rattle.lists.specs.Joined.{sum_over}
use Rattle.lists.specs.Inner.Tickets.{Owns}
use Rattle.lists.specs.Inner.Parts.{Passed, Part}
use Rattle.lists.proofs.Sums.{sum_append}
use Rattle.lists.proofs.Owners.{owns_left, owns_right}

module _ {X : Type 0} where
  pub passed_none : (v u : X → ℕ) (l : List X) (t : ℕ) → Passed v u l l t 0 t
  passed_none v u l t = record { done = []; whole_is = refl; before_is = refl; left_is = omega arith }

module _ {X : Type 0} {v u : X → ℕ} {whole rest : List X} {t before left : ℕ} (p : Passed v u whole rest t before left) where
  -- what is passed and what is to come make the whole
  pub passed_size : before + sum_over u rest ≡ sum_over u whole
  passed_size = omega (arith, ap (sum_over u) p.whole_is, sum_append u p.done rest, p.before_is)

  pub passed_many : left + sum_over v whole ≡ t + sum_over v rest
  passed_many = omega (arith, ap (sum_over v) p.whole_is, sum_append v p.done rest, p.left_is)

  -- what owns it in the rest owns it in the whole
  pub passed_owns : {x : X} {n o : ℕ} → Owns v u rest left x n o → Owns v u whole t x (before + n) o
  passed_owns {x} {n} {o} r =
      let e : t - sum_over v p.done ≡ left = omega (arith, p.left_is) in
      rw (p.whole_is, p.before_is) (owns_right p.done rest (omega (arith, p.left_is)) (rw e r))

module _ {X : Type 0} {v u : X → ℕ} {whole : List X} {t before left : ℕ} (a b : List X) (p : Passed v u whole (a ++ b) t before left) where
  -- one part more is passed
  pub passed_more : (x y : ℕ) → x ≡ before + sum_over u a → y + sum_over v a ≡ left → Passed v u whole b t x y
  passed_more x y e f =
      record {
        done = p.done ++ a;
        whole_is = p.whole_is ∙ sym (append_assoc p.done a b);
        before_is = omega (arith, p.before_is, sum_append u p.done a);
        left_is = omega (arith, p.left_is, sum_append v p.done a);
      }

  -- the next part holds the ticket
  pub passed_part : left < sum_over v a → Part v u whole a t before left
  passed_part h = record { rest = b; passed = p; inside = h }

module _ {X : Type 0} {v u : X → ℕ} {whole : List X} {t before left : ℕ} (x : X) (rest : List X) (p : Passed v u whole (x ∷ rest) t before left) where
  -- the next element owns the ticket
  pub passed_here : left < v x → Owns v u whole t x before left
  passed_here h =
      let e : before + 0 ≡ before = omega arith in
      rw e at (passed_owns p (record { before = []; after = rest; list = refl; ticket = omega arith; own = h; place = refl }))

  -- or it is passed
  pub passed_over : v x ≤ left → Passed v u whole rest t (before + u x) (left - v x)
  passed_over h = passed_more (x ∷ []) rest p (before + u x) (left - v x) (omega arith) (omega arith)

module _ {X : Type 0} {v u : X → ℕ} {whole part : List X} {t before left : ℕ} (p : Part v u whole part t before left) where
  pub part_size : before + sum_over u part ≤ sum_over u whole
  part_size = omega (arith, passed_size p.passed, sum_append u part p.rest)

  pub part_total : sum_over v part ≤ sum_over v whole
  part_total = omega (arith, passed_many p.passed, sum_append v part p.rest, p.passed.left_is)

  -- what owns it in the part owns it in the whole
  pub part_owns : {x : X} {n o : ℕ} → Owns v u part left x n o → Owns v u whole t x (before + n) o
  part_owns r = passed_owns p.passed (owns_left part p.rest r)
