-- A row that is 0 outside a set, cleared by a member: it is 0 outside the members left, and all 0 where none is left.
-- Assumes nothing.
use mathlib.Core.Path.{◌≡◌, refl, sym, ap, ◌∙◌}
use mathlib.Core.List.{List, [], ◌∷◌}
use Prim.Native.Nat.{ℕ, zero, suc, ◌<◌}
use native.Mathlib.Omega.{arith}
use native.Mathlib.Decide.{ℕ_discrete}
use lib.ListN.{length, get_or, set, drop, replicate, length-set}
use lib.Seq.{set-get_or, set-set}
use Rattle.lists.specs.Inner.Tables.{put}
use Rattle.lists.proofs.Tables.{put_same, put_beside, row_same}
use Rattle.sets.specs.Inner.Sets.{member, members}
use Rattle.sets.proofs.Digits.{member_none}
use Rattle.sets.proofs.Loops.{lowest_low, turn, turn_out}
use Rattle.charts.specs.Inner.Filling.{Zero, Clears, blanked}

all_zero : (n : ℕ) (l : List ℕ) → length l ≡ n → ((A : ℕ) → A < n → get_or l A 0 ≡ 0) → l ≡ replicate n 0
all_zero zero [] e z = refl
all_zero zero (x ∷ l) e z = absurd (omega arith)
all_zero (suc n) [] e z = absurd (omega arith)
all_zero (suc n) (x ∷ l) e z = rw (z 0 (omega arith), all_zero n l (omega arith) (λ A h. z (suc A) (omega arith)))

-- before the members in `left`: no other row has changed
pub record ClearWalk (row : ℕ) (before now : List (List ℕ)) (left : ℕ) : Type 0 where
  pub same : now ≡ set before row (get_or now row [])
  pub wide : length (get_or now row []) ≡ 32
  pub zero : Zero now row left

module _ {s row : ℕ} {before : List (List ℕ)} (q : Clears s row before) where
  pub clear_start : ClearWalk row before before s
  clear_start = record { same = sym (set-get_or before row []); wide = q.wide.row row q.inside; zero = q.zero }

  module _ {now : List (List ℕ)} {left : ℕ} (w : ClearWalk row before now left) where
    clear_long : length now ≡ length before
    clear_long = ap length w.same ∙ length-set before row (get_or now row [])

    clear_inside : row < length now
    clear_inside = omega (arith, clear_long, q.inside)

    pub clear_end : left ≡ 0 → now ≡ blanked before row
    clear_end e =
        w.same
        ∙ ap (set before row) (all_zero 32 (get_or now row []) w.wide (λ A h. w.zero A h (ap (λ (x : ℕ). member x A) e ∙ member_none A)))

    module _ (a : ℕ) (first : members left ≡ a ∷ drop 1 (members left)) where
      pub clear_step : (next : ℕ) → members next ≡ drop 1 (members left) → ClearWalk row before (put now row a 0) next
      clear_step next rest =
          let old = get_or now row [] in
          let is = row_same now row (set old a 0) clear_inside in
          record {
            same = rw is (ap (λ (x : List (List ℕ)). set x row (set old a 0)) w.same ∙ set-set before row old (set old a 0));
            wide = rw is (length-set old a 0 ∙ w.wide);
            zero = λ A h z. elim (ℕ_discrete A a) [
              | yes e ↦ rw e (put_same now row a 0 clear_inside (omega (arith, w.wide, lowest_low left a first)))
              | no n ↦
                  put_beside now row a 0 A clear_inside n
                  ∙ w.zero A h (turn_out left a next (turn left a first next rest) A h z n)
            ];
          }
