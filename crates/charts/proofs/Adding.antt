-- Sums over pair rules by their left nonterminals, and by both: each pair rule has one of each, below 32. Where a row is 0, or no pair rule
-- has the two, nothing is added. Then the loops: right nonterminal after right nonterminal for a left one, and left nonterminal after left
-- nonterminal. The rows of the halves stay as they are while the row grows.
-- Assumes nothing.
use mathlib.Core.Path.{◌≡◌, refl, sym, ◌∙◌, ap, ap₂}
use mathlib.Core.Bool.{Bool, true, false, cond, ◌&&◌, false≢true, ◌||◌}
use mathlib.Core.List.Memᴰ
use mathlib.Core.List.{List, [], ◌∷◌}
use Prim.Native.Nat.{ℕ, ◌*◌, ◌<◌}
use native.Mathlib.Omega.{arith}
use native.Mathlib.Decide.{ℕ_discrete}
use borrow.Author.Tests.{eq-eqb, ne_eqb}
use lib.Dec.{eqb}
use lib.ListN.{get_or}
use Rattle.lists.specs.Joined.{◌∈◌, sum_over, up_from}
use Rattle.lists.specs.Inner.Tables.{entry}
use Rattle.lists.proofs.Sums.{sum_plus, sum_const, sum_none, sum_single}
use Rattle.lists.proofs.Tests.{cond_none, and_false}
use Rattle.sets.specs.Inner.Sets.{member, members}
use Rattle.sets.proofs.Loops.{lowest_low}
use Rattle.grammar.specs.Inner.Rules.{count_in, pairs_in, Ruled}
use Rattle.grammar.proofs.Ruling.{pair_inside}
use Rattle.charts.specs.Inner.Plan.{partners}
use Rattle.charts.specs.Inner.Filling.{tie_sum, side_sum, pair_sum, Partners, only, GrownAs, AddsPair, AddsLeft, AddsSplit}
use Rattle.charts.proofs.Growing.{grown_ext, Parts, parts_start, parts_end, parts_fits, parts_step}

-- a sum over the nonterminals below N, where only c counts
one_counts : (h : ℕ → ℕ) (c N : ℕ) → c < N → sum_over (λ B. cond (eqb c B) (h B) 0) (up_from 0 N) ≡ h c
one_counts h c N u = sum_single (eqb c) h (eq-eqb c c refl) (λ r e. ne_eqb c r (λ z. e (sym z))) 0 N (omega arith) (omega arith)

-- the pairs by their left sides come to all pairs
by_left : (x y : ℕ → ℕ) (N : ℕ) (l : List (ℕ × ℕ)) → ((e : ℕ × ℕ) → e ∈ l → e.0 < N)
    → sum_over (λ B. sum_over (λ (e : ℕ × ℕ). cond (eqb e.0 B) (x B * y e.1) 0) l) (up_from 0 N) ≡ sum_over (λ (e : ℕ × ℕ). x e.0 * y e.1) l
by_left x y N [] h = sum_const 0 (up_from 0 N) ∙ omega arith
by_left x y N (e ∷ l) h =
    omega (
      arith,
      sum_plus (λ B. cond (eqb e.0 B) (x B * y e.1) 0) (λ B. sum_over (λ (e : ℕ × ℕ). cond (eqb e.0 B) (x B * y e.1) 0) l) (up_from 0 N),
      one_counts (λ B. x B * y e.1) e.0 N (h e (Memᴰ.head refl)),
      by_left x y N l (λ d m. h d (Memᴰ.tail m)),
    )

-- and those with a left side by their right ones
by_right : (x : ℕ) (y : ℕ → ℕ) (b N : ℕ) (l : List (ℕ × ℕ)) → ((e : ℕ × ℕ) → e ∈ l → e.1 < N)
    → sum_over (λ C. sum_over (λ (e : ℕ × ℕ). cond (eqb e.0 b && eqb e.1 C) (x * y C) 0) l) (up_from 0 N)
    ≡ sum_over (λ (e : ℕ × ℕ). cond (eqb e.0 b) (x * y e.1) 0) l
by_right x y b N [] h = sum_const 0 (up_from 0 N) ∙ omega arith
by_right x y b N (e ∷ l) h =
    omega (
      arith,
      sum_plus (λ C. cond (eqb e.0 b && eqb e.1 C) (x * y C) 0)
          (λ C. sum_over (λ (e : ℕ × ℕ). cond (eqb e.0 b && eqb e.1 C) (x * y C) 0) l) (up_from 0 N),
      one (eqb e.0 b),
      by_right x y b N l (λ d m. h d (Memᴰ.tail m)),
    )
  where
    one : (t : Bool) → sum_over (λ C. cond (t && eqb e.1 C) (x * y C) 0) (up_from 0 N) ≡ cond t (x * y e.1) 0
    one true = one_counts (λ C. x * y C) e.1 N (h e (Memᴰ.head refl))
    one false = sum_const 0 (up_from 0 N) ∙ omega arith

-- ---- the pair rules of a table

module _ {rules : List (List ℕ)} (t : Ruled rules) (A : ℕ) (inside : A < count_in rules) where
  pub sides_come : (x y : ℕ → ℕ) → sum_over (λ B. side_sum rules (x B) y B A) (up_from 0 32) ≡ pair_sum rules x y A
  sides_come x y = by_left x y 32 (pairs_in rules A) (λ e m. omega (arith, (pair_inside t A e inside m).0, t.few))

  pub ties_come : (x : ℕ) (y : ℕ → ℕ) (b : ℕ) → sum_over (λ C. tie_sum rules (x * y C) b C A) (up_from 0 32) ≡ side_sum rules x y b A
  ties_come x y b = by_right x y b 32 (pairs_in rules A) (λ e m. omega (arith, (pair_inside t A e inside m).1, t.few))

-- ---- where nothing is added

module _ (rules : List (List ℕ)) (A : ℕ) where
  pub tie_zero : (v b c : ℕ) → v ≡ 0 → tie_sum rules v b c A ≡ 0
  tie_zero v b c z =
      sum_none (λ (e : ℕ × ℕ). cond (eqb e.0 b && eqb e.1 c) v 0) (pairs_in rules A) (λ e m. cond_none (eqb e.0 b && eqb e.1 c) v z)

  pub side_zero : (x : ℕ) (y : ℕ → ℕ) (b : ℕ) → x ≡ 0 → side_sum rules x y b A ≡ 0
  side_zero x y b z =
      sum_none (λ (e : ℕ × ℕ). cond (eqb e.0 b) (x * y e.1) 0) (pairs_in rules A)
      (λ e m. cond_none (eqb e.0 b) (x * y e.1) (rw z (omega arith)))

  -- no pair rule (b, c)
  pub tie_strange : (plan : List (List ℕ)) → Partners rules plan → A < count_in rules → (v b c : ℕ) → member (partners plan b) c ≡ false
      → tie_sum rules v b c A ≡ 0
  tie_strange plan pairs inside v b c z =
      sum_none (λ (e : ℕ × ℕ). cond (eqb e.0 b && eqb e.1 c) v 0) (pairs_in rules A) (λ e m. one e m (ℕ_discrete e.0 b) (ℕ_discrete e.1 c))
    where
      one : (e : ℕ × ℕ) → e ∈ pairs_in rules A → Dec (e.0 ≡ b) → Dec (e.1 ≡ c) → cond (eqb e.0 b && eqb e.1 c) v 0 ≡ 0
      one e m (yes p) (yes q) = absurd (false≢true (sym z ∙ rw (p, q) at (pairs A e.0 e.1 inside m)))
      one e m (yes p) (no q) = rw (ne_eqb e.1 c q, and_false (eqb e.0 b) false refl)
      one e m (no p) q = rw (ne_eqb e.0 b p)

-- ---- for one left nonterminal

abbrev pub LeftWalk : (rules : List (List ℕ)) (wanted row left right b : ℕ) (before now : List (List ℕ)) (s cs : ℕ) → Type 0
LeftWalk rules wanted row left right b before now s cs =
    Parts row (count_in rules) (λ A. only wanted A (side_sum rules (entry before left b) (entry before right) b A)) wanted
    (λ c A. tie_sum rules (entry before left b * entry before right c) b c A) before now s cs

and_cases : (a b : Bool) → (a && b) ≡ false → (b ≡ true → a ≡ false)
and_cases false b e q = refl
and_cases true true e q = e
and_cases true false e q = absurd (let z : ◌≡◌ {A = ℕ} 0 1 = cc in omega arith)

module _ {rules plan : List (List ℕ)} {wanted row left right b rights : ℕ} {before : List (List ℕ)}
    (q : AddsLeft rules plan wanted row left right b rights before) where
  abbrev x : ℕ
  x = entry before left b

  abbrev y : ℕ → ℕ
  y = entry before right

  abbrev part : ℕ → ℕ → ℕ
  part c A = tie_sum rules (x * y c) b c A

  pub left_start : {s : ℕ} {all : ℕ} (cs : ℕ) → cs ≡ all → ((c : ℕ) → member all c ≡ (member rights c && member (partners plan b) c))
      → LeftWalk rules wanted row left right b before before s cs
  left_start cs e m =
      parts_start wanted part cs q.adds.wide (λ A h c l z. none A h c l (sym (m c) ∙ rw e at z))
      (λ A h. ap (λ (v : ℕ). only wanted A v) (ties_come q.adds.table A h x y b))
    where
      none : (A : ℕ) → A < count_in rules → (c : ℕ) → c < 32 → (member rights c && member (partners plan b) c) ≡ false → part c A ≡ 0
      none A h c l z = go (member (partners plan b) c) refl
        where
          go : (t : Bool) → member (partners plan b) c ≡ t → part c A ≡ 0
          go false e = tie_strange rules A plan q.pairs h (x * y c) b c e
          go true e =
              tie_zero rules A (x * y c) b c
              (rw (q.zero c l (and_cases (member rights c) (member (partners plan b) c) z e)) (omega arith))

  module _ {now : List (List ℕ)} {s : ℕ} (cs : ℕ) (w : LeftWalk rules wanted row left right b before now s cs) where
    pub left_end : members cs ≡ [] → GrownAs row (count_in rules) (λ A. only wanted A (side_sum rules x y b A)) before now s
    left_end e = parts_end wanted part cs w e

    module _ (c next : ℕ) (t : members cs ≡ c ∷ members next) where
      -- the rows of the halves are as they were
      same : entry now left b * entry now right c ≡ x * y c
      same =
          ap₂ (λ (l r : List ℕ). get_or l b 0 * get_or r c 0) (w.others left q.apart.0) (w.others right q.apart.1)

      pub left_asks : AddsPair rules wanted row left right b c now
      left_asks = record {
        adds = record {
          table = q.adds.table;
          linked = q.adds.linked;
          wide = w.wide;
          inside = omega (arith, q.adds.inside, w.long);
          fits = λ A h. rw same (parts_fits wanted part cs w c next t A h (q.adds.fits A h));
        };
        left_inside = omega (arith, q.left_inside, w.long);
        right_inside = omega (arith, q.right_inside, w.long);
        b_low = q.b_low;
        c_low = lowest_low cs c t;
      }

      pub left_step : {after : List (List ℕ)} {s' s'' : ℕ} → GrownAs row (count_in rules) (λ A. only wanted A (tie_sum rules (entry now left b * entry now right c) b c A)) now after s'
          → ((i : ℕ) → member s'' i ≡ (member s i || member s' i)) → LeftWalk rules wanted row left right b before after s'' next
      left_step g m = parts_step wanted part cs w c next t (rw same at g) m

-- ---- for all

abbrev pub SplitWalk : (rules : List (List ℕ)) (wanted row left right : ℕ) (before now : List (List ℕ)) (s bs : ℕ) → Type 0
SplitWalk rules wanted row left right before now s bs =
    Parts row (count_in rules) (λ A. only wanted A (pair_sum rules (entry before left) (entry before right) A)) wanted
    (λ b A. side_sum rules (entry before left b) (entry before right) b A) before now s bs

module _ {rules plan : List (List ℕ)} {wanted row left right : ℕ} {sets : List ℕ} {before : List (List ℕ)}
    (q : AddsSplit rules plan wanted row left right sets before) where
  abbrev xs : ℕ → ℕ
  xs = entry before left

  abbrev ys : ℕ → ℕ
  ys = entry before right

  abbrev side : ℕ → ℕ → ℕ
  side b A = side_sum rules (xs b) ys b A

  pub split_start : {s : ℕ} (bs : ℕ) → bs ≡ get_or sets left 0 → SplitWalk rules wanted row left right before before s bs
  split_start bs e =
      parts_start wanted side bs q.adds.wide (λ A h b l z. side_zero rules A (xs b) ys b (q.zeros.0 b l (rw e at z)))
      (λ A h. ap (λ (v : ℕ). only wanted A v) (sides_come q.adds.table A h xs ys))

  module _ {now : List (List ℕ)} {s : ℕ} (bs : ℕ) (w : SplitWalk rules wanted row left right before now s bs) where
    pub split_end : members bs ≡ [] → GrownAs row (count_in rules) (λ A. only wanted A (pair_sum rules xs ys A)) before now s
    split_end e = parts_end wanted side bs w e

    module _ (b next : ℕ) (t : members bs ≡ b ∷ members next) where
      left_same : get_or now left [] ≡ get_or before left []
      left_same = w.others left q.apart.0

      right_same : get_or now right [] ≡ get_or before right []
      right_same = w.others right q.apart.1

      -- the rows of the halves are as they were
      same_side : (A : ℕ) → side_sum rules (entry now left b) (entry now right) b A ≡ side b A
      same_side A = ap₂ (λ (l r : List ℕ). side_sum rules (get_or l b 0) (λ c. get_or r c 0) b A) left_same right_same

      pub split_asks : AddsLeft rules plan wanted row left right b (get_or sets right 0) now
      split_asks = record {
        adds = record {
          table = q.adds.table;
          linked = q.adds.linked;
          wide = w.wide;
          inside = omega (arith, q.adds.inside, w.long);
          fits = λ A h. rw (same_side A) (parts_fits wanted side bs w b next t A h (q.adds.fits A h));
        };
        left_inside = omega (arith, q.left_inside.0, w.long);
        right_inside = omega (arith, q.right_inside.0, w.long);
        b_low = lowest_low bs b t;
        zero = λ A l z. ap (λ (r : List ℕ). get_or r A 0) right_same ∙ q.zeros.1 A l z;
        pairs = q.pairs;
        apart = q.apart;
      }

      pub split_step : {after : List (List ℕ)} {s' s'' : ℕ} → GrownAs row (count_in rules) (λ A. only wanted A (side_sum rules (entry now left b) (entry now right) b A)) now after s'
          → ((i : ℕ) → member s'' i ≡ (member s i || member s' i)) → SplitWalk rules wanted row left right before after s'' next
      split_step g m = parts_step wanted side bs w b next t (grown_ext (λ A h. rw (same_side A)) g) m
