-- The needed spans: the whole, then from the longest length down the halves of each needed span. A turn adds the halves of all spans of
-- one length at one left length; only shorter spans are new, and all lie inside.
-- Assumes nothing.
use mathlib.Core.Path.{◌≡◌, refl, sym, ◌∙◌}
use mathlib.Core.Bool.{true, false, ◌&&◌, ◌||◌, false≢true}
use mathlib.Core.Logic.{inl, inr}
use mathlib.Core.List.Memᴰ
use mathlib.Core.List.{List, [], ◌∷◌}
use Prim.Native.Nat.{ℕ, ◌+◌, ◌-◌, ◌≤◌, ◌<◌}
use native.Mathlib.Omega.{arith}
use native.Mathlib.Decide.{ℕ_discrete}
use lib.Dec.{eqb, leb}
use lib.ListN.{length, set}
use lib.Seq.{get_or-set_other}
use Rattle.sets.specs.Inner.Sets.{member, members}
use Rattle.sets.proofs.Digits.{member_none}
use Rattle.sets.proofs.Lists.{members_∈}
use Rattle.sets.proofs.Loops.{turn_among, turn_out, with_new, with_only, either_left, either_right, either_cases, moved_there, moved_back, none_member, none_out}
use Rattle.charts.specs.Inner.Planning.{at, Halves, Inside, Spreads, SpreadAs, Spots, SpottedAs}
use Rattle.charts.proofs.Gathering.{stored_long, stored_same, stored_more}

-- ---- one store

inside_put : (n : ℕ) (row : List ℕ) (i x : ℕ) → length row ≡ 32 → i < 32 → Inside n row
    → ((p : ℕ) → p < 32 → 1 ≤ i → i ≤ n → member x p ≡ true → p + i ≤ n) → Inside n (set row i x)
inside_put n row i x long low w h = record {
  inside = λ p m l s u t.
      elim (ℕ_discrete m i) [
        | yes e ↦
            let q : member x p ≡ true = rw (e, stored_same row long i x low) at t in
            rw e (h p l (omega arith) (omega arith) q)
        | no d ↦ w.inside p m l s u (rw (get_or-set_other row i m x 0 d) at t)
      ];
}

-- ---- the halves of the spans of one length

-- the left lengths of s that are not in `left` are done
pub record Spreading (s m left : ℕ) (before row : List ℕ) : Type 0 where
  pub long : length row ≡ 32
  pub more : (p j : ℕ) → member (at before j) p ≡ true → member (at row j) p ≡ true
  pub same : (j : ℕ) → m ≤ j → at row j ≡ at before j
  pub done : (p k : ℕ) → p < 32 → k < 32 → member s k ≡ true → member left k ≡ false → member (at before m) p ≡ true → Halves row p m k
  pub rest : (k : ℕ) → k < 32 → member left k ≡ true → member s k ≡ true
  pub kept : (n : ℕ) → m ≤ n → n ≤ 16 → Inside n before → Inside n row

-- the lowest left length lies inside
pub lowest_within : {s m left : ℕ} {before row : List ℕ} → Spreads s m before → Spreading s m left before row → {k : ℕ} {l : List ℕ} → members left ≡ k ∷ l
    → (1 ≤ k) × (k < m)
lowest_within {left = left} a w {k} t = let h = members_∈ left k (rw t (Memᴰ.head refl)) in a.within k h.0 (w.rest k h.0 h.1)

module _ {s m left : ℕ} {before row : List ℕ} (a : Spreads s m before) (w : Spreading s m left before row)
    (k next : ℕ) (t : members left ≡ k ∷ members next)
    (x : ℕ) (ex : (b : ℕ) → member x b ≡ (member (at row k) b || member (at before m) b))
    (y : ℕ) (ey : (b : ℕ) → b < 32 → member y b ≡ (leb k b && member (at before m) (b - k)))
    (z : ℕ) (ez : (b : ℕ) → member z b ≡ (member (at (set row k x) (m - k)) b || member y b)) where
  low : (k < 32) × (member left k ≡ true)
  low = members_∈ left k (rw t (Memᴰ.head refl))

  within : (1 ≤ k) × (k < m)
  within = lowest_within a w t

  abbrev one : List ℕ
  one = set row k x

  abbrev two : List ℕ
  two = set one (m - k) z

  one_long : length one ≡ 32
  one_long = stored_long row w.long k x low.0

  right_low : m - k < 32
  right_low = omega (arith, a.short)

  more_one : (p j : ℕ) → member (at row j) p ≡ true → member (at one j) p ≡ true
  more_one p j h = stored_more row w.long k x low.0 (λ b q. either_left (at row k) (at before m) x ex b q) j p h

  more_two : (p j : ℕ) → member (at one j) p ≡ true → member (at two j) p ≡ true
  more_two p j h = stored_more one one_long (m - k) z right_low (λ b q. either_left (at one (m - k)) y z ez b q) j p h

  new : (p : ℕ) → p < 32 → member (at before m) p ≡ true → Halves two p m k
  new p l h =
      let q : member (at one k) p ≡ true = rw (stored_same row w.long k x low.0) (either_right (at row k) (at before m) x ex p h) in
      let r = moved_there (at before m) k y ey p (omega (arith, a.low p l h, a.short, within)) h in
      (more_two p k q, rw (stored_same one one_long (m - k) z right_low) (either_right (at one (m - k)) y z ez (p + k) r))

  pub spreading_turn : Spreading s m next before (set (set row k x) (m - k) z)
  spreading_turn =
      record {
        long = stored_long one one_long (m - k) z right_low;
        more = λ p j h. more_two p j (more_one p j (w.more p j h));
        same = λ j h.
            get_or-set_other one (m - k) j z 0 (λ e. omega (arith, within))
            ∙ get_or-set_other row k j x 0 (λ e. omega (arith, within))
            ∙ w.same j h;
        done = λ p j l u c f h.
            elim (ℕ_discrete j k) [
              | yes e ↦ rw e (new p l h)
              | no n ↦
                  let q = w.done p j l u c (turn_out left k next t j u f n) h in
                  (more_two p j (more_one p j q.0), more_two (p + j) (m - j) (more_one (p + j) (m - j) q.1))
            ];
        rest = λ j l h. w.rest j l (turn_among left k next t j l h);
        kept = λ n h l i.
            let in_row = w.kept n h l i in
            let in_one = inside_put n row k x w.long low.0 in_row
            (λ p u c d q.
            elim (either_cases (at row k) (at before m) x ex p q) [
              | inl v ↦ in_row.inside p k u c d v
              | inr v ↦ omega (arith, i.inside p m u (omega (arith, within)) h v, within)
            ]) in
            inside_put n one (m - k) z one_long right_low in_one
            (λ p u c d q.
            elim (either_cases (at one (m - k)) y z ez p q) [
              | inl v ↦ in_one.inside p (m - k) u c d v
              | inr v ↦
                  let b = moved_back (at before m) k y ey p u v in
                  omega (arith, i.inside (p - k) m (omega arith) (omega (arith, within)) h b.1, within, b.0)
            ]);
      }

pub spreading_end : {s m left : ℕ} {before row : List ℕ} → Spreading s m left before row → members left ≡ [] → SpreadAs s m before row
spreading_end {left = left} w e =
    record {
      long = w.long;
      more = w.more;
      same = w.same;
      halves = λ p k l u c h. w.done p k l u c (none_out left k e u) h;
      kept = w.kept;
    }

-- ---- length after length

module _ {cuts : List ℕ} {n : ℕ} {row : List ℕ} (a : Spots cuts n row) where
  pub spotted_start : (s x : ℕ) → members s ≡ [] → ((b : ℕ) → member x b ≡ (member s b || eqb 0 b)) → SpottedAs cuts n (n + 1) (set row n x)
  spotted_start s x none e =
      let low : n < 32 = omega (arith, a.short) in
      record {
        long = stored_long row a.long n x low;
        whole = rw (stored_same row a.long n x low) (with_new s 0 x e 0 refl);
        halves = λ p m k h l. absurd (omega arith);
        inside = inside_put n row n x a.long low
            record { inside = λ p m l h u t. absurd (false≢true (sym (rw (a.none m) (member_none p)) ∙ t)) }
            (λ p l h u t.
            elim (with_only s 0 x e p t) [
              | inl q ↦ absurd (none_member s p none l q)
              | inr q ↦ omega arith
            ]);
      }

pub spotted_turn : {cuts : List ℕ} {n : ℕ} {first row after : List ℕ} {m : ℕ} → Spots cuts n first → SpottedAs cuts n m row → m - 1 ≤ n
    → SpreadAs (at cuts (m - 1)) (m - 1) row after → SpottedAs cuts n (m - 1) after
spotted_turn {m = m} a w l s =
    record {
      long = s.long;
      whole = s.more 0 _ w.whole;
      halves = λ p j k h u i v c t.
          elim (ℕ_discrete j (m - 1)) [
            | yes e ↦ rw e (s.halves p k i v (rw e at c) (rw (e, s.same (m - 1) (omega arith)) at t))
            | no d ↦
                let q = w.halves p j k (omega arith) u i v c (rw (s.same j h) at t) in
                (s.more p k q.0, s.more (p + k) (j - k) q.1)
          ];
      inside = s.kept _ l a.short w.inside;
    }

-- spans of one position have no halves
pub spotted_end : {cuts : List ℕ} {n : ℕ} {first row : List ℕ} {m : ℕ} → Spots cuts n first → SpottedAs cuts n m row → m ≤ 2 → SpottedAs cuts n 1 row
spotted_end a w e =
    record {
      long = w.long;
      whole = w.whole;
      halves = λ p j k h u i v c t.
          elim (ℕ_discrete j 1) [
            | yes d ↦ absurd (omega (arith, a.within j k v (omega arith) u c))
            | no d ↦ w.halves p j k (omega arith) u i v c t
          ];
      inside = w.inside;
    }
