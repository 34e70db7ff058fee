-- A row that grows: where it begins, one entry or one part more, where it ends. Then part by part, one for each member of a set: what the row
-- has, with the parts of the members left, comes to the end value.
-- Assumes nothing.
use mathlib.Core.Path.{◌≡◌, refl, sym, ◌∙◌, ap}
use mathlib.Core.Bool.{true, false, cond, ◌||◌, Bool}
use mathlib.Core.List.{List, [], ◌∷◌}
use Prim.Native.Nat.{ℕ, ◌+◌, ◌≤◌, ◌<◌}
use native.Mathlib.Omega.{arith}
use native.Mathlib.Decide.{ℕ_discrete}
use borrow.Author.Tests.{eq-eqb, ne_eqb}
use lib.Dec.{eqb}
use lib.ListN.{length, get_or, set, length-set}
use Rattle.lists.specs.Inner.Tables.{entry, put, Wide}
use Rattle.lists.proofs.Tests.{or_left, or_right, cond_none}
use Rattle.lists.proofs.Tables.{put_same, put_row, put_beside, wide_put}
use Rattle.lists.specs.Joined.{sum_over, up_from}
use Rattle.sets.specs.Inner.Sets.{member, members}
use Rattle.sets.proofs.Lists.{sum_members}
use Rattle.counting.specs.Refusals.{most}
use Rattle.charts.specs.Inner.Filling.{Growing, GrownAs, only}

module _ {row count : ℕ} {f : ℕ → ℕ} {before : List (List ℕ)} where
  pub growing_start : {rest : ℕ → ℕ} {s : ℕ} → Wide before 32 → ((A : ℕ) → A < count → rest A ≡ f A) → Growing row count f before before rest s
  growing_start w e = record {
    long = refl;
    wide = w;
    due = λ A h. rw (e A h);
    others = λ r n. refl;
    covers = λ A h z. refl;
  }

  module _ {now : List (List ℕ)} {rest : ℕ → ℕ} {s : ℕ} (g : Growing row count f before now rest s) where
    pub growing_same : {rest' : ℕ → ℕ} → ((A : ℕ) → A < count → rest A ≡ rest' A) → Growing row count f before now rest' s
    growing_same e = record {
      long = g.long;
      wide = g.wide;
      due = λ A h. omega (arith, g.due A h, e A h);
      others = g.others;
      covers = g.covers;
    }

    pub growing_end : ((A : ℕ) → A < count → rest A ≡ 0) → GrownAs row count f before now s
    growing_end z = growing_same z

    -- a part more
    pub growing_more : {h rest' : ℕ → ℕ} {after : List (List ℕ)} {s' s'' : ℕ} → GrownAs row count h now after s'
        → ((A : ℕ) → A < count → rest A ≡ h A + rest' A) → ((b : ℕ) → member s'' b ≡ (member s b || member s' b))
        → Growing row count f before after rest' s''
    growing_more {s' = s'} q e m = record {
      long = q.long ∙ g.long;
      wide = q.wide;
      due = λ A h. omega (arith, g.due A h, q.due A h, e A h);
      others = λ r n. q.others r n ∙ g.others r n;
      covers = λ A h z.
          let o = sym (m A) ∙ z in
          q.covers A h (or_right (member s A) (member s' A) o) ∙ g.covers A h (or_left (member s A) (member s' A) o);
    }

    -- an entry more
    pub growing_put : {rest' : ℕ → ℕ} {s' : ℕ} (a v : ℕ) → a < 32 → row < length now → ((A : ℕ) → A < count → rest A ≡ cond (eqb a A) v 0 + rest' A)
        → ((b : ℕ) → member s' b ≡ (member s b || eqb a b)) → Growing row count f before (put now row a (entry now row a + v)) rest' s'
    growing_put {rest'} a v low inside e m = record {
      long = length-set now row (set (get_or now row []) a (entry now row a + v)) ∙ g.long;
      wide = wide_put now 32 row a (entry now row a + v) g.wide;
      due = λ A h. here A h (ℕ_discrete A a);
      others = λ r n. put_row now row a (entry now row a + v) r n ∙ g.others r n;
      covers = λ A h z.
          let o = sym (m A) ∙ z in
          put_beside now row a (entry now row a + v) A inside (λ q. omega (arith, bits (or_right (member s A) (eqb a A) o) q))
          ∙ g.covers A h (or_left (member s A) (eqb a A) o);
    }
      where
        bits : {A : ℕ} → eqb a A ≡ false → A ≡ a → ◌≡◌ {A = ℕ} 0 1
        bits {A} z q = let t : eqb a A ≡ true = eq-eqb a A (sym q) in cc

        here : (A : ℕ) → A < count → Dec (A ≡ a) → entry (put now row a (entry now row a + v)) row A + rest' A ≡ entry before row A + f A
        here A h (yes q) =
            let k = put_same now row a (entry now row a + v) inside (omega (arith, g.wide.row row inside)) in
            let h' : a < count = omega arith in
            let i = rw (eq-eqb a a refl) at (e a h') in
            rw q (omega (arith, k, i, g.due a h'))
        here A h (no n) =
            let k = put_beside now row a (entry now row a + v) A inside n in
            let i = rw (ne_eqb a A (λ q. n (sym q))) at (e A h) in
            omega (arith, k, i, g.due A h)

    -- the sum at the end bounds every sum on the way
    pub growing_fits : (A v : ℕ) → A < count → v ≤ rest A → entry before row A + f A ≤ most → entry now row A + v ≤ most
    growing_fits A v h l k = omega (arith, g.due A h)

-- the same by an equal end value
pub grown_ext : {row count : ℕ} {f h : ℕ → ℕ} {before after : List (List ℕ)} {s : ℕ} → ((A : ℕ) → A < count → f A ≡ h A) → GrownAs row count f before after s
    → GrownAs row count h before after s
grown_ext e g = record { long = g.long; wide = g.wide; due = λ A u. omega (arith, g.due A u, e A u); others = g.others; covers = g.covers }

pub only_plus : (w A x y : ℕ) → only w A (x + y) ≡ only w A x + only w A y
only_plus w A x y = go (member w A)
  where
    go : (t : Bool) → cond t (x + y) 0 ≡ cond t x 0 + cond t y 0
    go true = refl
    go false = refl

-- the parts of the members of `left` are still to come; only for nonterminals in w
abbrev pub Parts : (row count : ℕ) (f : ℕ → ℕ) (w : ℕ) (part : ℕ → ℕ → ℕ) (before now : List (List ℕ)) (s left : ℕ) → Type 0
Parts row count f w part before now s left = Growing row count f before now (λ A. only w A (sum_over (λ i. part i A) (members left))) s

module _ {row count : ℕ} {f : ℕ → ℕ} (w : ℕ) (part : ℕ → ℕ → ℕ) {before : List (List ℕ)} where
  pub parts_start : {s : ℕ} (left : ℕ) → Wide before 32 → ((A : ℕ) → A < count → (i : ℕ) → i < 32 → member left i ≡ false → part i A ≡ 0)
      → ((A : ℕ) → A < count → only w A (sum_over (λ i. part i A) (up_from 0 32)) ≡ f A) → Parts row count f w part before before s left
  parts_start left wide z e =
      growing_start wide (λ A h. ap (λ (x : ℕ). only w A x) (sum_members left (λ i. part i A) (z A h)) ∙ e A h)

  module _ {now : List (List ℕ)} {s : ℕ} (left : ℕ) (g : Parts row count f w part before now s left) where
    pub parts_end : members left ≡ [] → GrownAs row count f before now s
    parts_end e = growing_end g (λ A h. cond_none (member w A) (sum_over (λ i. part i A) (members left)) (ap (λ (l : List ℕ). sum_over (λ i. part i A) l) e))

    module _ (i next : ℕ) (t : members left ≡ i ∷ members next) where
      splits : (A : ℕ) → only w A (sum_over (λ i. part i A) (members left)) ≡ only w A (part i A) + only w A (sum_over (λ i. part i A) (members next))
      splits A =
          ap (λ (l : List ℕ). only w A (sum_over (λ i. part i A) l)) t
          ∙ only_plus w A (part i A) (sum_over (λ i. part i A) (members next))

      pub parts_fits : (A : ℕ) → A < count → entry before row A + f A ≤ most → entry now row A + only w A (part i A) ≤ most
      parts_fits A h m = growing_fits g A (only w A (part i A)) h (omega (arith, splits A)) m

      pub parts_step : {after : List (List ℕ)} {s' s'' : ℕ} → GrownAs row count (λ A. only w A (part i A)) now after s' → ((b : ℕ) → member s'' b ≡ (member s b || member s' b))
          → Parts row count f w part before after s'' next
      parts_step q m = growing_more g q (λ A h. splits A) m
