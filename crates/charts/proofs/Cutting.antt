-- The row of two positions or more, cut after cut: what the row has, with what the cuts left add, comes to what all add.
-- Assumes nothing.
use mathlib.Core.Path.{◌≡◌, refl, ap, ap₂, ◌∙◌}
use mathlib.Core.Bool.{true, ◌||◌}
use mathlib.Core.List.Memᴰ
use mathlib.Core.List.{List, [], ◌∷◌}
use Prim.Native.Nat.{ℕ, ◌+◌, ◌-◌, ◌≤◌, ◌<◌}
use native.Mathlib.Omega.{arith}
use lib.ListN.{get_or, set, length-set}
use Rattle.lists.specs.Joined.{◌∈◌}
use Rattle.lists.specs.Inner.Tables.{entry}
use Rattle.lists.proofs.Sums.{sum_ext}
use Rattle.lists.proofs.Tables.{row_other}
use Rattle.sets.specs.Inner.Sets.{member, members}
use Rattle.sets.proofs.Lists.{members_∈}
use Rattle.grammar.specs.Inner.Rules.{count_in}
use Rattle.counting.specs.Refusals.{most}
use Rattle.charts.specs.Inner.Maps.{row_at}
use Rattle.charts.specs.Inner.Plan.{cuts, wanted}
use Rattle.charts.specs.Inner.Filling.{only, pair_sum, cut_sum, cuts_sum, GrownAs, AddsSplit, MadeAs, Half, Joins}
use Rattle.charts.proofs.Growing.{growing_start, grown_ext, Parts, parts_end, parts_fits, parts_step}
use Rattle.charts.proofs.Making.{zeros, cleared, cleared_wide, made}

-- what a cut adds depends on the rows of the halves alone
pub cut_same : (rules map before now : List (List ℕ)) (p m A k : ℕ) → get_or now (row_at map p k) [] ≡ get_or before (row_at map p k) []
    → get_or now (row_at map (p + k) (m - k)) [] ≡ get_or before (row_at map (p + k) (m - k)) [] → cut_sum rules map now p m A k ≡ cut_sum rules map before p m A k
cut_same rules map before now p m A k l r = ap₂ (λ (x y : List ℕ). pair_sum rules (λ B. get_or x B 0) (λ C. get_or y C 0) A) l r

-- ---- from zeros

module _ {rules plan map : List (List ℕ)} {p m : ℕ} {sets : List ℕ} {before : List (List ℕ)} (q : Joins rules plan map p m sets before) where
  abbrev blank : List (List ℕ)
  blank = set before (row_at map p m) zeros

  kept_row : (r : ℕ) → (r ≡ row_at map p m → ⊥) → get_or blank r [] ≡ get_or before r []
  kept_row r n = row_other before (row_at map p m) zeros r n

  blank_sum : (A : ℕ) → cuts_sum rules plan map blank p m A ≡ cuts_sum rules plan map before p m A
  blank_sum A =
      sum_ext (cut_sum rules map blank p m A) (cut_sum rules map before p m A) (members (cuts plan m))
      (λ k i.
      let h = members_∈ (cuts plan m) k i in
      cut_same rules map before blank p m A k (kept_row (row_at map p k) (q.left k h.0 h.1).apart)
      (kept_row (row_at map (p + k) (m - k)) (q.right k h.0 h.1).apart))

  blank_half : (i j : ℕ) → Half map (row_at map p m) i j sets before → Half map (row_at map p m) i j sets blank
  blank_half i j h = record {
    inside = omega (arith, h.inside, length-set before (row_at map p m) zeros);
    beside = h.beside;
    apart = h.apart;
    zero = λ A l z. ap (λ (r : List ℕ). get_or r A 0) (kept_row (row_at map i j) h.apart) ∙ h.zero A l z;
  }

  joins_blank : Joins rules plan map p m sets blank
  joins_blank = record {
    makes = record {
      table = q.makes.table;
      linked = q.makes.linked;
      wide = cleared_wide before (row_at map p m) q.makes.inside q.makes.wide;
      inside = omega (arith, q.makes.inside, length-set before (row_at map p m) zeros);
      low = q.makes.low;
      some = q.makes.some;
      short = q.makes.short;
      letter = q.makes.letter;
      zero = λ A h z. cleared before (row_at map p m) q.makes.inside A h;
    };
    beside = q.beside;
    pairs = q.pairs;
    within = q.within;
    left = λ k h c. blank_half p k (q.left k h c);
    right = λ k h c. blank_half (p + k) (m - k) (q.right k h c);
    fits = λ A h. rw (blank_sum A) (q.fits A h);
  }

  blank_zero : (A : ℕ) → A < 32 → entry blank (row_at map p m) A ≡ 0
  blank_zero = cleared before (row_at map p m) q.makes.inside

  blank_made : {after : List (List ℕ)} {s : ℕ}
      → GrownAs (row_at map p m) (count_in rules) (λ A. only (wanted plan m) A (cuts_sum rules plan map blank p m A)) blank after s
      → MadeAs (row_at map p m) (count_in rules) (λ A. only (wanted plan m) A (cuts_sum rules plan map before p m A)) before after s
  blank_made g =
      made before (row_at map p m) q.makes.inside q.makes.table.few
      (grown_ext (λ A h. rw (blank_sum A)) g)

  -- the row as it was read from the map
  module _ (row : ℕ) (e : row ≡ row_at map p m) where
    module _ {now : List (List ℕ)} (z : now ≡ set before row zeros) where
      pub cuts_joins : Joins rules plan map p m sets now
      cuts_joins = rw (z, e) joins_blank

      pub cuts_clear : (A : ℕ) → A < 32 → entry now (row_at map p m) A ≡ 0
      cuts_clear = rw (z, e) blank_zero

      pub cuts_made : {after : List (List ℕ)} {s : ℕ}
          → GrownAs (row_at map p m) (count_in rules) (λ A. only (wanted plan m) A (cuts_sum rules plan map now p m A)) now after s
          → MadeAs (row_at map p m) (count_in rules) (λ A. only (wanted plan m) A (cuts_sum rules plan map before p m A)) before after s
      cuts_made = rw (z, e) blank_made

-- ---- cut after cut, from a row of zeros

pub record CutsWalk (rules plan map : List (List ℕ)) (p m : ℕ) (sets : List ℕ) (before now : List (List ℕ)) (s ks : ℕ) : Type 0 where
  pub joins : Joins rules plan map p m sets before
  pub clear : (A : ℕ) → A < 32 → entry before (row_at map p m) A ≡ 0
  pub among : (k : ℕ) → k ∈ members ks → k ∈ members (cuts plan m)
  pub parts : Parts (row_at map p m) (count_in rules) (λ A. only (wanted plan m) A (cuts_sum rules plan map before p m A)) (wanted plan m)
      (λ k A. cut_sum rules map before p m A k) before now s ks

pub cuts_start : {rules plan map : List (List ℕ)} {p m : ℕ} {sets : List ℕ} {before now : List (List ℕ)} {row s : ℕ} → Joins rules plan map p m sets before
    → row ≡ row_at map p m → now ≡ set before row zeros → (ks : ℕ) → ks ≡ cuts plan m → CutsWalk rules plan map p m sets now now s ks
cuts_start {now = now} {row = row} q e z ks is =
    let j = cuts_joins q row e z in
    record {
      joins = j;
      clear = cuts_clear q row e z;
      among = λ k i. rw is at i;
      parts = growing_start j.makes.wide (λ A h. rw is refl);
    }

module _ {rules plan map : List (List ℕ)} {p m : ℕ} {sets : List ℕ} {before : List (List ℕ)} where
  module _ {now : List (List ℕ)} {s ks : ℕ} (w : CutsWalk rules plan map p m sets before now s ks) where
    abbrev q : Joins rules plan map p m sets before
    q = w.joins

    abbrev part : ℕ → ℕ → ℕ
    part k A = cut_sum rules map before p m A k

    pub cuts_end : members ks ≡ [] → GrownAs (row_at map p m) (count_in rules) (λ A. only (wanted plan m) A (cuts_sum rules plan map before p m A)) before now s
    cuts_end e = parts_end (wanted plan m) part ks w.parts e

    module _ (k next : ℕ) (t : members ks ≡ k ∷ members next) where
      pub cut_is : (k < 32) × (member (cuts plan m) k ≡ true)
      cut_is = members_∈ (cuts plan m) k (w.among k (rw t (Memᴰ.head refl)))

      left : Half map (row_at map p m) p k sets before
      left = q.left k cut_is.0 cut_is.1

      right : Half map (row_at map p m) (p + k) (m - k) sets before
      right = q.right k cut_is.0 cut_is.1

      pub cut_within : (1 ≤ k) × (k < m) × (p + k < 16)
      cut_within = q.within k cut_is.0 cut_is.1

      left_same : get_or now (row_at map p k) [] ≡ get_or before (row_at map p k) []
      left_same = w.parts.others (row_at map p k) left.apart

      right_same : get_or now (row_at map (p + k) (m - k)) [] ≡ get_or before (row_at map (p + k) (m - k)) []
      right_same = w.parts.others (row_at map (p + k) (m - k)) right.apart

      same : (A : ℕ) → cut_sum rules map now p m A k ≡ part k A
      same A = cut_same rules map before now p m A k left_same right_same

      fits : (A : ℕ) → A < count_in rules → entry now (row_at map p m) A + only (wanted plan m) A (cut_sum rules map now p m A k) ≤ most
      fits A h =
          rw (same A)
          (parts_fits (wanted plan m) part ks w.parts k next t A h
          (omega (arith, w.clear A (omega (arith, q.makes.table.few)), q.fits A h)))

      asks : AddsSplit rules plan (wanted plan m) (row_at map p m) (row_at map p k) (row_at map (p + k) (m - k)) sets now
      asks = record {
        adds = record {
          table = q.makes.table;
          linked = q.makes.linked;
          wide = w.parts.wide;
          inside = omega (arith, q.makes.inside, w.parts.long);
          fits = fits;
        };
        left_inside = (omega (arith, left.inside, w.parts.long), left.beside);
        right_inside = (omega (arith, right.inside, w.parts.long), right.beside);
        zeros = (
          λ A l z. ap (λ (r : List ℕ). get_or r A 0) left_same ∙ left.zero A l z,
          λ A l z. ap (λ (r : List ℕ). get_or r A 0) right_same ∙ right.zero A l z,
        );
        pairs = q.pairs;
        apart = (left.apart, right.apart);
      }

      step : {after : List (List ℕ)} {s' s'' : ℕ} → GrownAs (row_at map p m) (count_in rules) (λ A. only (wanted plan m) A (cut_sum rules map now p m A k)) now after s'
          → ((i : ℕ) → member s'' i ≡ (member s i || member s' i)) → CutsWalk rules plan map p m sets before after s'' next
      step g u = record {
        joins = q;
        clear = w.clear;
        among = λ i j. w.among i (rw t (Memᴰ.tail j));
        parts =
            parts_step (wanted plan m) part ks w.parts k next t (grown_ext (λ A h. rw (same A)) g) u;
      }

      -- the rows as they were read from the map
      module _ (row x y : ℕ) (e : row ≡ row_at map p m) (ex : x ≡ row_at map p k) (ey : y ≡ row_at map (p + k) (m - k)) where
        pub cut_asks : AddsSplit rules plan (wanted plan m) row x y sets now
        cut_asks = rw (e, ex, ey) asks

        pub cut_step : {after : List (List ℕ)} {s' s'' : ℕ} → GrownAs row (count_in rules) (λ A. only (wanted plan m) A (pair_sum rules (entry now x) (entry now y) A)) now after s'
            → ((i : ℕ) → member s'' i ≡ (member s i || member s' i)) → CutsWalk rules plan map p m sets before after s'' next
        cut_step g u = step (rw (e, ex, ey) at g) u
