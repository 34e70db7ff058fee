-- Rows of spans, length after length: those of a length begin where those of the shorter ones end.
-- So every span has a row of its own.
-- Assumes nothing.
use mathlib.Core.Path.{◌≡◌, sym, ap, ◌∙◌}
use mathlib.Core.Bool.{Bool, true, false, cond}
use mathlib.Core.List.{List, []}
use Prim.Native.Nat.{ℕ, zero, suc, ◌+◌, ◌-◌, ◌≤◌, ◌<◌}
use native.Mathlib.Omega.{arith}
use native.Mathlib.Decide.{ℕ_discrete, dec_lt}
use lib.ListN.{length, get_or, set, length-set}
use Rattle.lists.proofs.Tables.{row_same, row_other, wide_row}
use Rattle.sets.specs.Inner.Sets.{member}
use Rattle.charts.specs.Inner.Maps.{row_at, Span}
use Rattle.charts.specs.Inner.Plan.{none_row, spans_of, end_of, room, needed, Rowed}
use Rattle.charts.specs.Inner.Planning.{at, row_from, base_of, RowAs, PlacedAs}

-- ---- how many spans

pub spans_more : (n k : ℕ) → spans_of n ≤ spans_of (n + k)
spans_more n zero = let e : n + 0 ≡ n = omega arith in rw e (omega arith)
spans_more n (suc k) = let e : n + suc k ≡ suc (n + k) = omega arith in rw e (omega (arith, spans_more n k))

pub spans_le : (m n : ℕ) → m ≤ n → spans_of m ≤ spans_of n
spans_le m n h = let e : m + (n - m) ≡ n = omega arith in rw e at (spans_more m (n - m))

pub room_short : (n : ℕ) → n ≤ 5 → room n ≤ 33
room_short n h = omega (arith, spans_le n 5 h)

pub room_low : (n : ℕ) → n ≤ 16 → room n ≤ 154
room_low n h = omega (arith, spans_le n 16 h)

-- ---- where the rows of a length begin

module _ (first n : ℕ) where
  pub base_next : (m : ℕ) → 1 ≤ m → m ≤ n → base_of first n (m + 1) ≡ base_of first n m + (n - m + 1)
  base_next m h l =
      let e : n + 1 - m ≡ suc (n - m) = omega arith in
      let f : n + 1 - (m + 1) ≡ n - m = omega arith in
      let g = spans_le (suc (n - m)) n (omega arith) in
      rw (e, f) (omega arith)

  -- within the room
  pub base_room : (m p : ℕ) → 1 ≤ m → p + m ≤ n → base_of first n m + p < end_of first n
  base_room m p h l =
      let e : n + 1 - m ≡ suc (n - m) = omega arith in
      let g = spans_le (suc (n - m)) n (omega arith) in
      rw e (omega arith)

  pub base_low : (m : ℕ) → 1 ≤ m → m ≤ n → n ≤ 16 → base_of first n m < first + 136
  base_low m h l u = omega (arith, base_room m 0 h (omega arith), room_low n u)

  -- those of longer spans come after
  pub base_later : (m k p : ℕ) → 1 ≤ m → m < k → p + m ≤ n → base_of first n m + p < base_of first n k
  base_later m k p h l i =
      let e : n + 1 - m ≡ suc (n - m) = omega arith in
      let g = spans_le (suc (n - m)) n (omega arith) in
      let f = spans_le (n + 1 - k) (n - m) (omega arith) in
      rw e (omega arith)

-- ---- a row

pub rows_start : {spots base : ℕ} {row : List ℕ} → length row ≡ 16 → RowAs spots base 0 row
rows_start long = record { long = long; each = λ p h. absurd (omega arith) }

-- ---- all rows

pub placed_turn : {spots : List ℕ} {first n m base : ℕ} {before map : List (List ℕ)} {row : List ℕ} → PlacedAs spots first n m before map → 1 ≤ m → m ≤ n → n ≤ 16
    → base ≡ base_of first n m → RowAs (at spots m) base (n - m + 1) row → PlacedAs spots first n (m + 1) before (set map m row)
placed_turn {spots} {first} {n} {m} {base} {before} {map} {row} w some short low e r =
    record {
      long = length-set map m row ∙ w.long;
      wide = wide_row map 16 m row r.long w.wide;
      letters = row_other map m row 0 (λ z. omega arith) ∙ w.letters;
      each = λ p j h l i.
          elim (ℕ_discrete j m) [
            | yes q ↦
                rw q
                (ap (λ (x : List ℕ). get_or x p 0) (row_same map m row (omega (arith, w.long)))
                ∙ r.each p (omega arith)
                ∙ ap (λ (x : ℕ). row_from (at spots m) x p) e)
            | no q ↦ ap (λ (x : List ℕ). get_or x p 0) (row_other map m row j q) ∙ w.each p j h (omega arith) i
          ];
    }

-- ---- the rows of a plan

row_none : (b : Bool) (x : ℕ) → b ≡ false → cond b x none_row ≡ none_row
row_none b x e = rw e

row_some : (b : Bool) (x : ℕ) → b ≡ true → cond b x none_row ≡ x
row_some b x e = rw e

module _ (plan : List (List ℕ)) {spots : List ℕ} {first n : ℕ} {before map : List (List ℕ)} (w : PlacedAs spots first n (n + 1) before map) (is : get_or plan 1 [] ≡ spots) where
  need : (p m : ℕ) → needed plan p m ≡ member (at spots m) p
  need p m = rw is

  here : (p m : ℕ) → Span n p m → needed plan p m ≡ true → row_at map p m ≡ base_of first n m + p
  here p m s t =
      w.each p m s.some (omega (arith, s.inside)) s.inside
      ∙ row_some (member (at spots m) p) (base_of first n m + p) (sym (need p m) ∙ t)

  pub placed_rows : Rowed plan map first n
  placed_rows =
      record {
        none = λ p m s t.
            w.each p m s.some (omega (arith, s.inside)) s.inside
            ∙ row_none (member (at spots m) p) (base_of first n m + p) (sym (need p m) ∙ t);
        some = λ p m s t. (omega (arith, here p m s t), omega (arith, here p m s t, base_room first n m p s.some s.inside));
        own = λ p m q k s r t u e. own p m q k s r (sym (here p m s t) ∙ e ∙ here q k r u);
      }
    where
      own : (p m q k : ℕ) → Span n p m → Span n q k → base_of first n m + p ≡ base_of first n k + q → (p ≡ q) × (m ≡ k)
      own p m q k s r e =
          elim (ℕ_discrete m k) [
            | yes z ↦ let f : base_of first n m ≡ base_of first n k = ap (base_of first n) z in (omega arith, z)
            | no z ↦
                elim (dec_lt m k) [
                  | yes l ↦ absurd (omega (arith, base_later first n m k p s.some l s.inside))
                  | no l ↦ absurd (omega (arith, base_later first n k m q r.some (omega arith) r.inside))
                ]
          ]
