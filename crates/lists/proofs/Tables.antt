-- What a store of one entry, or of a whole row, leaves of a table.
-- Assumes nothing.
use mathlib.Core.Path.{◌≡◌, refl, ap, ◌∙◌}
use mathlib.Core.List.{List, [], ◌∷◌}
use Prim.Native.Nat.{ℕ, zero, suc, ◌+◌, ◌≤◌, ◌<◌}
use native.Mathlib.Omega.{arith}
use native.Mathlib.Decide.{ℕ_discrete, dec_lt}
use lib.ListN.{length, get_or, set, replicate, length-set, length-replicate, get_or-replicate}
use lib.Seq.{get_or-set_same, get_or-set_other}
use Rattle.lists.specs.Inner.Tables.{entry, put, Wide, Kept, CopiedAs}
use Rattle.lists.proofs.Places.{get_or_same}

module _ (t : List (List ℕ)) where
  -- ---- one entry

  pub put_same : (r i v : ℕ) → r < length t → i < length (get_or t r []) → entry (put t r i v) r i ≡ v
  put_same r i v h k = rw (get_or-set_same t r (set (get_or t r []) i v) [] h) (get_or-set_same (get_or t r []) i v 0 k)

  pub put_row : (r i v r' : ℕ) → (r' ≡ r → ⊥) → get_or (put t r i v) r' [] ≡ get_or t r' []
  put_row r i v r' n = get_or-set_other t r r' (set (get_or t r []) i v) [] (λ e. n e)

  pub put_other_row : (r i v r' i' : ℕ) → (r' ≡ r → ⊥) → entry (put t r i v) r' i' ≡ entry t r' i'
  put_other_row r i v r' i' n = ap (λ (l : List ℕ). get_or l i' 0) (put_row r i v r' n)

  pub put_beside : (r i v i' : ℕ) → r < length t → (i' ≡ i → ⊥) → entry (put t r i v) r i' ≡ entry t r i'
  put_beside r i v i' h n = rw (get_or-set_same t r (set (get_or t r []) i v) [] h) (get_or-set_other (get_or t r []) i i' v 0 (λ e. n e))

  -- ---- a whole row

  pub row_same : (r : ℕ) (l : List ℕ) → r < length t → get_or (set t r l) r [] ≡ l
  row_same r l h = get_or-set_same t r l [] h

  pub row_other : (r : ℕ) (l : List ℕ) (r' : ℕ) → (r' ≡ r → ⊥) → get_or (set t r l) r' [] ≡ get_or t r' []
  row_other r l r' n = get_or-set_other t r r' l [] (λ e. n e)

-- ---- widths

pub wide_row : (t : List (List ℕ)) (w r : ℕ) (l : List ℕ) → length l ≡ w → Wide t w → Wide (set t r l) w
wide_row t w r l e h = record {
  row = λ q k.
      let inside : q < length t = omega (arith, length-set t r l) in
      elim (ℕ_discrete q r) [
        | yes z ↦ rw z (ap length (row_same t r l (omega arith)) ∙ e)
        | no n ↦ ap length (row_other t r l q n) ∙ h.row q inside
      ];
}

pub wide_put : (t : List (List ℕ)) (w r i v : ℕ) → Wide t w → Wide (put t r i v) w
wide_put t w r i v h =
    elim (dec_lt r (length t)) [
      | yes l ↦ wide_row t w r (set (get_or t r []) i v) (length-set (get_or t r []) i v ∙ h.row r l) h
      | no n ↦ record {
        row = λ q k.
            let inside : q < length t = omega (arith, length-set t r (set (get_or t r []) i v)) in
            ap length (put_row t r i v q (λ e. omega arith)) ∙ h.row q inside;
      }
    ]

pub wide_made : (n w x : ℕ) → Wide (replicate n (replicate w x)) w
wide_made n w x = record {
  row = λ q k.
      let inside : q < n = omega (arith, length-replicate n (replicate w x)) in
      ap length (get_or-replicate n q (replicate w x) [] inside) ∙ length-replicate w x;
}

-- ---- what a store leaves

module _ {first width : ℕ} where
  pub kept_same : {t : List (List ℕ)} → Wide t width → Kept first width t t
  kept_same h = record { long = refl; wide = h; rest = λ r l. refl }

  pub kept_then : {t u v : List (List ℕ)} → Kept first width t u → Kept first width u v → Kept first width t v
  kept_then h k = record { long = k.long ∙ h.long; wide = k.wide; rest = λ r l. k.rest r l ∙ h.rest r l }

  pub kept_put : {old t : List (List ℕ)} (r i v : ℕ) → r < first → Kept first width old t → Kept first width old (put t r i v)
  kept_put {old} {t} r i v h k = record {
    long = length-set t r (set (get_or t r []) i v) ∙ k.long;
    wide = wide_put t width r i v k.wide;
    rest = λ q l. put_row t r i v q (λ e. omega arith) ∙ k.rest q l;
  }

-- ---- rows copied, one after another

pub copied_none : (from t : List (List ℕ)) → CopiedAs 0 from t t
copied_none from t = record { long = refl; rows = λ r h. absurd (omega arith); rest = λ r h. refl }

pub copied_more : {n : ℕ} {from before t : List (List ℕ)} → n < length before → CopiedAs n from before t → CopiedAs (n + 1) from before (set t n (get_or from n []))
copied_more {n} {from} {before} {t} h c =
    let inside : n < length t = omega (arith, c.long) in
    record {
      long = length-set t n (get_or from n []) ∙ c.long;
      rows = λ r l. elim (ℕ_discrete r n) [
        | yes e ↦ rw e (row_same t n (get_or from n []) inside)
        | no d ↦ row_other t n (get_or from n []) r d ∙ c.rows r (omega arith)
      ];
      rest = λ r l. row_other t n (get_or from n []) r (λ e. omega arith) ∙ c.rest r (omega arith);
    }

pub copied_wide : {n w : ℕ} {from before after : List (List ℕ)} → n ≤ length from → Wide from w → Wide before w → CopiedAs n from before after → Wide after w
copied_wide {n} k f b c = record {
  row = λ r h. elim (dec_lt r n) [
    | yes l ↦ ap length (c.rows r l) ∙ f.row r (omega arith)
    | no d ↦ ap length (c.rest r (omega arith)) ∙ b.row r (omega (arith, c.long))
  ];
}

-- a table of zeros
pub made_entry : (n w r i : ℕ) → entry (replicate n (replicate w 0)) r i ≡ 0
made_entry n w r i =
    elim (dec_lt r n) [
      | yes h ↦ ap (λ (l : List ℕ). get_or l i 0) (get_or-replicate n r (replicate w 0) [] h) ∙ get_or_same w i 0
      | no h ↦ ap (λ (l : List ℕ). get_or l i 0) (get_d_past (replicate n (replicate w 0)) r (omega (arith, length-replicate n (replicate w zero))))
    ]
  where
    get_d_past : (l : List (List ℕ)) (k : ℕ) → length l ≤ k → get_or l k [] ≡ []
    get_d_past [] k h = refl
    get_d_past (x ∷ l) zero h = absurd (omega arith)
    get_d_past (x ∷ l) (suc k) h = get_d_past l k (omega arith)
