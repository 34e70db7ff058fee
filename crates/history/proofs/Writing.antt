-- The bytes that *Log* writes: a record's bytes one by one, a run of bytes overwritten in the place of others, and what stands there then.
-- Assumes nothing.
use mathlib.Core.Path.{◌≡◌, refl, sym, ap, ◌∙◌}
use mathlib.Core.List.{List, [], ◌∷◌, ◌++◌}
use Prim.Native.Nat.{ℕ, zero, suc, ◌+◌, ◌-◌, ◌≤◌, ◌<◌}
use native.Mathlib.Omega.{arith}
use borrow.Rule.Slice.PartMut.{put_mid}
use lib.ListN.{length, get_or, set, take, drop, replicate, length-append, length-replicate}
use lib.Seq.{paste, take-length, length-take-le, length-paste, get_or-take, get_or-drop, get_or-append-add}
use Rattle.lists.proofs.Places.{get_or_same, get_or_left, get_or_right}
use Rattle.std.proofs.lemmas.List.{drop-replicate}
use Rattle.std.proofs.lemmas.Slice.{put_mid-paste}
use Rattle.history.specs.Layout.{records_of, head_of, record_at}
use Rattle.history.specs.Playback.{Playback}
use Rattle.history.specs.Writing.{overwritten, two_bytes, record_bytes, fourth_byte, appended}

-- zeros after a list change no entry: past its end an entry is 0 anyway
get_or_padded : (s : List ℕ) (n i : ℕ) → get_or (s ++ replicate n 0) i 0 ≡ get_or s i 0
get_or_padded [] n i = get_or_same n i 0
get_or_padded (x ∷ s) n zero = refl
get_or_padded (x ∷ s) n (suc i) = get_or_padded s n i

-- ---- the bytes of a record

pub record_word : (next fourth : ℕ) (s : List ℕ) (i : ℕ) → 4 ≤ i → get_or (record_bytes next fourth s) i 0 ≡ get_or s (i - 4) 0
unfolding record_bytes
record_word next fourth s i h =
    let e : i ≡ suc (suc (suc (suc (i - 4)))) = omega arith in
    ap (λ (k : ℕ). get_or (record_bytes next fourth s) k 0) e ∙ get_or_padded s (16 - length s) (i - 4)

pub record_length : (next fourth : ℕ) (s : List ℕ) → length s ≤ 16 → length (record_bytes next fourth s) ≡ 20
unfolding record_bytes
record_length next fourth s h =
    let e : length (s ++ replicate (16 - length s) 0) ≡ 16 = simp (length-append, length-replicate) (omega arith) in
    omega arith

-- the record written over twenty zeros: what lies past the sentence stays 0
pub record_made : (next fourth : ℕ) (s : List ℕ) {a ys : List ℕ} → length s ≤ 16 → a ≡ overwritten (replicate 20 0) 0 (two_bytes next) → ys ≡ s
    → put_mid 4 (4 + length s - 4) (set (set a 2 (length s)) 3 fourth) ys ≡ record_bytes next fourth s
unfolding overwritten record_bytes
record_made next fourth s l e f =
    let k : 4 + length s - 4 ≡ length s = omega arith in
    rw (e, f, k) (ap (λ (r : List ℕ). two_bytes next ++ (length s ∷ fourth ∷ (s ++ r))) (drop-replicate (length s) 16 0))

-- ---- bytes overwritten in the place of others

-- a whole copy is a overwritten
pub paste_put : (h : List ℕ) (at : ℕ) (bs : List ℕ) (n : ℕ) → length bs ≡ n → paste h at bs n ≡ overwritten h at bs
unfolding overwritten
paste_put h at bs n e =
    ap (λ (k : ℕ). take at h ++ take k bs ++ drop (at + k) h) (sym e)
    ∙ ap (λ (r : List ℕ). take at h ++ r ++ drop (at + length bs) h) (take-length bs)

-- a copy into the part from `at` on
pub part_put : (h bs : List ℕ) (at n : ℕ) {ys : List ℕ} → ys ≡ bs → length bs ≡ n → put_mid at (at + n - at) h ys ≡ overwritten h at bs
part_put h bs at n {ys} e f = put_mid-paste at (at + n - at) h ys bs n e (omega arith) (sym f) ∙ paste_put h at bs n f

module _ (h : List ℕ) (at : ℕ) (bs : List ℕ) (fits : at + length bs ≤ length h) where
  pub put_length : length (overwritten h at bs) ≡ length h
  put_length = ap length (sym (paste_put h at bs (length bs) refl)) ∙ length-paste h at bs (length bs) fits (omega arith)

  head_length : length (take at h ++ bs) ≡ at + length bs
  head_length = simp (length-append, length-take-le at h (omega arith))

  -- before them
  pub put_before : (i : ℕ) → i < at → get_or (overwritten h at bs) i 0 ≡ get_or h i 0
  unfolding overwritten
  put_before i l =
      get_or_left (take at h ++ bs) (drop (at + length bs) h) i 0 (omega (arith, head_length))
      ∙ get_or_left (take at h) bs i 0 (omega (arith, length-take-le at h (omega arith)))
      ∙ get_or-take at h i 0 l

  -- they themselves
  pub put_in : (i : ℕ) → i < length bs → get_or (overwritten h at bs) (at + i) 0 ≡ get_or bs i 0
  unfolding overwritten
  put_in i l =
      let e : at + i ≡ length (take at h) + i = omega (arith, length-take-le at h (omega arith)) in
      get_or_left (take at h ++ bs) (drop (at + length bs) h) (at + i) 0 (omega (arith, head_length))
      ∙ rw e (get_or-append-add (take at h) bs i 0)

  -- after them
  pub put_after : (i : ℕ) → at + length bs ≤ i → get_or (overwritten h at bs) i 0 ≡ get_or h i 0
  unfolding overwritten
  put_after i l =
      let e : at + length bs + (i - (at + length bs)) ≡ i = omega arith in
      get_or_right (take at h ++ bs) (drop (at + length bs) h) i 0 (omega (arith, head_length))
      ∙ rw head_length (get_or-drop (at + length bs) h (i - (at + length bs)) 0 ∙ ap (λ (k : ℕ). get_or h k 0) e)

-- ---- the whole of it

-- the record first, then K, then the head
pub written : (h : List ℕ) (p : Playback) (new at old : ℕ) {a b c : List ℕ} → new ≡ suc (records_of h) → at ≡ record_at new → old ≡ head_of h
    → a ≡ overwritten h at (record_bytes old (fourth_byte p) p.words) → b ≡ overwritten a 0 (two_bytes new) → c ≡ overwritten b 2 (two_bytes new) → c ≡ appended h p
unfolding appended
written h p new at old n i o e f g = rw (g, f, e, i, o, n)
