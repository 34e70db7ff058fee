-- Maps: the turns that write one, and what those by length alone and a planned one give. By a letter that is the same at every position a total is
-- the same at all of them; the spans that a plan needs are closed under halving.
-- Assumes nothing.
use mathlib.Core.Path.{◌≡◌, refl, sym, ap, ◌∙◌}
use mathlib.Core.Bool.{Bool, true}
use mathlib.Core.List.{List, [], ◌∷◌}
use Prim.Native.Nat.{ℕ, zero, suc, ◌+◌, ◌≤◌, ◌<◌}
use native.Mathlib.Omega.{arith}
use native.Mathlib.Decide.{ℕ_discrete}
use borrow.Author.Tests.{eq-eqb, ne_eqb}
use lib.ListN.{length, get_or, drop, length-drop, get_or-replicate}
use lib.Seq.{drop-cons, get_or-drop}
use Rattle.std.specs.List.{list_all, zip}
use Rattle.lists.specs.Inner.Tables.{entry, Wide}
use Rattle.grammar.specs.Inner.Rules.{ruled}
use Rattle.counting.specs.Totals.{total, total_by}
use Rattle.counting.specs.Inner.Counted.{Asked, Tallied, Counted}
use Rattle.grammar.specs.Inner.Links.{LinkedAs}
use Rattle.counting.proofs.Totals.{total_within, by_anywhere}
use Rattle.counting.proofs.Asking.{counted_rows, counted_kept}
use Rattle.charts.specs.Inner.Chart.{Blank, Beside, Clean, Filled}
use Rattle.counting.specs.Inner.Letters.{any, by_letter}
use Rattle.charts.specs.Inner.Letters.{letter_at, weight_by, letter_of, admits, stands}
use Rattle.charts.specs.Inner.Maps.{row_at, total_at, Span, Closed, Mapped, ByLength, Everywhere, rows_from, map_by, counts_map}
use Rattle.charts.specs.Inner.Plan.{needed, none_row, chart_row, end_of, Planned}

-- ---- maps by length alone

-- as a list
rows_from_lem : (k n i p : ℕ) → i < n → p < 16 → entry (rows_from k n) i p ≡ k + i
rows_from_lem k zero i p h l = absurd (omega arith)
rows_from_lem k (suc n) zero p h l = get_or-replicate 16 p k 0 l ∙ omega arith
rows_from_lem k (suc n) (suc i) p h l = omega (arith, rows_from_lem (suc k) n i p (omega arith) l)

pub map_by_lem : (x base : ℕ) → ByLength x base (map_by x base)
map_by_lem x base = record { row = row; letter = λ p h. get_or-replicate 16 p x 0 h }
  where
    row : (p m : ℕ) → p < 16 → 1 ≤ m → m ≤ 16 → row_at (map_by x base) p m ≡ base + m
    row p zero h s l = absurd (omega arith)
    row p (suc m) h s l = omega (arith, rows_from_lem (suc base) 16 m p (omega arith) h)

pub counts_map_lem : Everywhere counts_map
counts_map_lem = map_by_lem any 0

-- ---- letters

-- the letters of the first k words are there
pub record LetteredTo (blank : ℕ) (words : List ℕ) (k : ℕ) (before after : List (List ℕ)) : Type 0 where
  pub long : length after ≡ 17
  pub wide : Wide after 16
  pub letters : (p : ℕ) → p < k → letter_at after p ≡ letter_of blank (get_or words p 0)
  pub bytes : (p : ℕ) → p < k → get_or words p 0 < 256
  pub kept : (r : ℕ) → 1 ≤ r → get_or after r [] ≡ get_or before r []

-- a byte's letter asks for a word or for any; where no byte is a blank, for that word
pub letter_low : (blank x : ℕ) → x < 256 → letter_of blank x ≤ any
letter_low blank x h =
    elim (ℕ_discrete x blank) [
      | yes e ↦ rw (eq-eqb x blank e) (omega arith)
      | no e ↦ rw (ne_eqb x blank e) (omega arith)
    ]

pub letter_itself : (x : ℕ) → x < 256 → letter_of any x ≡ x
letter_itself x h = rw (ne_eqb x any (λ e. omega arith))

-- ---- words that stand, one after another

-- the sentence stands if each word is one that the letter beside it asks for
pub stands_zip : (map : List (List ℕ)) (p : ℕ) (u : List ℕ) → p + length u ≤ length (get_or map 0 [])
    → list_all (λ (e : ℕ × ℕ). admits e.0 e.1) (zip (drop p (get_or map 0 [])) u) ≡ stands map p u
stands_zip map p [] h = none (drop p (get_or map 0 []))
  where
    none : (l : List ℕ) → list_all (λ (e : ℕ × ℕ). admits e.0 e.1) (zip l []) ≡ true
    none [] = refl
    none (x ∷ l) = refl
stands_zip map p (w ∷ u) h =
    let e : _ = drop-cons (get_or map 0 []) p 0 (omega arith) in
    rw (e, stands_zip map (suc p) u (omega arith))

-- ---- totals by length alone

module _ (rules : List (List ℕ)) {x base : ℕ} {map : List (List ℕ)} (e : ByLength x base map) where
  pub length_weight : (p w : ℕ) → p < 16 → weight_by rules map p w ≡ by_letter rules x w
  length_weight p w h = ap (λ (y : ℕ). by_letter rules y w) (e.letter p h)

  pub length_total : (p A m : ℕ) → p + m ≤ 16 → total (ruled rules) (weight_by rules map) p A m ≡ total_by (ruled rules) (by_letter rules x) A m
  length_total p A m h =
      total_within (ruled rules) (weight_by rules map) (λ q w. by_letter rules x w) p A m (λ q w l u. length_weight q w (omega arith))
      ∙ by_anywhere (ruled rules) (by_letter rules x) p A m

  module _ (totals : List (List ℕ)) {n : ℕ} (c : Tallied rules (by_letter rules x) (drop base totals) n) (known : ℕ → ℕ → Bool) where
    row_is : (p m : ℕ) → Span n p m → row_at map p m ≡ base + m
    row_is p m s = e.row p m (omega (arith, s.some, s.inside, c.short)) s.some (omega (arith, s.inside, c.short))

    total_is : (p A m : ℕ) → Asked rules n A m → Span n p m → total_at totals map p A m ≡ total (ruled rules) (weight_by rules map) p A m
    total_is p A m a s =
        ap (λ (r : ℕ). entry totals r A) (row_is p m s)
        ∙ ap (λ (l : List ℕ). get_or l A 0) (sym (get_or-drop base totals m []))
        ∙ c.right A m a
        ∙ sym (length_total p A m (omega (arith, s.inside, c.short)))

    pub length_mapped : Mapped rules totals map n known
    length_mapped =
        record {
          low = λ p m s. omega (arith, row_is p m s, s.inside, c.short, c.long, length-drop base totals);
          right = λ p A m a s k. total_is p A m a s;
          below = λ p A m a s. omega (arith, total_is p A m a s);
          fits = λ p A m a s. omega (arith, length_total p A m (omega (arith, s.inside, c.short)), c.fits A m a);
        }

-- plain counts
module _ (rules : List (List ℕ)) {map : List (List ℕ)} (e : Everywhere map) where
  pub everywhere_mapped : {totals : List (List ℕ)} {n : ℕ} → Counted rules totals n → (known : ℕ → ℕ → Bool) → Mapped rules totals map n known
  everywhere_mapped {totals} c known = length_mapped rules e totals c known

-- every span may be known
pub all_closed : (rules : List (List ℕ)) (n : ℕ) → Closed rules n (λ p m. true)
all_closed rules n = record { whole = refl; halves = λ A B C p m k a i s h l t b c. (refl, refl) }

-- ---- planned maps

-- the needed spans
pub planned_closed : {rules plan map : List (List ℕ)} {first n : ℕ} → n ≤ 16 → Planned rules plan map first n → Closed rules n (needed plan)
planned_closed short w =
    record {
      whole = w.cut.whole;
      halves = λ A B C p m k a i s h l t b c.
          w.cut.halves p m k (omega (arith, s.inside)) (omega (arith, s.inside)) s.some (omega (arith, s.inside)) t
          (w.cut.cut A B C m k a i h l b c);
    }

-- a map with other letters
pub planned_same : {rules plan map : List (List ℕ)} {first n : ℕ} (after : List (List ℕ)) → ((r : ℕ) → 1 ≤ r → get_or after r [] ≡ get_or map r [])
    → Planned rules plan map first n → Planned rules plan after first n
planned_same {map = map} {n = n} after same w =
    record {
      behind = w.behind;
      length = w.length;
      cut = w.cut;
      rows = record {
        none = λ p m s t. is p m s ∙ w.rows.none p m s t;
        some = λ p m s t. let q = w.rows.some p m s t in (omega (arith, is p m s, q.0), omega (arith, is p m s, q.1));
        own = λ p m q k s r t u e. w.rows.own p m q k s r t u (sym (is p m s) ∙ e ∙ is q k r);
      };
    }
  where
    is : (p m : ℕ) → Span n p m → row_at after p m ≡ row_at map p m
    is p m s = ap (λ (l : List ℕ). get_or l p 0) (same m s.some)

-- linking the rules leaves the counts
pub linked_blank : {rules after totals : List (List ℕ)} {first n : ℕ} → LinkedAs rules after → Blank rules totals first n → Blank after totals first n
linked_blank l b = record {
  counted = counted_kept l.table.long l.table.wide l.rules_kept b.counted;
  zeros = b.zeros;
  room = b.room;
}

-- ---- the rows outside a chart are as they were

module _ {rules totals : List (List ℕ)} {first n : ℕ} (b : Blank rules totals first n) (behind : chart_row ≤ first) where
  -- so the counts are, and the row of zeros
  pub blank_kept : {totals' : List (List ℕ)} → length totals' ≡ length totals → Wide totals' 32 → ((r : ℕ) → Beside first n r → get_or totals' r [] ≡ get_or totals r [])
      → Blank rules totals' first n
  blank_kept lt w k =
      let c = b.counted in
      record {
        counted = counted_rows c (omega (arith, c.long)) w (λ r h. k r (λ l u. omega (arith, c.short)));
        zeros = λ A. ap (λ (l : List ℕ). get_or l A 0) (k none_row (λ l u. omega arith)) ∙ b.zeros A;
        room = omega (arith, b.room);
      }

  pub filled_blank : {plan map totals' : List (List ℕ)} → Filled rules plan map first n totals totals' → Blank rules totals' first n
  filled_blank q = blank_kept q.long q.wide q.kept

-- the totals of a map whose rows are among those that are as they were
pub mapped_kept : {rules totals map : List (List ℕ)} {n : ℕ} {known : ℕ → ℕ → Bool} (after : List (List ℕ)) → length after ≡ length totals
    → ((p m : ℕ) → Span n p m → get_or after (row_at map p m) [] ≡ get_or totals (row_at map p m) []) → Mapped rules totals map n known → Mapped rules after map n known
mapped_kept {totals = totals} {map} {n} after long same w =
    let is : (p A m : ℕ) → Span n p m → total_at after map p A m ≡ total_at totals map p A m = λ p A m s. ap (λ (l : List ℕ). get_or l A 0) (same p m s) in
    record {
      low = λ p m s. omega (arith, w.low p m s);
      right = λ p A m a s k. is p A m s ∙ w.right p A m a s k;
      below = λ p A m a s. omega (arith, is p A m s, w.below p A m a s);
      fits = w.fits;
    }

-- ---- sets to begin with

-- beside rows of zeros any sets will do
pub clean_start : (first n : ℕ) (sets : List ℕ) (totals : List (List ℕ)) → end_of first n ≤ length sets → ((r A : ℕ) → first ≤ r → entry totals r A ≡ 0)
    → Clean first n sets totals
clean_start first n sets totals beside zeros = record { beside = beside; zero = λ r A c u l z. zeros r A c }
