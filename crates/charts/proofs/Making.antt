-- A row made from zeros: of a single position by its letter, of a longer span cut after cut.
-- Assumes nothing.
use mathlib.Core.Path.{◌≡◌, refl, sym, ap, ◌∙◌}
use mathlib.Core.List.{List}
use Prim.Native.Nat.{ℕ, ◌≤◌, ◌<◌}
use native.Mathlib.Omega.{arith}
use borrow.Author.Tests.{ne_eqb}
use lib.Dec.{eqb}
use lib.ListN.{length, get_or, set, replicate, length-set, get_or-replicate}
use Rattle.lists.specs.Searched.{bit}
use Rattle.lists.specs.Inner.Tables.{entry, Wide}
use Rattle.lists.proofs.Sums.{sum_ext, sum_one}
use Rattle.lists.proofs.Tables.{row_same, row_other, wide_row}
use Rattle.grammar.specs.Inner.Rules.{count_in, words_in}
use Rattle.grammar.proofs.Ruling.{word_count_lem}
use Rattle.counting.specs.Inner.Letters.{any, weighed}
use Rattle.charts.specs.Inner.Letters.{letter_at, weight_by}
use Rattle.charts.specs.Inner.Maps.{row_at}
use Rattle.charts.specs.Inner.Filling.{word_count, word_times, leaf_sum, GrownAs, Clear, MadeAs, Makes}

abbrev pub zeros : List ℕ
zeros = replicate 32 0

module _ (before : List (List ℕ)) (row : ℕ) (inside : row < length before) where
  pub cleared : (A : ℕ) → A < 32 → entry (set before row zeros) row A ≡ 0
  cleared A h = ap (λ (l : List ℕ). get_or l A 0) (row_same before row zeros inside) ∙ get_or-replicate 32 A 0 0 h

  pub cleared_wide : Wide before 32 → Wide (set before row zeros) 32
  cleared_wide w = wide_row before 32 row zeros refl w

  -- what a row of zeros has grown to
  pub made : {count : ℕ} {f : ℕ → ℕ} {after : List (List ℕ)} {s : ℕ} → count ≤ 32 → GrownAs row count f (set before row zeros) after s
      → MadeAs row count f before after s
  made few g = record {
    long = g.long ∙ length-set before row zeros;
    wide = g.wide;
    here = λ A h. omega (arith, g.due A h, cleared A (omega arith));
    others = λ r n. g.others r n ∙ row_other before row zeros r n;
    zero = λ A h z. g.covers A h z ∙ cleared A h;
  }

pub made_ext : {row count : ℕ} {f h : ℕ → ℕ} {before after : List (List ℕ)} {s : ℕ} → ((A : ℕ) → A < count → f A ≡ h A)
    → MadeAs row count f before after s → MadeAs row count h before after s
made_ext e g = record { long = g.long; wide = g.wide; here = λ A u. g.here A u ∙ e A u; others = g.others; zero = g.zero }

-- ---- a single position

module _ {rules map : List (List ℕ)} {p old : ℕ} {before : List (List ℕ)} (q : Makes rules map p 1 old before) where
  pub leaf_low : (letter_at map p ≡ any → ⊥) → letter_at map p < 256
  leaf_low n = omega (arith, q.letter)

  -- from the row of zeros on
  module _ (row : ℕ) (e : row ≡ row_at map p 1) {now : List (List ℕ)} (z : now ≡ set before row zeros) where
    inside : row < length before
    inside = omega (arith, q.inside)

    pub leaf_clear : Clear rules now row
    leaf_clear =
        rw z
        (record {
          table = q.table;
          linked = q.linked;
          wide = cleared_wide before row inside q.wide;
          inside = omega (arith, inside, length-set before row zeros);
          zeros = cleared before row inside;
        })

    leaf_made : {f h : ℕ → ℕ} {after : List (List ℕ)} {s : ℕ} → ((A : ℕ) → A < count_in rules → f A ≡ h A) → GrownAs row (count_in rules) f now after s
        → MadeAs (row_at map p 1) (count_in rules) h before after s
    leaf_made all g = rw e at (made_ext all (made before row inside q.table.few (rw z at g)))

    -- any word counts for 1
    pub leaf_any : letter_at map p ≡ any → {after : List (List ℕ)} {s : ℕ} → GrownAs row (count_in rules) (word_count rules) now after s
        → MadeAs (row_at map p 1) (count_in rules) (leaf_sum rules map p) before after s
    leaf_any x g = leaf_made all g
      where
        one : (w : ℕ) → weight_by rules map p w ≡ 1
        one w = rw x

        all : (A : ℕ) → A < count_in rules → word_count rules A ≡ leaf_sum rules map p A
        all A h =
            sym (sum_ext (weight_by rules map p) (λ w. 1) (words_in rules A) (λ w m. one w) ∙ sum_one (words_in rules A) ∙ word_count_lem rules A)

    -- one word does
    pub leaf_word : (letter_at map p ≡ any → ⊥) → {after : List (List ℕ)} {s : ℕ} → GrownAs row (count_in rules) (word_times rules (letter_at map p)) now after s
        → MadeAs (row_at map p 1) (count_in rules) (leaf_sum rules map p) before after s
    leaf_word n g = leaf_made all g
      where
        one : (w : ℕ) → bit (eqb (letter_at map p) w) ≡ weight_by rules map p w
        one w = rw (ne_eqb (letter_at map p) any n, ne_eqb (letter_at map p) weighed (λ z. omega (arith, leaf_low n)))

        all : (A : ℕ) → A < count_in rules → word_times rules (letter_at map p) A ≡ leaf_sum rules map p A
        all A h = sum_ext (λ w. bit (eqb (letter_at map p) w)) (weight_by rules map p) (words_in rules A) (λ w m. one w)
