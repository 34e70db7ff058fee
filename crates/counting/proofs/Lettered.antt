-- What a word counts for, letter by letter; what a nonterminal's words count for together; and what those before one weigh.
-- Assumes nothing.
use mathlib.Core.Path.{◌≡◌, refl, sym, ap, ◌∙◌}
use mathlib.Core.List.{List, []}
use Prim.Native.Nat.{ℕ, ◌+◌, ◌≤◌, ◌<◌}
use native.Mathlib.Omega.{arith}
use borrow.Author.Tests.{eq-eqb, ne_eqb}
use lib.Dec.{eqb}
use lib.ListN.{length, get_or, take}
use Rattle.lists.specs.Joined.{sum_over}
use Rattle.lists.specs.Searched.{bit}
use Rattle.lists.specs.Inner.Tables.{entry}
use Rattle.lists.proofs.Sums.{sum_ext, sum_one}
use Rattle.grammar.specs.Inner.Rules.{word_from, count_in, words_in}
use Rattle.grammar.proofs.Kept.{words_kept}
use Rattle.counting.specs.Inner.Letters.{any, weighed, by_letter, before_at, Summed}

module _ (rules : List (List ℕ)) where
  pub by_any : (x w : ℕ) → x ≡ any → by_letter rules x w ≡ 1
  by_any x w e = rw e refl

  pub by_weight : (x w : ℕ) → x ≡ weighed → by_letter rules x w ≡ entry rules 13 w
  by_weight x w e = rw e refl

  pub by_word : (x w : ℕ) → (x ≡ any → ⊥) → (x ≡ weighed → ⊥) → by_letter rules x w ≡ bit (eqb x w)
  by_word x w f g = rw (ne_eqb x weighed g, ne_eqb x any f)

  pub by_same : (x w : ℕ) → (x ≡ any → ⊥) → (x ≡ weighed → ⊥) → x ≡ w → by_letter rules x w ≡ 1
  by_same x w f g e = by_word x w f g ∙ ap bit (eq-eqb x w e)

  pub letter_ones : (x : ℕ) → x ≡ any → (l : List ℕ) → sum_over (by_letter rules x) l ≡ length l
  letter_ones x e l = sum_ext (by_letter rules x) (λ w. 1) l (λ w m. by_any x w e) ∙ sum_one l

  pub letter_weights : (x : ℕ) → x ≡ weighed → (l : List ℕ) → sum_over (by_letter rules x) l ≡ sum_over (entry rules 13) l
  letter_weights x e l = sum_ext (by_letter rules x) (entry rules 13) l (λ w m. by_weight x w e)

-- a table with the words and the weights of another is summed up if it has the sums of those
pub summed_by : (rules : List (List ℕ)) {after : List (List ℕ)} → 16 ≤ length after → ((r : ℕ) → r < 4 → get_or after r [] ≡ get_or rules r []) → get_or after 13 [] ≡ get_or rules 13 []
    → ((a i : ℕ) → a < count_in rules → i < length (words_in rules a) → before_at after (word_from rules a + i) ≡ sum_over (entry rules 13) (take i (words_in rules a)))
    → Summed after
summed_by rules {after} long same weights is =
    let begins : get_or after 3 [] ≡ get_or rules 3 [] = same 3 (omega arith) in
    record {
      long = long;
      before = λ a i l h.
          let words = words_kept rules after same a in
          ap (λ (b : List ℕ). before_at after (get_or b a 0 + i)) begins
          ∙ is a i (rw begins at l) (rw words at h)
          ∙ sym (ap (λ (b : List ℕ). sum_over (λ w. get_or b w 0) (take i (words_in after a))) weights ∙ ap (λ (b : List ℕ). sum_over (entry rules 13) (take i b)) words);
    }
