-- What the table holds once 8 is passed: the walk of the chains has left each nonterminal's rules between two beginnings, each of them
-- fits, and no word is twice on one chain.
-- Assumes nothing.
use mathlib.Core.Path.{◌≡◌}
use mathlib.Core.Bool.{false}
use mathlib.Core.List.{List}
use Prim.Native.Nat.{ℕ, ◌<◌}
use native.Mathlib.Omega.{arith}
use Rattle.grammar.specs.Layout.{nonterminals, words, start, head_of}
use Rattle.grammar.specs.Chains.{chain}
use Rattle.grammar.specs.Refusals.{repeated}
use Rattle.grammar.specs.Inner.Checks.{Readable}
use Rattle.grammar.specs.Inner.Rules.{word_at, left_at, right_at, word_from, pair_from, Holds}
use Rattle.grammar.specs.Inner.Entering.{Sorted}
use Rattle.grammar.proofs.Walks.{readable_inside, words_∈, pairs_∈}
use Rattle.grammar.proofs.Ruling.{holder, word_listed, pair_listed}
use Rattle.grammar.proofs.Repeats.{words_once}

module _ {g : List ℕ} {t : List (List ℕ)} (ok : Readable g) (s : Sorted g t) where
  word_fits : (i : ℕ) → i < word_from t (nonterminals g) → word_at t i < words g
  word_fits i h =
      let q = holder (word_from t) 0 (nonterminals g) i (omega (arith, s.word_first)) h (omega arith) in
      let m = rw (s.words_are q.0 q.2) at (word_listed t q.0 i q.3 q.4) in
      readable_inside g ok (head_of g q.0) (words_∈ (chain g q.0) m)

  pair_fits : (i : ℕ) → i < pair_from t (nonterminals g) → (left_at t i < nonterminals g) × (right_at t i < nonterminals g)
  pair_fits i h =
      let q = holder (pair_from t) 0 (nonterminals g) i (omega (arith, s.pair_first)) h (omega arith) in
      let m = rw (s.pairs_are q.0 q.2) at (pair_listed t q.0 i q.3 q.4) in
      readable_inside g ok (head_of g q.0) (pairs_∈ (chain g q.0) m)

  pub sorted_holds : start g < nonterminals g → repeated g ≡ false → Holds g t
  sorted_holds inside apart = record {
    table =
        record {
          long = s.roomy.long;
          wide = s.roomy.wide;
          few = rw s.count_is ok.sized.few;
          starts = rw (s.start_is, s.count_is) inside;
          width = rw s.width_is ok.words_low;
          word_low = λ a h. s.word_low a (rw s.count_is at h);
          word_rises = λ a h. s.word_rises a (rw s.count_is at h);
          pair_low = λ a h. s.pair_low a (rw s.count_is at h);
          pair_rises = λ a h. s.pair_rises a (rw s.count_is at h);
          word_first = s.word_first;
          pair_first = s.pair_first;
          words_low = λ i h. rw s.width_is (word_fits i (rw s.count_is at h));
          lefts = λ i h. rw s.count_is (pair_fits i (rw s.count_is at h)).0;
          rights = λ i h. rw s.count_is (pair_fits i (rw s.count_is at h)).1;
          once = λ a x h.
              let l = rw s.count_is at h in
              rw (s.words_are a l) (words_once g ok apart a l x);
        };
    count_is = s.count_is;
    start_is = s.start_is;
    width_is = s.width_is;
    words_are = s.words_are;
    pairs_are = s.pairs_are;
  }
