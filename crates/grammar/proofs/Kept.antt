-- A table with the same first four rows holds the same rules.
-- Assumes nothing.
use mathlib.Core.Path.{◌≡◌, ap, fun_ext, ◌∙◌}
use mathlib.Core.List.{List, [], map}
use Prim.Native.Nat.{ℕ, ◌+◌, ◌-◌, ◌≤◌, ◌<◌}
use native.Mathlib.Omega.{arith}
use lib.ListN.{length, get_or}
use Rattle.lists.specs.Joined.{up_from}
use Rattle.lists.specs.Inner.Tables.{Wide}
use Rattle.grammar.specs.Inner.Rules.{words_in, pairs_in, ruled, Ruled}

-- the words and the pair rules, by the rows that have them
abbrev words_by : (ws begins : List ℕ) → ℕ → List ℕ
words_by ws begins a = map (λ i. get_or ws i 0) (up_from (get_or begins a 0) (get_or begins (a + 1) 0 - get_or begins a 0))

abbrev pairs_by : (ls rs begins : List ℕ) → ℕ → List (ℕ × ℕ)
pairs_by ls rs begins a =
    map (λ i. (get_or ls i 0, get_or rs i 0)) (up_from (get_or begins (64 + a) 0) (get_or begins (64 + (a + 1)) 0 - get_or begins (64 + a) 0))

module _ (t s : List (List ℕ)) (same : (q : ℕ) → q < 4 → get_or s q [] ≡ get_or t q []) (a : ℕ) where
  pub words_kept : words_in s a ≡ words_in t a
  unfolding words_in
  words_kept =
      ap (λ (l : List ℕ). words_by l (get_or s 3 []) a) (same 0 (omega arith)) ∙ ap (λ (l : List ℕ). words_by (get_or t 0 []) l a) (same 3 (omega arith))

  pub pairs_kept : pairs_in s a ≡ pairs_in t a
  unfolding pairs_in
  pairs_kept =
      ap (λ (l : List ℕ). pairs_by l (get_or s 2 []) (get_or s 3 []) a) (same 1 (omega arith))
      ∙ ap (λ (l : List ℕ). pairs_by (get_or t 1 []) l (get_or s 3 []) a) (same 2 (omega arith))
      ∙ ap (λ (l : List ℕ). pairs_by (get_or t 1 []) (get_or t 2 []) l a) (same 3 (omega arith))

-- so what totals and sentences are asked of is the same
pub ruled_same : (t s : List (List ℕ)) → ((q : ℕ) → q < 4 → get_or s q [] ≡ get_or t q []) → ruled s ≡ ruled t
unfolding ruled
ruled_same t s same = fun_ext (λ a. rw (words_kept t s same a, pairs_kept t s same a))

pub ruled_kept : {t s : List (List ℕ)} → 4 ≤ length s → Wide s 256 → ((q : ℕ) → q < 4 → get_or s q [] ≡ get_or t q []) → Ruled t → Ruled s
ruled_kept {t} {s} long wide same r =
    let e₀ : get_or s 0 [] ≡ get_or t 0 [] = same 0 (omega arith) in
    let e₁ : get_or s 1 [] ≡ get_or t 1 [] = same 1 (omega arith) in
    let e₂ : get_or s 2 [] ≡ get_or t 2 [] = same 2 (omega arith) in
    let e₃ : get_or s 3 [] ≡ get_or t 3 [] = same 3 (omega arith) in
    record {
      long = long;
      wide = wide;
      few = rw e₃ r.few;
      starts = rw e₃ r.starts;
      width = rw e₃ r.width;
      word_low = rw e₃ r.word_low;
      word_rises = rw e₃ r.word_rises;
      pair_low = rw e₃ r.pair_low;
      pair_rises = rw e₃ r.pair_rises;
      word_first = rw e₃ r.word_first;
      pair_first = rw e₃ r.pair_first;
      words_low = rw (e₀, e₃) r.words_low;
      lefts = rw (e₁, e₃) r.lefts;
      rights = rw (e₂, e₃) r.rights;
      once = λ a x h. rw (words_kept t s same a) (r.once a x (rw e₃ at h));
    }
