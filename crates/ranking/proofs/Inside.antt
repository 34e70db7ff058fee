-- What the table of an accepted grammar's rules says is what document 01 says of the grammar: T, the sentence with a number, how many
-- derivations a sentence has and where the first one stands.
-- Assumes nothing.
use mathlib.Core.Path.{◌≡◌, sym, ap, ◌∙◌}
use mathlib.Core.List.{List, [], map}
use Prim.Native.Nat.{ℕ, ◌<◌}
use native.Mathlib.Omega.{arith}
use lib.ListN.{length, get_or}
use Rattle.lists.specs.Searched.{bit, same}
use Rattle.lists.proofs.Sums.{sum_map}
use Rattle.lists.proofs.Places.{get_d_map}
use Rattle.lists.proofs.Searches.{place_map}
use Rattle.grammar.specs.Layout.{start}
use Rattle.grammar.specs.Chains.{chain}
use Rattle.grammar.specs.Trees.{leaf, sentence}
use Rattle.grammar.specs.Inner.Rules.{start_in, ruled, Holds}
use Rattle.counting.specs.Inner.Sentences.{sentences}
use Rattle.counting.proofs.Counts.{T_sentences, T_length}
use Rattle.counting.proofs.Tabled.{tabled_sentences}
use Rattle.ranking.specs.Answers.{full_list, total_of, entry_of, readings_of, number_of}
use Rattle.ranking.specs.Inner.Inside.{full_in, total_in, entry_in, readings_in, number_in}

-- the sentence of entry d
pub entry_of_lem : (g : List ℕ) (n d : ℕ) → d < total_of g n → get_or (sentences (chain g) (start g) n) d [] ≡ entry_of g n d
unfolding sentences
entry_of_lem g n d l = get_d_map sentence (full_list g n) d (leaf 0 0) [] (omega (arith, T_length (chain g) (start g) n))

module _ {g : List ℕ} {rules : List (List ℕ)} (h : Holds g rules) where
  -- the full list's sentences
  pub full_is : (n : ℕ) → full_in rules n ≡ map sentence (full_list g n)
  unfolding sentences
  full_is n = rw h.start_is (sym (tabled_sentences h (start g) n (rw (← h.start_is, ← h.count_is) h.table.starts)))

  listed : (n : ℕ) → length (map sentence (full_list g n)) ≡ total_of g n
  unfolding sentences
  listed n = sym (T_sentences (chain g) (start g) n)

  pub total_is : (n : ℕ) → total_in rules n ≡ total_of g n
  total_is n = T_sentences (ruled rules) (start_in rules) n ∙ ap length (full_is n) ∙ listed n

  pub entry_is : (n d : ℕ) → d < total_of g n → entry_in rules n d ≡ entry_of g n d
  unfolding sentences
  entry_is n d l = ap (λ (s : List (List ℕ)). get_or s d []) (full_is n) ∙ entry_of_lem g n d l

  pub readings_are : (s : List ℕ) → readings_in rules s ≡ readings_of g s
  readings_are s = rw (full_is (length s)) (sum_map sentence (λ u. bit (same u s)) (full_list g (length s)))

  pub number_is : (s : List ℕ) → number_in rules s ≡ number_of g s
  number_is s = rw (full_is (length s)) (place_map (λ u. same u s) sentence (full_list g (length s)))
