-- What a walk down from a nonterminal asks and gives back: with the choice weight v and the measure weight u, each by position and word, the
-- sentence that owns a ticket, its place, what it measures and weighs, and its offset.
-- Assumes nothing: these are definitions.
use Rattle.std.specs.Prelude.{◌≡◌, List, ◌++◌, ℕ, ◌+◌, ◌*◌, ◌-◌, ◌≤◌, ◌<◌}
use Rattle.lists.specs.Joined.{◌∈◌, combine}
use Rattle.grammar.specs.Chains.{Rule, pairs_of}
use Rattle.counting.specs.Totals.{total}
use Rattle.counting.specs.Inner.Sentences.{sentences, weight, split_list}
use Rattle.lists.specs.Inner.Tickets.{Owns}
use Rattle.lists.specs.Inner.Parts.{Part}

module _ (rules : ℕ → List Rule) where
  -- the sentences of m words that B and C make with left length k
  abbrev pub halves : (B C k m : ℕ) → List (List ℕ)
  halves B C k m = combine ◌++◌ (sentences rules B k) (sentences rules C (m - k))

  -- what they weigh together
  abbrev pub halves_total : (v : ℕ → ℕ → ℕ) (B C p m k : ℕ) → ℕ
  halves_total v B C p m k = total rules v p B k * total rules v (p + k) C (m - k)

  -- those of all left lengths
  abbrev pub rule_sentences : (B C m : ℕ) → List (List ℕ)
  rule_sentences B C m = split_list (sentences rules) B C 1 (m - 1)

-- `rest` is a ticket of two halves
pub record InHalves (rules : ℕ → List Rule) (v : ℕ → ℕ → ℕ) (B C p m k rest : ℕ) : Type 0 where
  pub inside : rest < halves_total rules v B C p m k

module _ (rules : ℕ → List Rule) (v u : ℕ → ℕ → ℕ) where
  -- of A and m, the first word at the position p, the sentence that owns the ticket t
  pub record OwnedAs (A p m t : ℕ) (words : List ℕ) (place measure weighs offset : ℕ) : Type 0 where
    pub owns : Owns (weight v p) (weight u p) (sentences rules A m) t words place offset
    pub measure_is : measure ≡ weight u p words
    pub weighs_is : weighs ≡ weight v p words

  -- of the sentences that B and C make with left length k, the one that owns the ticket `rest`
  pub record HalvesAs (B C p m k rest : ℕ) (words : List ℕ) (place measure weighs offset : ℕ) : Type 0 where
    pub owns : Owns (weight v p) (weight u p) (halves rules B C k m) rest words place offset
    pub measure_is : measure ≡ weight u p words
    pub weighs_is : weighs ≡ weight v p words

  -- the pair rule and the left length that hold the ticket t, what stands before them, and the ticket there
  pub record ChosenAs (A p m t B C k before rest : ℕ) : Type 0 where
    pub rule : (B, C) ∈ pairs_of (rules A)
    pub some : 1 ≤ k
    pub short : k < m
    pub part : Part (weight v p) (weight u p) (sentences rules A m) (halves rules B C k m) t before rest
