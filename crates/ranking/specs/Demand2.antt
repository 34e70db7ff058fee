-- Demand 2 as one statement: counts, sentences and numbers are those of the grammar's derivation trees in document 01's order. Trees, their
-- sentences and their order are those of the grammar's specs/Trees.antt. T is a sum of products; `counted` says what it counts.
-- Assumes nothing: these are definitions.
use Rattle.std.specs.Prelude.{◌≡◌, ◌↔◌, ◌≢◌, List, [], ◌∷◌, ◌++◌, ℕ, ◌≤◌, length, take, drop}
use Rattle.lists.specs.Joined.{◌∈◌, At}
use Rattle.lists.specs.Ordered.{Pairwise, Exactly}
use Rattle.answers.specs.Answer.{given}
use Rattle.grammar.specs.Layout.{start}
use Rattle.grammar.specs.Chains.{chain, Chained}
use Rattle.grammar.specs.Refusals.{Accepted}
use Rattle.grammar.specs.Trees.{Tree, sentence, Derives, Before}
use Rattle.counting.specs.Totals.{T, Sums}
use Rattle.counting.specs.Answers.{count_of}
use Rattle.ranking.specs.Answers.{full_list, total_of, unrank_of, rank_of}

-- t is a derivation of S with length n
abbrev pub Derivation : (g : List ℕ) (n : ℕ) → Tree → Type 0
Derivation g n t = Derives (chain g) (start g) n t

-- "The derivation number is how many stand before it."
pub record HasNumber (g : List ℕ) (n : ℕ) (t : Tree) (d : ℕ) : Type 0 where
  pub derivation : Derivation g n t
  pub before : Exactly d (λ u. Derivation g n u × Before u t)

-- "The full list holds every derivation of S with length n, each once, in the order above. Its entry d, counted from 0, so has derivation
-- number d." These laws are what the list is; its text need not be read.
pub record FullList (g : List ℕ) (n : ℕ) : Type 0 where
  pub all : (t : Tree) → (t ∈ full_list g n) ↔ Derivation g n t
  pub ordered : Pairwise Before (full_list g n)
  pub number : (d : ℕ) (t : Tree) → At (full_list g n) d t → HasNumber g n t d

-- t is a derivation of the sentence s
abbrev pub Reading : (g s : List ℕ) → Tree → Type 0
Reading g s t = Derivation g (length s) t × (sentence t ≡ s)

-- "the lowest derivation number among them": d is that of t, the first of the sentence's derivations in document 01's order, and none has a lower one
pub record Lowest (g s : List ℕ) (t : Tree) (d : ℕ) : Type 0 where
  pub reading : Reading g s t
  pub number : HasNumber g (length s) t d
  pub first : (u : Tree) → Reading g s u → u ≢ t → Before t u
  pub none_lower : (u : Tree) (e : ℕ) → Reading g s u → HasNumber g (length s) u e → d ≤ e

-- t is a derivation of the sentence s, and there is no other
pub record OneDerivation (g s : List ℕ) (t : Tree) : Type 0 where
  pub derivation : Derivation g (length s) t
  pub says : sentence t ≡ s
  pub alone : (u : Tree) → Derivation g (length s) u → sentence u ≡ s → u ≡ t

pub record Demand2 (g : List ℕ) : Type 0 where
  -- the chains that derivations are made of, and the full list of them
  pub chained : Accepted g → Chained g
  pub listed : (n : ℕ) → FullList g n
  -- T is a sum of products; "T(A, m) is how many derivations there are", of every nonterminal and length; *Count* gives that of S where it isn't
  -- refused
  pub sums : Sums (chain g)
  pub counted : (A m : ℕ) → Exactly (T (chain g) A m) (Derives (chain g) A m)
  pub counts : (n : ℕ) → (count_of g n).refusal ≡ 0 → count_of g n ≡ given (total_of g n ∷ []) []
  -- *Give*, where it isn't refused, writes the sentence of the derivation that has the number d
  pub gives : (n d : ℕ) (out : List ℕ) → (unrank_of g n d out).refusal ≡ 0
      → (t : Tree) × HasNumber g n t d × (unrank_of g n d out ≡ given (total_of g n ∷ []) (sentence t ++ drop n out))
  -- *Number*, where it isn't refused, "gives how many derivations the sentence has and the lowest derivation number among them" (document 02, U6)
  pub numbers : (s : List ℕ) → (rank_of g s).refusal ≡ 0
      → (k : ℕ) × Exactly k (Reading g s) × (t : Tree) × (d : ℕ) × Lowest g s t d × (rank_of g s ≡ given (d ∷ total_of g (length s) ∷ k ∷ []) [])
  -- where T can be given, *Number* refuses with 17 a sentence without a derivation, and no other
  pub readings : (s : List ℕ) → (count_of g (length s)).refusal ≡ 0
      → (k : ℕ) × Exactly k (Reading g s) × (k ≡ 0 → (rank_of g s).refusal ≡ 17) × (1 ≤ k → (rank_of g s).refusal ≡ 0)
  -- with one derivation it gives the number of that one
  pub alone : (s : List ℕ) (t : Tree) → (count_of g (length s)).refusal ≡ 0 → OneDerivation g s t
      → (d : ℕ) × HasNumber g (length s) t d × (rank_of g s ≡ given (d ∷ total_of g (length s) ∷ 1 ∷ []) [])
  -- *Give* after *Number*: a sentence's number gives the sentence, however many derivations it has
  pub there : (s out : List ℕ) (d k : ℕ) → rank_of g s ≡ given (d ∷ total_of g (length s) ∷ k ∷ []) [] → length s ≤ length out
      → unrank_of g (length s) d out ≡ given (total_of g (length s) ∷ []) (s ++ drop (length s) out)
  -- *Number* after *Give*: a sentence that was given has at most the number that it was given by, and just that one unless it has a second derivation
  pub back : (n d : ℕ) (out s : List ℕ) → (unrank_of g n d out).refusal ≡ 0 → s ≡ take n (unrank_of g n d out).buffer
      → (e k : ℕ) × (e ≤ d) × (k ≡ 1 → e ≡ d) × (rank_of g s ≡ given (e ∷ total_of g n ∷ k ∷ []) [])
