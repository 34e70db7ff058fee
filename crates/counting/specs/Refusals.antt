-- When a grammar and a length are refused (document 01, section 'Why a call says no', 1 to 8, 9 and 10), and which totals must fit in 64 bits.
-- Assumes nothing: these are definitions.
use Rattle.std.specs.Prelude.{◌≡◌, ◌↔◌, Bool, true, List, [], ◌∷◌, ◌++◌, ℕ, ◌≤◌, ◌<◌, ltb}
use Rattle.lists.specs.Joined.{◌∈◌}
use Rattle.lists.specs.Searched.{some_of, some_below, some_to}
use Rattle.answers.specs.Answer.{Row}
use Rattle.answers.specs.Length.{bad_length}
use Rattle.grammar.specs.Layout.{nonterminals, start}
use Rattle.grammar.specs.Chains.{Rule, chain}
use Rattle.grammar.specs.Refusals.{grammar_rows}
use Rattle.counting.specs.Totals.{total, T}
use Rattle.counting.specs.Needed.{Needed, needed_pairs}

-- the largest number of 64 bits
abbrev pub most : ℕ
most = 18446744073709551615

-- which totals must fit in 64 bits: those of the needed pairs
abbrev pub AllFit : (rules : ℕ → List Rule) (v : ℕ → ℕ → ℕ) (S n : ℕ) → Type 0
AllFit rules v S n = (A m : ℕ) → Needed rules S n A m → total rules v 0 A m ≤ most

-- some of them is above that
unfoldable pub overflows : (rules : ℕ → List Rule) (v : ℕ → ℕ → ℕ) (S n : ℕ) → Bool
overflows rules v S n = some_of (λ (x : ℕ × ℕ). ltb most (total rules v 0 x.0 x.1)) (needed_pairs rules S n)

-- "10 applies exactly if the count of a needed pair is above 2^64 - 1" (document 02, U2)
unfoldable pub too_large : List ℕ → ℕ → Bool
too_large g n = overflows (chain g) (λ p w. 1) (start g) n

-- What 10 comes to, and that the list by which it is tested holds just the needed pairs: the texts of both need not be read.
pub record Ten (g : List ℕ) (n : ℕ) : Type 0 where
  pub listed : (x : ℕ × ℕ) → (x ∈ needed_pairs (chain g) (start g) n) ↔ Needed (chain g) (start g) n x.0 x.1
  pub applies : (too_large g n ≡ true) ↔ ((A : ℕ) × (m : ℕ) × Needed (chain g) (start g) n A m × (most < T (chain g) A m))

-- the lines 1 to 8 and 9, in their order
abbrev pub open_rows : List ℕ → ℕ → List Row
open_rows g n = grammar_rows g ++ ((bad_length n, 9) ∷ [])

-- and 10
abbrev pub prepared_rows : List ℕ → ℕ → List Row
prepared_rows g n = open_rows g n ++ ((too_large g n, 10) ∷ [])

-- ---- before document 02's U2

-- "10. T(A, m) is above 2^64 - 1 for some nonterminal A and some m from 1 to the length"
unfoldable pub former_too_large : List ℕ → ℕ → Bool
former_too_large g n = some_to (λ m. some_below (λ A. ltb most (T (chain g) A m)) (nonterminals g)) n
