-- When a grammar is accepted (document 01, section 'Why a call says no', 1 to 8).
-- Assumes nothing: these are definitions.
use Rattle.std.specs.Prelude.{◌≡◌, Bool, false, not, ◌&&◌, ◌||◌, List, [], ◌∷◌, ℕ, zero, suc, length, ltb, leb, eqb}
use Rattle.lists.specs.Searched.{within, some_of, some_below, some_to, times}
use Rattle.answers.specs.Answer.{Row, first_that_applies}
use Rattle.grammar.specs.Layout.{nonterminals, words, rules, start, head_of, kind_of, a_of, b_of, next_of, size_of}
use Rattle.grammar.specs.Chains.{chain_numbers, met}

-- "1. The bank has fewer than 4 bytes."
unfoldable pub too_short : List ℕ → Bool
too_short g = ltb (length g) 4

-- "2. N, W, R or S is outside its range."
unfoldable pub out_of_range : List ℕ → Bool
out_of_range g =
    not (within 1 32 (nonterminals g)) || (not (within 1 255 (words g)) || (not (within 1 255 (rules g)) || not (ltb (start g) (nonterminals g))))

-- "3. The bank's size is not 4 + N + 4R."
unfoldable pub wrong_size : List ℕ → Bool
wrong_size g = not (eqb (length g) (size_of g))

-- "A word rule has a below W and b = 0. A pair rule has nonterminals a and b below N." There is no other kind.
unfoldable pub fits : (N W kind a b : ℕ) → Bool
fits N W zero a b = ltb a W && eqb b 0
fits N W (suc zero) a b = ltb a N && ltb b N
fits N W (suc (suc kind)) a b = false

abbrev pub misfit : List ℕ → ℕ → Bool
misfit g r = not (fits (nonterminals g) (words g) (kind_of g r) (a_of g r) (b_of g r))

-- "4. Some rule has a kind, a or b that its layout forbids."
unfoldable pub bad_rule : List ℕ → Bool
bad_rule g = some_to (misfit g) (rules g)

abbrev pub head_above : List ℕ → ℕ → Bool
head_above g A = ltb (rules g) (head_of g A)

abbrev pub next_above : List ℕ → ℕ → Bool
next_above g r = ltb (rules g) (next_of g r)

-- "5. Some head or next in the bank is above R."
unfoldable pub bad_link : List ℕ → Bool
bad_link g = some_below (head_above g) (nonterminals g) || some_to (next_above g) (rules g)

-- "6. A rule is met a second time, walking the chains from nonterminal 0 up."
unfoldable pub met_twice : List ℕ → Bool
met_twice g = some_to (λ r. leb 2 (times r (met g))) (rules g)

-- "7. A rule is on no chain."
unfoldable pub on_no_chain : List ℕ → Bool
on_no_chain g = some_to (λ r. eqb (times r (met g)) 0) (rules g)

-- the rules r and s have the same kind, a and b
abbrev pub alike : List ℕ → ℕ → ℕ → Bool
alike g r s = eqb (kind_of g r) (kind_of g s) && (eqb (a_of g r) (a_of g s) && eqb (b_of g r) (b_of g s))

-- among the rules listed, two are alike
unfoldable pub some_alike : List ℕ → List ℕ → Bool
some_alike g [] = false
some_alike g (r ∷ l) = some_of (alike g r) l || some_alike g l

-- "8. One chain holds two rules with the same kind, a and b."
unfoldable pub repeated : List ℕ → Bool
repeated g = some_below (λ A. some_alike g (chain_numbers g A)) (nonterminals g)

-- the lines 1 to 8, in their order
abbrev pub grammar_rows : List ℕ → List Row
grammar_rows g =
    (too_short g, 1)
    ∷ (out_of_range g, 2)
    ∷ (wrong_size g, 3)
    ∷ (bad_rule g, 4)
    ∷ (bad_link g, 5)
    ∷ (met_twice g, 6)
    ∷ (on_no_chain g, 7)
    ∷ (repeated g, 8)
    ∷ []

-- 0, or the first of 1 to 8 that applies
abbrev pub grammar_refusal : List ℕ → ℕ
grammar_refusal g = first_that_applies (grammar_rows g)

-- "An accepted bank is one to which none of 1 to 8 below applies"
abbrev pub Accepted : List ℕ → Type 0
Accepted g = grammar_refusal g ≡ 0
