-- What *Give* and *Number* answer.
-- Assumes nothing: these are definitions.
use Rattle.std.specs.Prelude.{Bool, List, [], ◌∷◌, ◌++◌, ℕ, length, get_or, drop, ltb, leb, eqb}
use Rattle.lists.specs.Searched.{how_many, first_place, same}
use Rattle.answers.specs.Answer.{Row, Answer, answer}
use Rattle.grammar.specs.Layout.{start}
use Rattle.grammar.specs.Chains.{chain}
use Rattle.grammar.specs.Trees.{Tree, leaf, sentence}
use Rattle.grammar.specs.FullList.{trees}
use Rattle.counting.specs.Totals.{T}
use Rattle.counting.specs.Refusals.{prepared_rows}

-- the full list of the start symbol and a length
abbrev pub full_list : List ℕ → ℕ → List Tree
full_list g n = trees (chain g) (start g) n

-- T(S, n)
abbrev pub total_of : List ℕ → ℕ → ℕ
total_of g n = T (chain g) (start g) n

-- ---- *Give*

-- the sentence with derivation number d: that of the full list's entry d
abbrev pub entry_of : List ℕ → ℕ → ℕ → List ℕ
entry_of g n d = sentence (get_or (full_list g n) d (leaf 0 0))

-- "16. The number is T or more (*Give*)", "20. The sentence buffer is shorter than the length (*Give*, *Draw*)."
abbrev pub unrank_rows : (g : List ℕ) (n d : ℕ) (out : List ℕ) → List Row
unrank_rows g n d out = prepared_rows g n ++ ((leb (total_of g n) d, 16) ∷ (ltb (length out) n, 20) ∷ [])

-- "*Give* (bank, length, derivation number, buffer) writes that sentence into the buffer's first bytes and gives T."
unfoldable pub unrank_of : (g : List ℕ) (n d : ℕ) (out : List ℕ) → Answer
unrank_of g n d out = answer (unrank_rows g n d out) (total_of g n ∷ []) out (entry_of g n d ++ drop n out)

-- ---- *Number*

-- the derivation has the sentence s
abbrev pub derives : List ℕ → Tree → Bool
derives s t = same (sentence t) s

-- how many derivations of S the sentence has
abbrev pub readings_of : (g s : List ℕ) → ℕ
readings_of g s = how_many (derives s) (full_list g (length s))

-- how many derivations stand before the sentence's first one: the lowest derivation number among its derivations
abbrev pub number_of : (g s : List ℕ) → ℕ
number_of g s = first_place (derives s) (full_list g (length s))

-- "17. The sentence has no derivation from S (*Number*)." 18 is no line any more (document 02, U6).
abbrev pub rank_rows : (g s : List ℕ) → List Row
rank_rows g s = prepared_rows g (length s) ++ ((eqb (readings_of g s) 0, 17) ∷ [])

-- "Beside T, Number now gives how many derivations the sentence has and the lowest derivation number among them." (document 02, U6)
unfoldable pub rank_of : (g s : List ℕ) → Answer
rank_of g s = answer (rank_rows g s) (number_of g s ∷ total_of g (length s) ∷ readings_of g s ∷ []) [] []
