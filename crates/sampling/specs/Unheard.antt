-- The full list with derivation numbers and the unheard list (document 01, section 'The draws as one list'), and the heard sentences
-- that *Left* counts, each in the voice that is asked for. They come from the bytes of grammar and history, not from T and not from any call's
-- answer.
-- Assumes nothing: these are definitions.
use Rattle.std.specs.Prelude.{◌≡◌, ◌↔◌, Bool, true, cond, not, ◌&&◌, List, [], ◌∷◌, ℕ, suc, ◌-◌, ◌≤◌, length, get_or, leb, eqb}
use Rattle.lists.specs.Searched.{how_many, some_of, same, keep}
use Rattle.grammar.specs.Trees.{Tree, sentence}
use Rattle.ranking.specs.Answers.{full_list, readings_of, rank_of}
use Rattle.history.specs.Heard.{sentences_in, heard}
use Rattle.sampling.specs.Pattern.{matches}
use Rattle.sampling.specs.Question.{Question}

-- a derivation with its derivation number
pub record Entry : Type 0 where
  pub number : ℕ
  pub tree : Tree

-- each derivation listed with its number, the first of them d
abbrev pub entries_from : (d : ℕ) → List Tree → List Entry
entries_from d [] = []
entries_from d (t ∷ l) = record { number = d; tree = t } ∷ entries_from (suc d) l

-- the derivation's sentence is unheard in the voice v: outside the diary
abbrev pub outside : (h : List ℕ) (v : ℕ) → Tree → Bool
outside h v t = not (heard h v (sentence t))

-- the derivation's sentence fits the pattern, where there is one
abbrev pub suits : (a : Question) → Tree → Bool
suits a t = matches a.pattern (sentence t)

-- "The full list holds every derivation of S with length n, each once, in the order above. Its entry d, counted from 0, so has derivation
-- number d. Strike each entry whose sentence is heard. What remains, in the same order, is the unheard list." With a pattern it covers "only what
-- fits" (document 02, U1).
unfoldable pub unheard : (g h : List ℕ) (a : Question) → List Entry
unheard g h a = keep (λ e. suits a e.tree && outside h a.voice e.tree) (entries_from 0 (full_list g a.length))

-- ---- what *Left* counts

-- "T counts the fitting derivations": without a pattern it is T(S, n)
unfoldable pub total_for : (g : List ℕ) (a : Question) → ℕ
total_for g a = how_many (suits a) (full_list g a.length)

-- the sentences listed, each once
abbrev pub distinct : List (List ℕ) → List (List ℕ)
distinct [] = []
distinct (s ∷ l) = cond (some_of (same s) l) (distinct l) (s ∷ distinct l)

-- the sentences of a history, in the voice, that have the length
abbrev pub of_length : (h : List ℕ) (a : Question) → List (List ℕ)
of_length h a = keep (λ s. eqb (length s) a.length) (sentences_in h a.voice)

-- "heard (distinct heard sentences of that length with one derivation)", and of "the sentences it counts without a pattern" the fitting ones
unfoldable pub heard_of : (g h : List ℕ) (a : Question) → ℕ
heard_of g h a = length (keep (matches a.pattern) (distinct (keep (λ s. eqb (readings_of g s) 1) (of_length h a))))

-- "left = T - heard"
abbrev pub left_of : (g h : List ℕ) (a : Question) → ℕ
left_of g h a = total_for g a - heard_of g h a

-- "15. A diary sentence of the named length has two or more derivations from S (*Left*, *Draw*)." It "reads only records of the given voice"
-- (document 02, U4), and "every diary sentence of that length", whatever the pattern (U1).
unfoldable pub ambiguous : (g h : List ℕ) (a : Question) → Bool
ambiguous g h a = some_of (λ s. leb 2 (readings_of g s)) (of_length h a)

-- how many derivations *Number* says that a sentence has: its third figure, 0 on a refusal
abbrev pub derivations_given : (g s : List ℕ) → ℕ
derivations_given g s = get_or (rank_of g s).figures 2 0

-- "Refusal 15 is returned for the same diaries, by way of the new figure." (document 02, U6)
abbrev pub Fifteen : (g h : List ℕ) (a : Question) → Type 0
Fifteen g h a = (ambiguous g h a ≡ true) ↔ ((s : List ℕ) × (length s ≡ a.length) × (heard h a.voice s ≡ true) × (2 ≤ derivations_given g s))
