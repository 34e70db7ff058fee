-- The row of any word, nonterminal after nonterminal: what the row has, with the words of the nonterminals from a on, comes to the words of each.
-- Assumes nothing.
use mathlib.Core.Path.{◌≡◌, sym, ap, ◌∙◌}
use mathlib.Core.Bool.{Bool, true, false, cond, ◌||◌}
use mathlib.Core.List.{List}
use Prim.Native.Nat.{ℕ, ◌+◌, ◌≤◌, ◌<◌}
use native.Mathlib.Omega.{arith}
use native.Mathlib.Decide.{ℕ_discrete, dec_le}
use borrow.Author.Tests.{eq-eqb, ne_eqb, le-leb, lt-leb}
use lib.Dec.{eqb, leb}
use lib.ListN.{length}
use Rattle.lists.specs.Inner.Tables.{entry, put}
use Rattle.sets.specs.Inner.Sets.{member}
use Rattle.grammar.specs.Inner.Rules.{count_in}
use Rattle.charts.specs.Inner.Filling.{word_count, Growing, GrownAs, Clear}
use Rattle.charts.proofs.Growing.{growing_start, growing_end, growing_same, growing_put}

-- before the nonterminal a
abbrev pub WordsFrom : (rules : List (List ℕ)) (row : ℕ) (before now : List (List ℕ)) (s a : ℕ) → Type 0
WordsFrom rules row before now s a =
    Growing row (count_in rules) (word_count rules) before now (λ A. cond (leb a A) (word_count rules A) 0) s

-- a's own, and those from the next on
from_next : (x a A : ℕ) → cond (leb a A) x 0 ≡ cond (eqb a A) x 0 + cond (leb (a + 1) A) x 0
from_next x a A =
    elim (ℕ_discrete a A) [
      | yes e ↦ rw (le-leb a A (omega arith), eq-eqb a A e, lt-leb (a + 1) A (omega arith)) (omega arith)
      | no e ↦
          elim (dec_le a A) [
            | yes l ↦ rw (le-leb a A l, ne_eqb a A e, le-leb (a + 1) A (omega arith)) (omega arith)
            | no l ↦ rw (lt-leb a A (omega arith), ne_eqb a A e, lt-leb (a + 1) A (omega arith)) (omega arith)
          ]
    ]

module _ {rules before : List (List ℕ)} {row : ℕ} (q : Clear rules before row) where
  pub words_start : {s : ℕ} → WordsFrom rules row before before s 0
  words_start = growing_start q.wide (λ A h. rw (le-leb 0 A (omega arith)))

  module _ {now : List (List ℕ)} {s : ℕ} (a : ℕ) (w : WordsFrom rules row before now s a) where
    pub words_end : count_in rules ≤ a → GrownAs row (count_in rules) (word_count rules) before now s
    words_end h = growing_end w (λ A u. rw (lt-leb a A (omega arith)))

    pub words_room : row < length now
    words_room = omega (arith, q.inside, w.long)

    module _ (h : a < count_in rules) where
      pub words_low : a < 32
      words_low = omega (arith, q.table.few)

      own : (A : ℕ) → cond (leb a A) (word_count rules A) 0 ≡ cond (eqb a A) (word_count rules a) 0 + cond (leb (a + 1) A) (word_count rules A) 0
      own A = from_next (word_count rules A) a A ∙ ap (λ (x : ℕ). x + cond (leb (a + 1) A) (word_count rules A) 0) (swap (ℕ_discrete a A))
        where
          swap : Dec (a ≡ A) → cond (eqb a A) (word_count rules A) 0 ≡ cond (eqb a A) (word_count rules a) 0
          swap (yes e) = rw e
          swap (no e) = rw (ne_eqb a A e)

      pub words_step : {s' : ℕ} {after : List (List ℕ)} (v : ℕ) → v ≡ word_count rules a → after ≡ put now row a v
          → ((b : ℕ) → member s' b ≡ (member s b || eqb a b)) → WordsFrom rules row before after s' (a + 1)
      words_step v ev ea m =
          let z : entry now row a + word_count rules a ≡ v
          = omega (arith, rw (le-leb a a (omega arith)) at (w.due a h), q.zeros a words_low) in
          rw (ea, ← z) (growing_put w a (word_count rules a) words_low words_room (λ A u. own A) m)

      pub words_skip : {after : List (List ℕ)} (v : ℕ) → v ≡ word_count rules a → v ≡ 0 → after ≡ now → WordsFrom rules row before after s (a + 1)
      words_skip v ev z ea = rw ea (growing_same w (λ A u. own A ∙ rw (sym ev ∙ z) (none (cond (leb (a + 1) A) (word_count rules A) 0) (eqb a A))))
        where
          none : (x : ℕ) (t : Bool) → cond t 0 0 + x ≡ x
          none x true = omega arith
          none x false = omega arith
