-- What the checks ask of each other and promise, by name. Nothing of this is needed to read what *Check bank* answers.
-- Assumes nothing: these are definitions.
use Rattle.std.specs.Prelude.{◌≡◌, Bool, true, false, cond, Result, Ok, Err, List, map, ℕ, ◌+◌, ◌*◌, ◌-◌, ◌≤◌, ◌<◌, length, get_or}
use Rattle.lists.specs.Joined.{◌∈◌, up_from}
use Rattle.lists.specs.Searched.{some_to, repeats}
use Rattle.answers.specs.declared.refusal.Refusal.{Refusal}
use Rattle.answers.specs.declared.refusal.Refusal.TheVariants.{GrammarBadRule, GrammarBadLink}
use Rattle.grammar.specs.Layout.{nonterminals, words, rules}
use Rattle.grammar.specs.Refusals.{bad_rule, next_above}
use Rattle.grammar.specs.Inner.Rules.{word_at, word_from, pair_from}
use Rattle.grammar.specs.Inner.Links.{both_at}

-- the bytes have n nonterminals and r rules, as few as is allowed, and the size that is right for them
pub record Sized (g : List ℕ) (n r : ℕ) : Type 0 where
  pub heads : n ≡ nonterminals g
  pub bodies : r ≡ rules g
  pub few : n ≤ 32
  pub numbered : r ≤ 255
  pub size : length g ≡ 4 + n + 4 * r

-- 1 to 4 are passed: so far that the walks of the chains can read every rule
pub record Readable (g : List ℕ) : Type 0 where
  pub sized : Sized g (nonterminals g) (rules g)
  pub words_low : words g ≤ 255
  pub fit : bad_rule g ≡ false

-- ---- 4, and 5 of the nexts

-- 4 where some rule does not fit; where all fit, 5 where some next is above R
abbrev pub rules_say : List ℕ → Result (Unit {0}) Refusal
rules_say g = cond (bad_rule g) (Err GrammarBadRule) (cond (some_to (next_above g) (rules g)) (Err GrammarBadLink) (Ok tt))

-- ---- 8: rules that are alike

-- where the words of a begin, or its pair rules
abbrev pub begins_at : (pairs : Bool) (rules : List (List ℕ)) (a : ℕ) → ℕ
begins_at false rules a = word_from rules a
begins_at true rules a = pair_from rules a

-- the entry at i as one number below 1,024: a word, or the two nonterminals of a pair rule
abbrev pub entry_at : (pairs : Bool) (rules : List (List ℕ)) (i : ℕ) → ℕ
entry_at false rules i = word_at rules i
entry_at true rules i = both_at rules i

-- the entries of the nonterminal a, from the one at i on
abbrev pub entries_from : (pairs : Bool) (rules : List (List ℕ)) (a i : ℕ) → List ℕ
entries_from pairs rules a i = map (entry_at pairs rules) (up_from i (begins_at pairs rules (a + 1) - i))

abbrev pub entries : (pairs : Bool) (rules : List (List ℕ)) (a : ℕ) → List ℕ
entries pairs rules a = entries_from pairs rules a (begins_at pairs rules a)

-- before the entries of a are looked at: none has its stamp
pub record Stamping (pairs : Bool) (rules : List (List ℕ)) (a stamp : ℕ) (stamps : List ℕ) : Type 0 where
  pub table : 4 ≤ length rules
  pub inside : a < 32
  pub low : (x : ℕ) → x ∈ entries pairs rules a → x < 1024
  pub long : length stamps ≡ 1024
  pub fresh : (q : ℕ) → get_or stamps q 0 < stamp

-- after it: whether two of them are the same, and there is no later stamp
pub record StampedAs (pairs : Bool) (rules : List (List ℕ)) (a stamp : ℕ) (stamps : List ℕ) (found : Bool) : Type 0 where
  pub same : found ≡ repeats (entries pairs rules a)
  pub long : length stamps ≡ 1024
  pub used : (q : ℕ) → get_or stamps q 0 ≤ stamp
