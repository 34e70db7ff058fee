-- The walk's answer under the choices that are made, by what sentences weigh: the owner of a ticket is that entry of the ticket list. By the counts
-- each sentence weighs 1. By letters for words or for any word a sentence that stands weighs 1, and any other 0. By the letters of a sentence that
-- sentence alone weighs 1: the whole weighs how many derivations it has, and the owner of ticket 0 is the first.
-- Assumes nothing.
use mathlib.Core.Path.{◌≡◌, refl, sym, ap, ◌∙◌}
use mathlib.Core.Bool.{true}
use mathlib.Core.List.Memᴰ
use mathlib.Core.List.{List, [], ◌∷◌}
use Prim.Native.Nat.{ℕ, suc, ◌+◌, ◌-◌, ◌≤◌, ◌<◌}
use native.Mathlib.Omega.{arith}
use lib.ListN.{length, get_or}
use lib.Dec.{leb, eqb}
use native.Mathlib.Decide.{ℕ_discrete}
use borrow.Author.Tests.{ne_eqb, eqb-true, eq-eqb, le-leb, lt-leb}
use Rattle.lists.specs.Joined.{◌∈◌}
use Rattle.lists.specs.Searched.{bit, same}
use Rattle.lists.specs.Inner.Tables.{entry}
use Rattle.lists.specs.Inner.Struck.{numbered}
use Rattle.lists.proofs.Sums.{sum_ext, sum_one}
use Rattle.lists.proofs.Members.{At_∈}
use Rattle.lists.proofs.Tests.{bit_true, bit_and, both_ways, same_eq}
use Rattle.lists.proofs.Owners.{tickets_plain}
use Rattle.lists.proofs.Struck.{numbered_∈, tickets_ext, owns_ticket}
use Rattle.lists.proofs.Searches.{by_first}
use Rattle.grammar.specs.Inner.Rules.{start_in, ruled}
use Rattle.counting.specs.Totals.{total}
use Rattle.counting.specs.Inner.Sentences.{weight}
use Rattle.counting.specs.Inner.Owned.{OwnedAs}
use Rattle.counting.proofs.Counts.{total_sum}
use Rattle.counting.proofs.Sentences.{sentence_length}
use Rattle.counting.specs.Inner.Letters.{any, letter_weight}
use Rattle.charts.specs.Inner.Letters.{letter_at, weight_by, admits, stands}
use Rattle.charts.specs.Inner.Maps.{Everywhere}
use Rattle.ranking.specs.Inner.Inside.{full_in, readings_in, weighs, weigh_in, tickets_at, place_in}

eqb_flip : (x y : ℕ) → eqb x y ≡ eqb y x
eqb_flip x y = both_ways (eqb x y) (eqb y x) (λ e. eq-eqb y x (sym (eqb-true x y e))) (λ e. eq-eqb x y (sym (eqb-true y x e)))

-- a letter of at most `any` asks for any word only if it is that one
any_or : (x : ℕ) → x ≤ any → eqb x any ≡ leb any x
any_or x h =
    elim (ℕ_discrete x any) [
      | yes e ↦ rw (eq-eqb x any e, le-leb any x (omega arith))
      | no e ↦ rw (ne_eqb x any e, lt-leb any x (omega arith))
    ]

letter_word : (weights : ℕ → ℕ) (x w : ℕ) → x < any → letter_weight weights x w ≡ bit (eqb w x)
letter_word weights x w h = rw (ne_eqb x 257 (λ e. omega arith), ne_eqb x 256 (λ e. omega arith), eqb_flip x w)

module _ (rules map : List (List ℕ)) where
  -- the letters from p on are the words s
  lettered_weight : (p : ℕ) (s u : List ℕ) → ((i : ℕ) → i < length s → letter_at map (p + i) ≡ get_or s i 0) → ((i : ℕ) → i < length s → letter_at map (p + i) < any)
      → length u ≡ length s → weight (weight_by rules map) p u ≡ bit (same u s)
  lettered_weight p [] [] e l h = refl
  lettered_weight p [] (w ∷ u) e l h = absurd (omega arith)
  lettered_weight p (x ∷ s) [] e l h = absurd (omega arith)
  lettered_weight p (x ∷ s) (w ∷ u) e l h =
      let z : p + 0 ≡ p = omega arith in
      let here : letter_at map p ≡ x = rw z at (e 0 (omega arith)) in
      let low : letter_at map p < any = rw z at (l 0 (omega arith)) in
      let head : weight_by rules map p w ≡ bit (eqb w x) = letter_word (entry rules 13) (letter_at map p) w low ∙ ap (λ (y : ℕ). bit (eqb w y)) here in
      let next : (i : ℕ) → p + suc i ≡ suc p + i = λ i. omega arith in
      let tail = lettered_weight (suc p) s u (λ i k. ap (letter_at map) (sym (next i)) ∙ e (suc i) (omega arith)) (λ i k. rw (← next i) (l (suc i) (omega arith))) (omega arith) in
      rw (head, tail) (sym (bit_and (eqb w x) (same u s)))

  -- letters for words or for any word: what stands weighs 1, anything else 0
  pub stands_weight : (p : ℕ) (u : List ℕ) → ((i : ℕ) → i < length u → letter_at map (p + i) ≤ any) → weight (weight_by rules map) p u ≡ bit (stands map p u)
  stands_weight p [] e = refl
  stands_weight p (w ∷ u) e =
      let z : p + 0 ≡ p = omega arith in
      let here : letter_at map p ≤ any = rw z at (e 0 (omega arith)) in
      let next : (i : ℕ) → p + suc i ≡ suc p + i = λ i. omega arith in
      let tail = stands_weight (suc p) u (λ i k. rw (← next i) (e (suc i) (omega arith))) in
      let head : weight_by rules map p w ≡ bit (admits (letter_at map p) w) = rw (ne_eqb (letter_at map p) 257 (λ q. omega arith), any_or (letter_at map p) here) in
      rw (head, tail) (sym (bit_and (admits (letter_at map p) w) (stands map (suc p) u)))

-- any word at each position: every sentence stands
pub any_stands : (map : List (List ℕ)) (p : ℕ) (u : List ℕ) → ((i : ℕ) → i < length u → letter_at map (p + i) ≡ any) → stands map p u ≡ true
any_stands map p [] e = refl
any_stands map p (w ∷ u) e =
    let z : p + 0 ≡ p = omega arith in
    let here : letter_at map p ≡ any = rw z at (e 0 (omega arith)) in
    let next : (i : ℕ) → p + suc i ≡ suc p + i = λ i. omega arith in
    rw (le-leb any (letter_at map p) (omega arith), any_stands map (suc p) u (λ i k. ap (letter_at map) (sym (next i)) ∙ e (suc i) (omega arith)))

-- ---- by a map's letters

module _ (rules map : List (List ℕ)) (n : ℕ) where
  -- letters for words or for any word: of the sentences of n words just those that stand weigh 1
  pub stands_is : ((p : ℕ) → p < n → letter_at map p ≤ any) → (y : List ℕ) → length y ≡ n → weighs rules map y ≡ bit (stands map 0 y)
  stands_is letters y e = stands_weight rules map 0 y (λ j k. letters (0 + j) (omega arith))

  -- the whole weighs what the sentences do together
  pub whole_weigh : total (ruled rules) (weight_by rules map) 0 (start_in rules) n ≡ weigh_in rules map n
  whole_weigh = total_sum (ruled rules) (weight_by rules map) 0 (start_in rules) n

pub listed_long : (rules : List (List ℕ)) (n : ℕ) (y : List ℕ) → y ∈ full_in rules n → length y ≡ n
listed_long rules n y i = sentence_length (ruled rules) (start_in rules) n y i

module _ (rules : List (List ℕ)) {counts : List (List ℕ)} (c : Everywhere counts) (n : ℕ) (short : n ≤ 16) where
  -- by the counts every sentence of n words weighs 1
  pub counts_weight : (y : List ℕ) → y ∈ full_in rules n → weighs rules counts y ≡ 1
  counts_weight y i =
      let e = listed_long rules n y i in
      stands_is rules counts n (λ p h. omega (arith, c.letter p (omega arith))) y e
      ∙ ap bit (any_stands counts 0 y (λ j k. c.letter (0 + j) (omega arith)))

  pub counts_weigh : weigh_in rules counts n ≡ length (full_in rules n)
  counts_weigh = sum_ext (weighs rules counts) (λ y. 1) (full_in rules n) counts_weight ∙ sum_one (full_in rules n)

  pub counts_tickets : tickets_at rules counts n ≡ numbered 0 (full_in rules n)
  counts_tickets =
      tickets_ext (λ (e : ℕ × List ℕ). weighs rules counts e.1) (λ (e : ℕ × List ℕ). 1) (numbered 0 (full_in rules n))
      (λ e m. counts_weight e.1 (At_∈ (full_in rules n) (e.0 - 0) (numbered_∈ 0 (full_in rules n) m).1))
      ∙ tickets_plain (numbered 0 (full_in rules n))

  -- *Give* and *Draw*: the owner of ticket t, with its place by the counts, is entry t of the tickets
  pub chosen : (choice : List (List ℕ)) {t : ℕ} {words : List ℕ} {place measured w o : ℕ}
      → OwnedAs (ruled rules) (weight_by rules choice) (weight_by rules counts) (start_in rules) 0 n t words place measured w o
      → get_or (tickets_at rules choice n) t (0, []) ≡ (place, words)
  chosen choice r = owns_ticket r.owns counts_weight []

module _ (rules map : List (List ℕ)) (s : List ℕ) (lettered : (i : ℕ) → i < length s → letter_at map i ≡ get_or s i 0) (low : (i : ℕ) → i < length s → letter_at map i < any) where
  -- by the letters of s just the sentence s weighs 1
  lettered_is : (y : List ℕ) → y ∈ full_in rules (length s) → weight (weight_by rules map) 0 y ≡ bit (same y s)
  lettered_is y i =
      let z : (j : ℕ) → 0 + j ≡ j = λ j. omega arith in
      lettered_weight rules map 0 s y (λ j k. ap (letter_at map) (z j) ∙ lettered j (omega arith)) (λ j k. low (0 + j) (omega arith))
      (sentence_length (ruled rules) (start_in rules) (length s) y i)

  -- so the whole weighs how many derivations it has
  pub readings_weigh : total (ruled rules) (weight_by rules map) 0 (start_in rules) (length s) ≡ readings_in rules s
  readings_weigh =
      total_sum (ruled rules) (weight_by rules map) 0 (start_in rules) (length s)
      ∙ sum_ext (weight (weight_by rules map) 0) (λ y. bit (same y s)) (full_in rules (length s)) lettered_is

  -- the owner of ticket 0 is its first derivation: its place by a measure is its first ticket by that
  pub placed : (measure : List (List ℕ)) {words : List ℕ} {place measured w o : ℕ}
      → OwnedAs (ruled rules) (weight_by rules map) (weight_by rules measure) (start_in rules) 0 (length s) 0 words place measured w o → place ≡ place_in rules measure s
  placed measure r = by_first r.owns (λ y. same y s) lettered_is

  -- it has the words of s, as nothing else weighs something
  pub placed_words : (measure : List (List ℕ)) {words : List ℕ} {place measured w o : ℕ}
      → OwnedAs (ruled rules) (weight_by rules map) (weight_by rules measure) (start_in rules) 0 (length s) 0 words place measured w o → words ≡ s
  placed_words measure {words} r =
      let q = r.owns in
      let listed : words ∈ full_in rules (length s) = rw q.list (Memᴰ.append_right q.before (Memᴰ.head refl)) in
      same_eq words s (bit_true (same words s) (omega (arith, lettered_is words listed, q.own)))
