-- What a draw reads off a list of entries: entry q, or refused 16 past its end. And that what the code answers from the heard derivations' tickets is
-- read off the tickets of the unheard ones, where each sentence weighs u: the skip finds in the tickets of all the one with q unheard ones before it.
-- Assumes nothing.
use mathlib.Core.Path.{◌≡◌, refl, sym, ap, ◌∙◌}
use mathlib.Core.Bool.{Bool, true, false, not, ◌&&◌, ◌||◌}
use mathlib.Core.List.{List, [], ◌∷◌, ◌++◌, map}
use Prim.Native.Nat.{ℕ, ◌-◌, ◌≤◌, ◌<◌}
use native.Mathlib.Omega.{arith}
use native.Mathlib.Decide.{dec_le}
use lib.ListN
use lib.ListN.{length, get_or, drop, length-map}
use lib.Dec.{ltb, leb, eqb}
use borrow.Author.Tests.{le-leb, lt-leb, lt-ltb, le-ltb}
use Rattle.lists.specs.Joined.{◌∈◌, sum_over}
use Rattle.lists.specs.Searched.{keep}
use Rattle.lists.specs.Inner.Tickets.{tickets, struck_from, skip_over}
use Rattle.lists.specs.Inner.Struck.{numbered}
use Rattle.lists.proofs.Places.{get_d_map}
use Rattle.lists.proofs.Owners.{tickets_plain, tickets_map}
use Rattle.lists.proofs.Struck.{numbered_map, numbered_sum, struck_map, tickets_keep, tickets_ext, tickets_spans, tickets_spans_at, spans_ext}
use Rattle.lists.proofs.Strikes.{keep_∈, keep_map, keep_keep, keep_ext}
use Rattle.answers.specs.Answer.{Answer, Row, first_that_applies, given, refused, answer}
use Rattle.answers.proofs.Refusals.{row_applies, row_passed, answer_number, answer_accepted, answer_refused}
use Rattle.grammar.specs.Trees.{Tree, sentence}
use Rattle.ranking.specs.Answers.{full_list}
use Rattle.ranking.specs.Inner.Inside.{full_in, weighs, weigh_in, tickets_at}
use Rattle.history.specs.Heard as heard
use Rattle.sampling.specs.Question.{Question}
use Rattle.sampling.specs.Unheard.{Entry, entries_from, outside, suits, unheard}
use Rattle.sampling.specs.Inner.Collect.{spans_by, fitting}
use Rattle.sampling.specs.Inner.Skipping.{heard_spans}
use Rattle.sampling.specs.Inner.Drawing.{spans_in, draw_skipping}
use Rattle.sampling.proofs.Barred.{listed_length, entry, no_entry, entries_are}
use Rattle.sampling.proofs.Spans.{listed, listed_∈, weight_at, unheard_at}

-- ---- what is read off a list

-- entry q of a list of entries
abbrev pub entry_at : List Entry → ℕ → Entry
entry_at l q = get_or l q (entry no_entry)

-- the lines 16 and 20
abbrev pub last_rows : (n q : ℕ) (out : List ℕ) (l : List Entry) → List Row
last_rows n q out l = (leb (length l) q, 16) ∷ (ltb (length out) n, 20) ∷ []

-- where l is the list and no earlier line applies
abbrev pub draw_from : (n q : ℕ) (out : List ℕ) (l : List Entry) → Answer
draw_from n q out l = answer (last_rows n q out l) (length l ∷ (entry_at l q).number ∷ []) out (sentence (entry_at l q).tree ++ drop n out)

module _ (n q : ℕ) (out : List ℕ) (l : List Entry) where
  pub from_beyond : length l ≤ q → draw_from n q out l ≡ refused 16 2 out
  from_beyond h =
      let e : first_that_applies (last_rows n q out l) ≡ 16 = row_applies 16 ((ltb (length out) n, 20) ∷ []) (le-leb (length l) q h) in
      rw e (answer_refused 16 (length l ∷ (entry_at l q).number ∷ []) out (sentence (entry_at l q).tree ++ drop n out) (omega arith))

  pub from_accepted : first_that_applies (last_rows n q out l) ≡ 0
      → draw_from n q out l ≡ given (length l ∷ (entry_at l q).number ∷ []) (sentence (entry_at l q).tree ++ drop n out)
  from_accepted e = answer_accepted (length l ∷ (entry_at l q).number ∷ []) out (sentence (entry_at l q).tree ++ drop n out) e

  pub from_refusal : (draw_from n q out l).refusal ≡ first_that_applies (last_rows n q out l)
  from_refusal =
      answer_number (first_that_applies (last_rows n q out l)) (length l ∷ (entry_at l q).number ∷ []) out (sentence (entry_at l q).tree ++ drop n out)

  pub from_passed : q < length l → n ≤ length out → first_that_applies (last_rows n q out l) ≡ 0
  unfolding first_that_applies
  from_passed h k =
      row_passed 16 ((ltb (length out) n, 20) ∷ []) (lt-leb (length l) q h) ∙ row_passed 20 [] (le-ltb (length out) n k)

  pub from_short : q < length l → length out < n → draw_from n q out l ≡ refused 20 2 out
  from_short h k =
      let e : first_that_applies (last_rows n q out l) ≡ 20
      = row_passed 16 ((ltb (length out) n, 20) ∷ []) (lt-leb (length l) q h) ∙ row_applies 20 [] (lt-ltb (length out) n k) in
      rw e (answer_refused 20 (length l ∷ (entry_at l q).number ∷ []) out (sentence (entry_at l q).tree ++ drop n out) (omega arith))

-- ---- the tickets of the unheard derivations

-- a derivation with its number, by its sentence
abbrev told : ℕ × Tree → ℕ × List ℕ
told e = (e.0, sentence e.1)

module _ (g h : List ℕ) (n v : ℕ) (u : List ℕ → ℕ) where
  -- each unheard derivation as often as it weighs
  abbrev pub ticket_list : List Entry
  ticket_list = tickets (λ e. u (sentence e.tree)) (keep (λ e. outside h v e.tree) (entries_from 0 (full_list g n)))

  abbrev pairs : List (ℕ × Tree)
  pairs = tickets (weight_at g n u) (keep (unheard_at g h n v u) (listed g n u))

  pairs_entries : ticket_list ≡ map entry pairs
  pairs_entries =
      ap (λ (l : List Entry). tickets (λ (e : Entry). u (sentence e.tree)) (keep (λ (e : Entry). outside h v e.tree) l)) (entries_are 0 (full_list g n))
      ∙ ap (tickets (λ (e : Entry). u (sentence e.tree))) (keep_map entry (λ (e : Entry). outside h v e.tree) (listed g n u))
      ∙ tickets_map entry (λ (e : Entry). u (sentence e.tree)) (keep (unheard_at g h n v u) (listed g n u))

  -- by a table of the grammar's rules, and a choice by which each sentence weighs u
  module _ (rules choice : List (List ℕ)) (full : full_in rules n ≡ map sentence (full_list g n)) (weigh : (s : List ℕ) → length s ≡ n → weighs rules choice s ≡ u s) where
    abbrev W : ℕ × List ℕ → ℕ
    W e = weighs rules choice e.1

    abbrev U : ℕ × List ℕ → Bool
    U e = not (heard.heard h v e.1)

    numbered_is : numbered 0 (full_in rules n) ≡ map told (listed g n u)
    numbered_is = ap (numbered 0) full ∙ numbered_map sentence 0 (full_list g n)

    weigh_at : (e : ℕ × Tree) → e ∈ listed g n u → W (told e) ≡ weight_at g n u e
    weigh_at e m = weigh (sentence e.1) (listed_length g n e.1 (listed_∈ g n u e m))

    pub spans_told : spans_in rules choice n (λ s. not (heard.heard h v s)) ≡ spans_by g h n v u
    spans_told =
        ap (struck_from (λ (e : ℕ × List ℕ). U e || eqb (W e) 0) W 0) numbered_is
        ∙ struck_map told (λ (e : ℕ × List ℕ). U e || eqb (W e) 0) W 0 (listed g n u)
        ∙ spans_ext (λ (e : ℕ × Tree). W (told e)) (weight_at g n u) (unheard_at g h n v u) (listed g n u) weigh_at

    pairs_told : tickets W (keep U (numbered 0 (full_in rules n))) ≡ map told pairs
    pairs_told =
        ap (λ (l : List (ℕ × List ℕ)). tickets W (keep U l)) numbered_is
        ∙ ap (tickets W) (keep_map told U (listed g n u))
        ∙ tickets_map told W (keep (unheard_at g h n v u) (listed g n u))
        ∙ ap (map told)
        (tickets_ext (λ (e : ℕ × Tree). W (told e)) (weight_at g n u) (keep (unheard_at g h n v u) (listed g n u))
        (λ e m. weigh_at e (keep_∈ (unheard_at g h n v u) (listed g n u) e m).0))

    -- what the code answers is read off the tickets of the unheard derivations
    module _ (firsts sums : List ℕ) (are : heard_spans firsts sums ≡ spans_in rules choice n (λ s. not (heard.heard h v s))) (q : ℕ) (out : List ℕ) where
      abbrev left : ℕ
      left = weigh_in rules choice n - sum_over (λ (e : ℕ × ℕ). e.1) (heard_spans firsts sums)

      left_is : left ≡ length ticket_list
      left_is =
          omega (
            arith,
            ap (sum_over (λ (e : ℕ × ℕ). e.1)) are,
            tickets_spans U W (numbered 0 (full_in rules n)),
            numbered_sum (weighs rules choice) 0 (full_in rules n),
            ap length pairs_told,
            length-map pairs told,
            ap length pairs_entries,
            length-map pairs entry,
          )

      abbrev found : ℕ × List ℕ
      found = get_or (tickets_at rules choice n) (skip_over q (heard_spans firsts sums)) (0, [])

      found_is : found ≡ get_or (map told pairs) q (0, [])
      found_is =
          ap (λ (s : List (ℕ × ℕ)). get_or (tickets_at rules choice n) (skip_over q s) (0, [])) are
          ∙ sym (tickets_spans_at U W (numbered 0 (full_in rules n)) q (0, []))
          ∙ ap (λ (l : List (ℕ × List ℕ)). get_or l q (0, [])) pairs_told

      entry_is : entry_at ticket_list q ≡ entry (get_or pairs q no_entry)
      entry_is = ap (λ (l : List Entry). get_or l q (entry no_entry)) pairs_entries ∙ ListN.get_or-map entry pairs q no_entry

      pub drawn_listed : draw_skipping rules choice n firsts sums q out ≡ draw_from n q out ticket_list
      unfolding draw_skipping
      drawn_listed =
          rw left_is
          (elim (dec_le (length ticket_list) q) [
            | yes b ↦
                let e : first_that_applies (last_rows n q out ticket_list) ≡ 16 = row_applies 16 ((ltb (length out) n, 20) ∷ []) (le-leb (length ticket_list) q b) in
                rw e
                (answer_refused 16 (length ticket_list ∷ found.0 ∷ []) out (found.1 ++ drop n out) (omega arith)
                ∙ sym (answer_refused 16 (length ticket_list ∷ (entry_at ticket_list q).number ∷ []) out (sentence (entry_at ticket_list q).tree ++ drop n out) (omega arith)))
            | no b ↦
                let f = found_is ∙ get_d_map told pairs q no_entry (0, []) (omega (arith, ap length pairs_entries, length-map pairs entry)) in
                rw (f, entry_is)
          ])

-- ---- without weights

-- what fits weighs 1, and so comes once: the tickets are the unheard list
pub list_plain : (g h : List ℕ) (a : Question) → ticket_list g h a.length a.voice (fitting a) ≡ unheard g h a
unfolding unheard
list_plain g h a =
    let all = entries_from 0 (full_list g a.length) in
    let out : Entry → Bool = λ e. outside h a.voice e.tree in
    let fit : Entry → Bool = λ e. suits a e.tree in
    sym (tickets_keep fit (λ (e : Entry). 1) (keep out all))
    ∙ tickets_plain (keep fit (keep out all))
    ∙ keep_keep fit out all
    ∙ keep_ext (λ (e : Entry). out e && fit e) (λ (e : Entry). fit e && out e) all (λ e m. swap (out e) (fit e))
  where
    swap : (a b : Bool) → (a && b) ≡ (b && a)
    swap true true = refl
    swap true false = refl
    swap false true = refl
    swap false false = refl
