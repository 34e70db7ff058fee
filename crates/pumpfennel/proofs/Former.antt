-- Former answers. U6: where *Number* gave one, it gives the same figures and 1 beside them. U2: every call that did not return 10 has its former answer:
-- an answer depends on its list of refusals by the first that applies alone, and that is the same (`former_first` in the crate `counting`).
-- Assumes nothing.
use mathlib.Core.Path.{◌≡◌, refl, sym, ap, ◌∙◌}
use mathlib.Core.Logic.{◌≢◌}
use mathlib.Core.Bool.{true}
use mathlib.Core.List.Memᴰ
use mathlib.Core.List.{List, [], ◌∷◌, ◌++◌}
use Prim.Native.Nat.{ℕ, zero, suc, ◌≤◌, ◌<◌}
use native.Mathlib.Omega.{arith}
use native.Mathlib.Decide.{ℕ_discrete, dec_le}
use borrow.Author.Tests.{lt-ltb, le-leb, lt-leb}
use lib.Dec.{ltb, leb, eqb}
use lib.ListN.{length, get_or, drop}
use Rattle.lists.specs.Joined.{◌∈◌}
use Rattle.lists.specs.Linked.{met_from}
use Rattle.lists.specs.Searched.{some_of, some_below}
use Rattle.lists.proofs.Tests.{below_some, to_some}
use Rattle.answers.specs.Answer.{Row, Answer, first_that_applies, given, refused, answer_of, answer}
use Rattle.answers.specs.Length.{bad_length}
use Rattle.answers.proofs.Refusals.{row_applies, row_passed, rows_stop, rows_pass, rows_lack, answer_number, answer_accepted, answer_refused}
use Rattle.grammar.specs.Chains.{pairs_of, rest, chain}
use Rattle.grammar.specs.Refusals.{too_short, out_of_range, wrong_size, fits, bad_rule, bad_link, met_twice, on_no_chain, some_alike, repeated, grammar_rows, Accepted}
use Rattle.grammar.specs.Trees.{sentence}
use Rattle.counting.specs.Totals.{T}
use Rattle.counting.specs.Refusals.{most, AllFit, too_large, open_rows, former_too_large}
use Rattle.counting.specs.Answers.{count_of}
use Rattle.counting.proofs.Needed.{needed_some, needed_short, needed_inside}
use Rattle.counting.proofs.OneLength.{OneLength, words_alone, power, T_power}
use Rattle.counting.proofs.Ten.{former_first}
use Rattle.ranking.specs.Answers.{total_of, entry_of, readings_of, number_of, unrank_of, rank_rows, rank_of}
use Rattle.ranking.proofs.Demand2.{rank_answer, rank_some}
use Rattle.sampling.proofs.Premises.{length_within, prepared_pass}
use Rattle.sampling.proofs.Examples.{doubled, doubled_fits}
use Rattle.pumpfennel.specs.Former.{unvoiced, rows_by, sentences_by, counted_by, rest_by, drawn_by, former_number_rows, former_number, FormerNumbers, former_count, beside, FormerAnswers}

-- ---- U6

module _ (g s : List ℕ) where
  -- 18's line, and the first of the lines that are left, and with 18's behind them
  abbrev last : List Row
  last = (leb 2 (readings_of g s), 18) ∷ []

  abbrev now : ℕ
  now = first_that_applies (rank_rows g s)

  abbrev then : ℕ
  then = first_that_applies (former_number_rows g s)

  then_is : (former_number g s).refusal ≡ then
  then_is = answer_number then (number_of g s ∷ total_of g (length s) ∷ []) [] []

  now_is : (rank_of g s).refusal ≡ now
  unfolding rank_of
  now_is = answer_number now (number_of g s ∷ total_of g (length s) ∷ readings_of g s ∷ []) [] []

  no_eighteen : now ≢ 18
  unfolding bad_length
  no_eighteen = rows_lack 18 (rank_rows g s) (omega arith) refl

  -- what else applied still does; where nothing else does, 18 applied to two or more derivations
  then_other : 0 < now → then ≡ now
  then_other h = rows_stop (rank_rows g s) last h

  then_many : now ≡ 0 → 2 ≤ readings_of g s → then ≡ 18
  then_many e h = rows_pass (rank_rows g s) last refl e ∙ row_applies 18 [] (le-leb 2 (readings_of g s) h)

  then_few : now ≡ 0 → readings_of g s < 2 → then ≡ 0
  unfolding first_that_applies
  then_few e h = rows_pass (rank_rows g s) last refl e ∙ row_passed 18 [] (lt-leb 2 (readings_of g s) h)

  -- the three cases
  data Case : Type 0 where
    other : 0 < now → then ≡ now → Case
    many : (rank_of g s).refusal ≡ 0 → 2 ≤ readings_of g s → then ≡ 18 → Case
    single : (rank_of g s).refusal ≡ 0 → readings_of g s ≡ 1 → then ≡ 0 → Case

  case : Case
  case =
      elim (ℕ_discrete now 0) [
        | no o ↦ other (omega arith) (then_other (omega arith))
        | yes e ↦
            let ok = now_is ∙ e in
            elim (dec_le 2 (readings_of g s)) [
              | yes h ↦ many ok h (then_many e h)
              | no h ↦ single ok (omega (arith, rank_some g s ok)) (then_few e (omega arith))
            ]
      ]

  one_stays : (d t : ℕ) → former_number g s ≡ given (d ∷ t ∷ []) [] → rank_of g s ≡ given (d ∷ t ∷ 1 ∷ []) []
  one_stays d t e = go case
    where
      z : then ≡ 0
      z = sym then_is ∙ ap (λ (a : Answer). a.refusal) e

      go : Case → rank_of g s ≡ given (d ∷ t ∷ 1 ∷ []) []
      go (other h q) = absurd (omega (arith, q, z))
      go (many ok h q) = absurd (omega (arith, q, z))
      go (single ok k q) =
          let is = sym (answer_accepted (number_of g s ∷ total_of g (length s) ∷ []) [] [] z) ∙ e in
          let d_is : number_of g s ≡ d = ap (λ (a : Answer). get_or a.figures 0 0) is in
          let t_is : total_of g (length s) ≡ t = ap (λ (a : Answer). get_or a.figures 1 0) is in
          rw (d_is, t_is, k) at (rank_answer g s ok)

  several_now : (former_number g s).refusal ≡ 18 → (d k : ℕ) × (2 ≤ k) × (rank_of g s ≡ given (d ∷ total_of g (length s) ∷ k ∷ []) [])
  several_now e = go case
    where
      go : Case → (d k : ℕ) × (2 ≤ k) × (rank_of g s ≡ given (d ∷ total_of g (length s) ∷ k ∷ []) [])
      go (other h q) = absurd (no_eighteen (sym q ∙ sym then_is ∙ e))
      go (many ok h q) = (number_of g s, readings_of g s, h, rank_answer g s ok)
      go (single ok k q) = absurd (omega (arith, q, then_is, e))

  refusal_stays : (k : ℕ) → (former_number g s).refusal ≡ k → k ≢ 0 → k ≢ 18 → rank_of g s ≡ refused k 3 []
  unfolding rank_of
  refusal_stays k e some no-18 = go case
    where
      go : Case → rank_of g s ≡ refused k 3 []
      go (other h q) =
          let is : now ≡ k = sym q ∙ sym then_is ∙ e in
          rw is (answer_refused k (number_of g s ∷ total_of g (length s) ∷ readings_of g s ∷ []) [] [] (omega arith))
      go (many ok h q) = absurd (no-18 (sym e ∙ then_is ∙ q))
      go (single ok h q) = absurd (some (sym e ∙ then_is ∙ q))

pub former_numbers : FormerNumbers
former_numbers = record {
  one = one_stays;
  several = several_now;
  refusals = refusal_stays;
  never = λ g s e. no_eighteen g s (sym (now_is g s) ∙ e);
}

-- ---- U2

-- the answer by the lines 1 to 9, then 10, then further lines
former_answer : (g : List ℕ) (n : ℕ) (later : List Row) (figures before after : List ℕ)
    → (answer (open_rows g n ++ ((former_too_large g n, 10) ∷ later)) figures before after).refusal ≢ 10
    → answer (open_rows g n ++ ((too_large g n, 10) ∷ later)) figures before after ≡ answer (open_rows g n ++ ((former_too_large g n, 10) ∷ later)) figures before after
former_answer g n later figures before after no-ten =
    let former = first_that_applies (open_rows g n ++ ((former_too_large g n, 10) ∷ later)) in
    ap (λ (k : ℕ). answer_of k figures before after) (former_first g n later (λ e. no-ten (answer_number former figures before after ∙ e)))

-- ---- F beside F with 16 words

beside_accepted : Accepted beside
unfolding first_that_applies too_short out_of_range wrong_size fits bad_rule bad_link met_twice on_no_chain some_alike repeated met_from some_below
beside_accepted = refl

words_two : OneLength (chain beside) 1 1 2
unfolding met_from rest
words_two = words_alone (chain beside) 1 refl

words_sixteen : OneLength (chain beside) 3 1 16
unfolding met_from rest
words_sixteen = words_alone (chain beside) 3 refl

T_two : T (chain beside) 0 16 ≡ power 2 14
unfolding met_from rest
T_two = doubled (chain beside) refl refl words_two 14

T_sixteen : T (chain beside) 2 16 ≡ power 16 14
unfolding met_from rest
T_sixteen = T_power (chain beside) 2 3 16 refl refl words_sixteen 14

-- the start uses nonterminals 0 and 1 alone
two_alone : (A : ℕ) (x : ℕ × ℕ) → A < 2 → x ∈ pairs_of (chain beside A) → (x.0 < 2) × (x.1 < 2)
unfolding met_from rest
two_alone zero x h (Memᴰ.tail (Memᴰ.tail x12)) = elim x12 [ ]
two_alone zero x h (Memᴰ.head e) = rw e (omega arith)
two_alone zero x h (Memᴰ.tail (Memᴰ.head e)) = rw e (omega arith)
two_alone (suc zero) x h i = absurd (Memᴰ.not-nil i)
two_alone (suc (suc A)) x h i = absurd (omega arith)

beside_fits : AllFit (chain beside) (λ p w. 1) 0 16
unfolding met_from rest
beside_fits A m a =
    doubled_fits (chain beside) refl refl words_two A m (needed_inside 2 (omega arith) two_alone a) (needed_some (omega arith) a) (needed_short a)

answers_now : count_of beside 16 ≡ given (65536 ∷ []) []
unfolding count_of
answers_now =
    answer_accepted (T (chain beside) 0 16 ∷ []) [] [] (prepared_pass beside 16 beside_accepted (omega arith) (omega arith) beside_fits) ∙ rw T_two

-- nonterminal 2 has 16^16 derivations of 16 words
was_too_large : former_too_large beside 16 ≡ true
unfolding former_too_large
was_too_large =
    to_some (λ m. some_below (λ A. ltb most (T (chain beside) A m)) 4) 16 16 (omega arith) (omega arith)
    (below_some (λ A. ltb most (T (chain beside) A 16)) 4 2 (omega arith) (lt-ltb most (T (chain beside) 2 16) (omega (arith, T_sixteen))))

was_refused : former_count beside 16 ≡ refused 10 1 []
was_refused =
    let e : first_that_applies (open_rows beside 16 ++ ((former_too_large beside 16, 10) ∷ [])) ≡ 10
    = rows_pass (grammar_rows beside) ((bad_length 16, 9) ∷ (former_too_large beside 16, 10) ∷ []) refl beside_accepted
    ∙ row_passed 9 ((former_too_large beside 16, 10) ∷ []) ((length_within 16).1 (omega arith, omega arith))
    ∙ row_applies 10 [] was_too_large in
    rw e (answer_refused 10 (total_of beside 16 ∷ []) [] [] (omega arith))

pub former_answers : FormerAnswers
unfolding count_of unrank_of
former_answers = record {
  count = λ g n. former_answer g n [] (total_of g n ∷ []) [] [];
  give = λ g n d out. former_answer g n ((leb (total_of g n) d, 16) ∷ (ltb (length out) n, 20) ∷ []) (total_of g n ∷ []) out (entry_of g n d ++ drop n out);
  number = λ g s.
      former_answer g (length s) ((eqb (readings_of g s) 0, 17) ∷ (leb 2 (readings_of g s), 18) ∷ []) (number_of g s ∷ total_of g (length s) ∷ []) [] [];
  left = λ g h n.
      former_answer g n (rows_by unvoiced h ++ ((some_of (λ s. leb 2 (readings_of g s)) (sentences_by unvoiced h n), 15) ∷ []))
      (total_of g n ∷ counted_by unvoiced g h n ∷ rest_by unvoiced g h n ∷ []) [] [];
  draw = λ g h n q out.
      former_answer g n
      (rows_by unvoiced h
      ++ ((some_of (λ s. leb 2 (readings_of g s)) (sentences_by unvoiced h n), 15) ∷ (leb (rest_by unvoiced g h n) q, 16) ∷ (ltb (length out) n, 20) ∷ []))
      (rest_by unvoiced g h n ∷ (drawn_by unvoiced g h n q).number ∷ []) out (sentence (drawn_by unvoiced g h n q).tree ++ drop n out);
  wider = (was_refused, answers_now);
}
