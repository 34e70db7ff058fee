-- The examples P1 to P10. Lists and small counts are computed. T of the grammar F is not: it doubles with the length (`T_power` in the crate
-- `counting`). So all its counts up to length 16 are at most 65,536.
-- Assumes nothing.
use mathlib.Core.Path.{◌≡◌, refl, sym, ap, ◌∙◌}
use mathlib.Core.Bool.{Bool, true, false, ◌||◌, or-false}
use mathlib.Core.List.{List, [], ◌∷◌, ◌++◌, map}
use Prim.Native.Nat.{ℕ, zero, suc, ◌+◌, ◌-◌, ◌≤◌, ◌<◌}
use native.Mathlib.Omega.{arith}
use native.Mathlib.Decide.{ℕ_discrete}
use lib.ListN.{length, get_or, drop}
use lib.Dec.{ltb, leb}
use borrow.Author.Tests.{le-ltb, lt-leb, le-leb}
use Rattle.lists.specs.Joined.{up_from}
use Rattle.lists.specs.Linked.{met_from}
use Rattle.lists.specs.Searched.{some_below, same}
use Rattle.answers.specs.Answer.{first_that_applies, given, refused}
use Rattle.answers.specs.Length.{bad_length}
use Rattle.answers.proofs.Refusals.{row_applies, row_passed, rows_pass, answer_accepted, answer_refused}
use Rattle.grammar.specs.Layout.{start}
use Rattle.grammar.specs.Chains.{Rule, words_of, pairs_of, rest, chain}
use Rattle.grammar.specs.Refusals.{too_short, out_of_range, wrong_size, fits, bad_rule, bad_link, met_twice, on_no_chain, some_alike, repeated, Accepted}
use Rattle.grammar.specs.Trees.{leaf, node, sentence}
use Rattle.grammar.specs.FullList.{trees_to, trees}
use Rattle.counting.specs.Totals.{total_to, total, T}
use Rattle.counting.specs.Refusals.{most, AllFit, prepared_rows}
use Rattle.counting.specs.Answers.{count_of}
use Rattle.counting.proofs.Totals.{T_one}
use Rattle.counting.proofs.OneLength.{OneLength, words_alone, power, T_power}
use Rattle.counting.proofs.Ten.{needed_within}
use Rattle.ranking.specs.Answers.{entry_of, unrank_rows, unrank_of, rank_of}
use Rattle.history.specs.Layout.{two_at, record_words}
use Rattle.history.specs.Chain.{numbers_from}
use Rattle.history.specs.Heard.{makes_heard, heard}
use Rattle.history.specs.Refusals as history
use Rattle.sampling.specs.Pattern.{blank, bad_pattern}
use Rattle.sampling.specs.Question.{Question, plainly, matching}
use Rattle.sampling.specs.Unheard.{unheard, total_for, heard_of, left_of, ambiguous}
use Rattle.sampling.specs.Answers.{remaining_rows, remaining_of, drawn, draw_rows, draw_of, remaining_to, draw_to}
use Rattle.sampling.specs.Demand3.{Premises, Worded, SameBarred}
use Rattle.sampling.specs.Examples.{F, G, heard01, heard_twice, heard_in_five, broken_off, Matched, Examples}
use Rattle.sampling.proofs.Demand3.{demand_3, draw_accepted}
use Rattle.sampling.proofs.Premises.{prepared_pass, heard_single, premises_pass}

-- ---- the grammar F, and any other with its rules of nonterminals 0 and 1

-- T of S: four at length 2, and then twice as many at each length
doubled_le : (m k : ℕ) → power 2 m ≤ power 2 (k + m)
doubled_le m zero = let e : 0 + m ≡ m = omega arith in rw e (omega arith)
doubled_le m (suc k) = let e : suc k + m ≡ suc (k + m) = omega arith in rw e (omega (arith, doubled_le m k))

module _ (rules : ℕ → List Rule) (no_words : words_of (rules 0) ≡ []) (two_pairs : pairs_of (rules 0) ≡ (1, 1) ∷ (0, 1) ∷ []) (words : OneLength rules 1 1 2) where
  pub doubled : (m : ℕ) → T rules 0 (suc (suc m)) ≡ power 2 m
  doubled = T_power rules 0 1 2 no_words two_pairs words

  pub doubled_fits : (A m : ℕ) → A < 2 → 1 ≤ m → m ≤ 16 → T rules A m ≤ most
  doubled_fits zero zero a l u = absurd (omega arith)
  doubled_fits zero (suc zero) a l u = omega (arith, T_one rules 0, ap length no_words)
  doubled_fits zero (suc (suc m)) a l u =
      let e : 14 - m + m ≡ 14 = omega arith in
      omega (arith, doubled m, rw e at (doubled_le m (14 - m)))
  doubled_fits (suc zero) m a l u =
      elim (ℕ_discrete m 1) [
        | yes e ↦ rw e (omega (arith, words.here))
        | no ne ↦ omega (arith, words.elsewhere m ne)
      ]
  doubled_fits (suc (suc A)) m a l u = absurd (omega arith)

words_two : OneLength (chain F) 1 1 2
unfolding met_from rest
words_two = words_alone (chain F) 1 refl

T_first : T (chain F) 0 1 ≡ 0
unfolding met_from rest
T_first = T_one (chain F) 0

T_doubled : (m : ℕ) → T (chain F) 0 (suc (suc m)) ≡ power 2 m
unfolding met_from rest
T_doubled m = doubled (chain F) refl refl words_two m

pub F_accepted : Accepted F
unfolding first_that_applies too_short out_of_range wrong_size fits bad_rule bad_link met_twice on_no_chain some_alike repeated met_from some_below
F_accepted = refl

F_counts : (A m : ℕ) → A < 2 → 1 ≤ m → m ≤ 16 → T (chain F) A m ≤ most
unfolding met_from rest
F_counts = doubled_fits (chain F) refl refl words_two

pub F_fits : (n : ℕ) → 1 ≤ n → n ≤ 16 → AllFit (chain F) (λ p w. 1) 0 n
F_fits n l u A m a = let w = needed_within F n F_accepted l a in F_counts A m w.0 w.1 (omega (arith, w.2))

F_prepared : (n : ℕ) → 1 ≤ n → n ≤ 16 → first_that_applies (prepared_rows F n) ≡ 0
F_prepared n l u = prepared_pass F n F_accepted l u (F_fits n l u)

F_count : (n t : ℕ) → 1 ≤ n → n ≤ 16 → T (chain F) 0 n ≡ t → count_of F n ≡ given (t ∷ []) []
unfolding count_of
F_count n t l u e = answer_accepted (T (chain F) 0 n ∷ []) [] [] (F_prepared n l u) ∙ rw e

-- ---- *Give* and *Number*

F_eight : T (chain F) 0 3 ≡ 8
F_eight = T_doubled 1

entry_five : entry_of F 3 5 ≡ 1 ∷ 0 ∷ 1 ∷ []
unfolding trees trees_to met_from rest
entry_five = refl

gives_five : (out : List ℕ) → 3 ≤ length out → unrank_of F 3 5 out ≡ given (8 ∷ []) (1 ∷ 0 ∷ 1 ∷ drop 3 out)
unfolding unrank_of first_that_applies
gives_five out l =
    answer_accepted (T (chain F) 0 3 ∷ []) out (entry_of F 3 5 ++ drop 3 out)
    (rows_pass (prepared_rows F 3) ((leb (T (chain F) 0 3) 5, 16) ∷ (ltb (length out) 3, 20) ∷ []) refl (F_prepared 3 (omega arith) (omega arith))
    ∙ row_passed 16 ((ltb (length out) 3, 20) ∷ []) (lt-leb (T (chain F) 0 3) 5 (omega (arith, F_eight)))
    ∙ row_passed 20 [] (le-ltb (length out) 3 l))
    ∙ rw (F_eight, entry_five)

gives_no_eight : (out : List ℕ) → unrank_of F 3 8 out ≡ refused 16 1 out
unfolding unrank_of
gives_no_eight out =
    let e : first_that_applies (unrank_rows F 3 8 out) ≡ 16
    = rows_pass (prepared_rows F 3) ((leb (T (chain F) 0 3) 8, 16) ∷ (ltb (length out) 3, 20) ∷ []) refl (F_prepared 3 (omega arith) (omega arith))
    ∙ row_applies 16 ((ltb (length out) 3, 20) ∷ []) (le-leb (T (chain F) 0 3) 8 (omega (arith, F_eight))) in
    rw e (answer_refused 16 (T (chain F) 0 3 ∷ []) out (entry_of F 3 8 ++ drop 3 out) (omega arith))

ranks_101 : rank_of F (1 ∷ 0 ∷ 1 ∷ []) ≡ given (5 ∷ 8 ∷ 1 ∷ []) []
unfolding rank_of first_that_applies trees trees_to met_from rest
ranks_101 =
    answer_accepted (5 ∷ T (chain F) 0 3 ∷ 1 ∷ []) [] []
    (rows_pass (prepared_rows F 3) ((false, 17) ∷ []) refl (F_prepared 3 (omega arith) (omega arith)))
    ∙ rw F_eight

-- ---- *Left* and *Draw*

heard01_accepted : history.Accepted heard01
unfolding first_that_applies history.bad_size history.misfit history.bad_record history.bad_link history.bad_chain bad_length some_below two_at numbers_from met_from
heard01_accepted = refl

heard01_clear : ambiguous F heard01 (plainly 2 0) ≡ false
unfolding ambiguous makes_heard two_at record_words numbers_from trees trees_to met_from rest
heard01_clear = refl

-- the premises of demand 3, of a history that has no ambiguous sentence
pub premised : (g h : List ℕ) (a : Question) → Accepted g → 1 ≤ a.length → a.length ≤ 16 → a.voice ≤ 15 → AllFit (chain g) (λ p w. 1) (start g) a.length
    → history.Accepted h → ambiguous g h a ≡ false → Premises g h a
premised g h a bank l u v fit ok clear = record {
  bank = bank;
  some = l;
  short = u;
  voiced = v;
  counts = fit;
  diary = ok;
  single = (heard_single g h a ok).0 clear;
}

two_premises : (h : List ℕ) (v : ℕ) → v ≤ 15 → history.Accepted h → ambiguous F h (plainly 2 v) ≡ false → Premises F h (plainly 2 v)
two_premises h v l ok clear =
    premised F h (plainly 2 v) F_accepted (omega arith) (omega arith) l (F_fits 2 (omega arith) (omega arith)) ok clear

pub example_premises : Premises F heard01 (plainly 2 0)
example_premises = two_premises heard01 0 (omega arith) heard01_accepted heard01_clear

in_five_accepted : history.Accepted heard_in_five
unfolding first_that_applies history.bad_size history.misfit history.bad_record history.bad_link history.bad_chain bad_length some_below two_at numbers_from met_from
in_five_accepted = refl

in_five_clear : ambiguous F heard_in_five (plainly 2 5) ≡ false
unfolding ambiguous makes_heard two_at record_words numbers_from trees trees_to met_from rest
in_five_clear = refl

in_five_heard : heard heard_in_five 5 (0 ∷ 1 ∷ []) ≡ true
unfolding heard makes_heard some_below two_at record_words
in_five_heard = refl

pub example_voiced : Premises F heard_in_five (plainly 2 5) × (heard heard_in_five 5 (0 ∷ 1 ∷ []) ≡ true)
example_voiced = (two_premises heard_in_five 5 (omega arith) in_five_accepted in_five_clear, in_five_heard)

heard_one : heard_of F heard01 (plainly 2 0) ≡ 1
unfolding heard_of makes_heard two_at record_words numbers_from trees trees_to met_from rest
heard_one = refl

total_four : total_for F (plainly 2 0) ≡ 4
unfolding total_for trees trees_to met_from rest
total_four = refl

left_three : left_of F heard01 (plainly 2 0) ≡ 3
left_three = omega (arith, heard_one, total_four)

pub unheard_three : unheard F heard01 (plainly 2 0)
    ≡ record { number = 0; tree = node 0 (leaf 0 0) (leaf 0 0) }
    ∷ record { number = 2; tree = node 0 (leaf 1 1) (leaf 0 0) }
    ∷ record { number = 3; tree = node 0 (leaf 1 1) (leaf 1 1) }
    ∷ []
unfolding unheard heard makes_heard some_below two_at record_words trees trees_to met_from rest
unheard_three = refl

no_pattern : bad_pattern 2 [] ≡ false
unfolding bad_pattern
no_pattern = refl

passes : first_that_applies (remaining_rows F heard01 (plainly 2 0)) ≡ 0
passes = premises_pass F heard01 (plainly 2 0) example_premises no_pattern

left_of_two : remaining_of F heard01 2 0 ≡ given (4 ∷ 1 ∷ 3 ∷ []) []
unfolding remaining_to
left_of_two =
    answer_accepted (total_for F (plainly 2 0) ∷ heard_of F heard01 (plainly 2 0) ∷ left_of F heard01 (plainly 2 0) ∷ []) [] [] passes
    ∙ ap (λ (x : ℕ). given (x ∷ heard_of F heard01 (plainly 2 0) ∷ left_of F heard01 (plainly 2 0) ∷ []) []) total_four
    ∙ ap (λ (x : ℕ). given (4 ∷ x ∷ left_of F heard01 (plainly 2 0) ∷ []) []) heard_one
    ∙ ap (λ (x : ℕ). given (4 ∷ 1 ∷ x ∷ []) []) left_three

draw_below : (q : ℕ) (out : List ℕ) → q < 3 → 2 ≤ length out
    → draw_of F heard01 2 0 q out ≡ given (3 ∷ (drawn F heard01 (plainly 2 0) q).number ∷ []) (sentence (drawn F heard01 (plainly 2 0) q).tree ++ drop 2 out)
unfolding draw_to first_that_applies
draw_below q out h l =
    answer_accepted (left_of F heard01 (plainly 2 0) ∷ (drawn F heard01 (plainly 2 0) q).number ∷ []) out (sentence (drawn F heard01 (plainly 2 0) q).tree ++ drop 2 out)
    (rows_pass (remaining_rows F heard01 (plainly 2 0)) ((leb (left_of F heard01 (plainly 2 0)) q, 16) ∷ (ltb (length out) 2, 20) ∷ []) refl passes
    ∙ row_passed 16 ((ltb (length out) 2, 20) ∷ []) (lt-leb (left_of F heard01 (plainly 2 0)) q (omega (arith, left_three)))
    ∙ row_passed 20 [] (le-ltb (length out) 2 l))
    ∙ ap (λ (x : ℕ). given (x ∷ (drawn F heard01 (plainly 2 0) q).number ∷ []) (sentence (drawn F heard01 (plainly 2 0) q).tree ++ drop 2 out)) left_three

draws_three : (out : List ℕ) → 2 ≤ length out
    → map (λ q. draw_of F heard01 2 0 q out) (up_from 0 3)
    ≡ given (3 ∷ 0 ∷ []) (0 ∷ 0 ∷ drop 2 out) ∷ given (3 ∷ 2 ∷ []) (1 ∷ 0 ∷ drop 2 out) ∷ given (3 ∷ 3 ∷ []) (1 ∷ 1 ∷ drop 2 out) ∷ []
draws_three out l =
    rw (draw_below 0 out (omega arith) l, draw_below 1 out (omega arith) l, draw_below 2 out (omega arith) l, unheard_three)

draw_beyond : (out : List ℕ) → draw_of F heard01 2 0 3 out ≡ refused 16 2 out
unfolding draw_to
draw_beyond out =
    let e : first_that_applies (draw_rows F heard01 (plainly 2 0) 3 out) ≡ 16
    = rows_pass (remaining_rows F heard01 (plainly 2 0)) ((leb (left_of F heard01 (plainly 2 0)) 3, 16) ∷ (ltb (length out) 2, 20) ∷ []) refl passes
    ∙ row_applies 16 ((ltb (length out) 2, 20) ∷ []) (le-leb (left_of F heard01 (plainly 2 0)) 3 (omega (arith, left_three))) in
    rw e (answer_refused 16 (left_of F heard01 (plainly 2 0) ∷ (drawn F heard01 (plainly 2 0) 3).number ∷ []) out (sentence (drawn F heard01 (plainly 2 0) 3).tree ++ drop 2 out) (omega arith))

-- ---- a pattern: of the two sentences that end in 1 the first is heard, and the other has the number 3 among all

abbrev ending : Question
ending = matching (blank ∷ 1 ∷ []) 0

ending_worded : Worded F ending
unfolding bad_pattern
ending_worded = refl

ending_clear : ambiguous F heard01 ending ≡ false
unfolding ambiguous makes_heard two_at record_words numbers_from trees trees_to met_from rest
ending_clear = refl

ending_premises : Premises F heard01 ending
ending_premises = premised F heard01 ending F_accepted (omega arith) (omega arith) (omega arith) (F_fits 2 (omega arith) (omega arith)) heard01_accepted ending_clear

ending_two : total_for F ending ≡ 2
unfolding total_for trees trees_to met_from rest
ending_two = refl

ending_heard : heard_of F heard01 ending ≡ 1
unfolding heard_of makes_heard two_at record_words numbers_from trees trees_to met_from rest
ending_heard = refl

ending_unheard : unheard F heard01 ending ≡ record { number = 3; tree = node 0 (leaf 1 1) (leaf 1 1) } ∷ []
unfolding unheard heard makes_heard some_below two_at record_words trees trees_to met_from rest
ending_unheard = refl

pub example_matched : Matched
example_matched = record {
  premises = ending_premises;
  worded = ending_worded;
  left = (demand_3 F heard01 ending ending_premises ending_worded).left ∙ rw (ending_two, ending_heard, ending_unheard);
  draw = λ out l.
      let one : 0 < length (unheard F heard01 ending) = omega (arith, ap length ending_unheard) in
      draw_accepted F heard01 ending ending_premises ending_worded 0 out one l ∙ rw ending_unheard;
}

-- ---- the grammar G

G_accepted : Accepted G
unfolding first_that_applies too_short out_of_range wrong_size fits bad_rule bad_link met_twice on_no_chain some_alike repeated met_from some_below
G_accepted = refl

G_totals : map (T (chain G) 0) (up_from 1 4) ≡ 1 ∷ 1 ∷ 2 ∷ 5 ∷ []
unfolding total total_to met_from rest
G_totals = refl

G_counts : (A m : ℕ) → A < 1 → 1 ≤ m → m ≤ 4 → T (chain G) A m ≤ most
G_counts zero zero a l u = absurd (omega arith)
G_counts zero (suc zero) a l u = omega (arith, ap (λ (x : List ℕ). get_or x 0 0) G_totals)
G_counts zero (suc (suc zero)) a l u = omega (arith, ap (λ (x : List ℕ). get_or x 1 0) G_totals)
G_counts zero (suc (suc (suc zero))) a l u = omega (arith, ap (λ (x : List ℕ). get_or x 2 0) G_totals)
G_counts zero (suc (suc (suc (suc zero)))) a l u = omega (arith, ap (λ (x : List ℕ). get_or x 3 0) G_totals)
G_counts zero (suc (suc (suc (suc (suc m))))) a l u = absurd (omega arith)
G_counts (suc A) m a l u = absurd (omega arith)

G_fits : (n : ℕ) → 1 ≤ n → n ≤ 4 → AllFit (chain G) (λ p w. 1) 0 n
G_fits n l u A m a = let w = needed_within G n G_accepted l a in G_counts A m w.0 w.1 (omega (arith, w.2))

G_prepared : (n : ℕ) → 1 ≤ n → n ≤ 4 → first_that_applies (prepared_rows G n) ≡ 0
G_prepared n l u = prepared_pass G n G_accepted l (omega arith) (G_fits n l u)

G_count : (n t : ℕ) → 1 ≤ n → n ≤ 4 → T (chain G) 0 n ≡ t → count_of G n ≡ given (t ∷ []) []
unfolding count_of
G_count n t l u e = answer_accepted (T (chain G) 0 n ∷ []) [] [] (G_prepared n l u) ∙ rw e

two_readings : rank_of G (0 ∷ 0 ∷ 0 ∷ []) ≡ given (0 ∷ 2 ∷ 2 ∷ []) []
unfolding rank_of first_that_applies trees trees_to met_from rest
two_readings =
    answer_accepted (0 ∷ T (chain G) 0 3 ∷ 2 ∷ []) [] []
    (rows_pass (prepared_rows G 3) ((false, 17) ∷ []) refl (G_prepared 3 (omega arith) (omega arith)))
    ∙ rw (ap (λ (x : List ℕ). get_or x 2 0) G_totals)

-- ---- a record that was broken off

broken_accepted : history.Accepted broken_off
unfolding first_that_applies history.bad_size history.misfit history.bad_record history.bad_link history.bad_chain bad_length some_below two_at numbers_from met_from
broken_accepted = refl

broken_clear : ambiguous G broken_off (plainly 3 0) ≡ false
unfolding ambiguous makes_heard two_at record_words numbers_from met_from
broken_clear = refl

broken_unheard : heard broken_off 0 (0 ∷ 0 ∷ 0 ∷ []) ≡ false
unfolding heard makes_heard some_below two_at record_words
broken_unheard = refl

pub example_broken : Premises G broken_off (plainly 3 0) × (heard broken_off 0 (0 ∷ 0 ∷ 0 ∷ []) ≡ false)
example_broken = (
  premised G broken_off (plainly 3 0) G_accepted (omega arith) (omega arith) (omega arith) (G_fits 3 (omega arith) (omega arith)) broken_accepted broken_clear,
  broken_unheard,
)

-- ---- all of them

pub examples : Examples
examples =
    record {
      p1 = F_count 1 0 (omega arith) (omega arith) T_first;
      p2 = F_count 2 4 (omega arith) (omega arith) (T_doubled 0);
      p3 = F_count 16 65536 (omega arith) (omega arith) (T_doubled 14);
      p4 = gives_five;
      p5 = gives_no_eight;
      p6 = ranks_101;
      p7 = left_of_two;
      p7_draws = draws_three;
      p8 = draw_beyond;
      p9 = G_count 3 2 (omega arith) (omega arith) (ap (λ (x : List ℕ). get_or x 2 0) G_totals);
      p9_four = G_count 4 5 (omega arith) (omega arith) (ap (λ (x : List ℕ). get_or x 3 0) G_totals);
      p10 = two_readings;
    }

-- ---- two histories that bar the same

-- a sentence is heard in either exactly if it is 0 1
heard_once : (s : List ℕ) → heard heard01 0 s ≡ same (0 ∷ 1 ∷ []) s
unfolding heard makes_heard some_below two_at record_words
heard_once s = or-false (same (0 ∷ 1 ∷ []) s)

heard_twice_lem : (s : List ℕ) → heard heard_twice 0 s ≡ same (0 ∷ 1 ∷ []) s
unfolding heard makes_heard some_below two_at record_words
heard_twice_lem s = go (same (0 ∷ 1 ∷ []) s)
  where
    go : (b : Bool) → (b || (b || false)) ≡ b
    go true = refl
    go false = refl

twice_accepted : history.Accepted heard_twice
unfolding first_that_applies history.bad_size history.misfit history.bad_record history.bad_link history.bad_chain bad_length some_below two_at numbers_from met_from
twice_accepted = refl

pub logged_twice : history.Accepted heard01 × history.Accepted heard_twice × SameBarred F heard01 heard_twice (plainly 2 0)
logged_twice = (
  example_premises.diary,
  twice_accepted,
  λ s l.
      let e : heard heard01 0 s ≡ heard heard_twice 0 s = heard_once s ∙ sym (heard_twice_lem s) in
      (λ b. (sym e ∙ b.0, b.1), λ b. (e ∙ b.0, b.1)),
)
