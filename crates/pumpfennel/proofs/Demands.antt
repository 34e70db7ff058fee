-- The demands hold. Demand 1's part on refusals is how every answer is made; demands 2 and 3 and the examples stand in the crates `ranking`
-- and `sampling`, the draw by weights in `weighing`.
-- Assumes nothing.
use mathlib.Core.Path.{◌≡◌, refl, sym, ap, ◌∙◌}
use mathlib.Core.Logic.{◌≢◌}
use mathlib.Core.Bool.{and-false}
use mathlib.Core.List.{List, [], ◌∷◌, ◌++◌}
use Prim.Native.Nat.{ℕ, suc, ◌≤◌}
use native.Mathlib.Omega.{arith}
use borrow.Author.Tests.{ne_eqb}
use lib.Dec.{eqb}
use lib.ListN.{length, drop}
use Rattle.answers.specs.Answer.{Row, Answer, first_that_applies, answer}
use Rattle.answers.proofs.Refusals.{answer_number, answer_refused}
use Rattle.grammar.specs.Layout.{nonterminals, words}
use Rattle.grammar.specs.Trees.{sentence}
use Rattle.grammar.specs.Refusals.{grammar_rows}
use Rattle.grammar.specs.Answers.{check_grammar}
use Rattle.counting.specs.Refusals.{prepared_rows}
use Rattle.counting.specs.Answers.{count_of}
use Rattle.counting.proofs.Ten.{ten, counts_small}
use Rattle.history.specs.Layout.{records_of}
use Rattle.history.specs.Refusals as history
use Rattle.history.specs.Refusals.{history_rows}
use Rattle.history.specs.Heard.{heard}
use Rattle.history.specs.Playback.{Playback}
use Rattle.history.specs.Writing.{appended}
use Rattle.history.specs.Answers.{check_history, append_rows, append_of}
use Rattle.history.proofs.Appended.{logs, logged}
use Rattle.ranking.specs.Answers.{total_of, entry_of, readings_of, number_of, unrank_rows, unrank_of, rank_rows, rank_of}
use Rattle.ranking.proofs.Demand2.{demand_2}
use Rattle.sampling.specs.Pattern.{bad_pattern}
use Rattle.sampling.specs.Question.{Question, plainly}
use Rattle.sampling.specs.Demand3.{Single, Premises, Worded, SameBarred, Alike}
use Rattle.sampling.specs.Unheard.{total_for, heard_of, left_of}
use Rattle.sampling.specs.Answers.{drawn, remaining_rows, remaining_to, draw_rows, draw_to}
use Rattle.sampling.proofs.Premises.{premises, fifteen}
use Rattle.sampling.proofs.Demand3.{demand_3, once, alike}
use Rattle.sampling.proofs.Examples.{examples, example_premises, example_voiced, example_broken, example_matched, logged_twice}
use Rattle.sampling.proofs.Blanks.{unpatterned, all_blank, no_blank}
use Rattle.weighing.specs.Weights.{tickets_of}
use Rattle.weighing.specs.Weighted.{owner_of, draw_weighted_rows, draw_weighted}
use Rattle.weighing.proofs.Weighing.{twenty_five}
use Rattle.weighing.proofs.Laws.{weighted, holding, weighted_alike, all_ones}
use Rattle.weighing.proofs.Examples.{instance_drawn}
use Rattle.matrix.specs.Table.{table}
use Rattle.matrix.proofs.Rules.{is_accepted}
use Rattle.matrix.proofs.Counts.{sentences_of_five, no_others}
use Rattle.matrix.proofs.Single.{no_two, counts_fit}
use Rattle.pumpfennel.specs.Demands.{Refuses, Demand1, Demands}
use Rattle.pumpfennel.proofs.Earlier.{former_voices, former_playbacks}
use Rattle.pumpfennel.proofs.OneMore.{one_more, only_19, in_order, goes_on, met}
use Rattle.pumpfennel.proofs.Former.{former_numbers, former_answers}

-- an answer by its list of refusals
refuses : (rows : List Row) (figures before after : List ℕ) → Refuses rows (length figures) before (answer rows figures before after)
refuses rows figures before after =
    let n = first_that_applies rows in
    let number = answer_number n figures before after in
    record {
      first = number;
      figures = λ h. ap (λ (a : Answer). a.figures) (answer_refused n figures before after (rw number at h));
      buffer = λ h. ap (λ (a : Answer). a.buffer) (answer_refused n figures before after (rw number at h));
    }

demand_1 : Demand1
unfolding check_grammar check_history count_of unrank_of rank_of remaining_to draw_to append_of draw_weighted
demand_1 = record {
  check_bank = λ g. refuses (grammar_rows g) (nonterminals g ∷ words g ∷ []) [] [];
  check_diary = λ h. refuses (history_rows h) (records_of h ∷ []) [] [];
  count = λ g n. refuses (prepared_rows g n) (total_of g n ∷ []) [] [];
  give = λ g n d out. refuses (unrank_rows g n d out) (total_of g n ∷ []) out (entry_of g n d ++ drop n out);
  number = λ g s. refuses (rank_rows g s) (number_of g s ∷ total_of g (length s) ∷ readings_of g s ∷ []) [] [];
  left = λ g h a. refuses (remaining_rows g h a) (total_for g a ∷ heard_of g h a ∷ left_of g h a ∷ []) [] [];
  draw = λ g h a q out. refuses (draw_rows g h a q out) (left_of g h a ∷ (drawn g h a q).number ∷ []) out (sentence (drawn g h a q).tree ++ drop a.length out);
  draw_weighted_lem = λ g h n v weights t out.
      let owner = owner_of g h n v weights t in
      refuses (draw_weighted_rows g h n v weights t out) (length (tickets_of g h n v weights) ∷ owner.number ∷ []) out (sentence owner.tree ++ drop n out);
  log = λ h p. refuses (append_rows h p) (suc (records_of h) ∷ []) h (appended h p);
}

-- ---- a log that was broken off: what is heard is as it was, in every voice

still_heard : (h : List ℕ) (p : Playback) → (append_of h p).refusal ≡ 0 → p.played ≢ 0 → (v : ℕ) (s : List ℕ) → heard (appended h p) v s ≡ heard h v s
still_heard h p ok n v s = (logged h p ok).after v s ∙ rw (ne_eqb p.played 0 n, and-false (eqb p.voice v))

still_barred : (h : List ℕ) (p : Playback) → (append_of h p).refusal ≡ 0 → p.played ≢ 0 → (g : List ℕ) (a : Question) → SameBarred g (appended h p) h a
still_barred h p ok n g a s l = let e = still_heard h p ok n a.voice s in (λ b. (sym e ∙ b.0, b.1), λ b. (e ∙ b.0, b.1))

broken_off_lem : (h : List ℕ) (p : Playback) → (append_of h p).refusal ≡ 0 → p.played ≢ 0 → (g : List ℕ) (a : Question) → Alike g (appended h p) h a
broken_off_lem h p ok n g a = alike g (appended h p) h a (logged h p ok).accepted (logs h p ok).accepted (still_barred h p ok n g a)

weighted_broken_off : (h : List ℕ) (p : Playback) → (append_of h p).refusal ≡ 0 → p.played ≢ 0
    → (g : List ℕ) (n v : ℕ) (weights : List ℕ) (t : ℕ) (out : List ℕ) → draw_weighted g (appended h p) n v weights t out ≡ draw_weighted g h n v weights t out
weighted_broken_off h p ok k g n v weights t out =
    weighted_alike g (appended h p) h n v weights (logged h p ok).accepted (logs h p ok).accepted (still_barred h p ok k g (plainly n v)) t out

-- ---- the house matrix bank

house_single : (s : List ℕ) → Single table s
house_single s t u dt du st su = no_two (length s) (length s) t u dt du (st ∙ sym su)

house_premises : (h : List ℕ) (v : ℕ) → history.Accepted h → v ≤ 15 → Premises table h (plainly 5 v)
house_premises h v diary voiced = record {
  bank = is_accepted;
  some = omega arith;
  short = omega arith;
  voiced = voiced;
  counts = (counts_small table 5).0 counts_fit;
  diary = diary;
  single = λ s l e. house_single s;
}

house_worded : (v : ℕ) → Worded table (plainly 5 v)
unfolding bad_pattern
house_worded v = refl

pub demands : Demands
demands = record {
  one = demand_1;
  two = demand_2;
  three = demand_3;
  once = once;
  alike = alike;
  premises = premises;
  unpatterned = unpatterned;
  all_blank = all_blank;
  weighted = weighted;
  holding = holding;
  weighted_alike = weighted_alike;
  all_ones = all_ones;
  twenty_five = twenty_five;
  no_blank = no_blank;
  logged = logged;
  broken_off_lem = broken_off_lem;
  weighted_broken_off = weighted_broken_off;
  one_more = one_more;
  only_19 = only_19;
  in_order = in_order;
  goes_on = goes_on;
  voices = former_voices;
  playbacks = former_playbacks;
  ten = ten;
  former = former_answers;
  numbers = former_numbers;
  fifteen = fifteen;
  instance = example_premises;
  voiced = example_voiced;
  broken = example_broken;
  matched = example_matched;
  weighed = instance_drawn;
  met = met;
  logged_twice = logged_twice;
  house = record { accepted = is_accepted; five = sentences_of_five; others = no_others; single = house_single };
  house_once = λ h v diary voiced. once table h (plainly 5 v) (house_premises h v diary voiced) (house_worded v) (λ s l. house_single s);
  examples = examples;
}
