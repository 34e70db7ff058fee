-- What demand 3 asks of a grammar, a history and a question is just what *Left* needs to accept them: line by line, a refusal that doesn't
-- apply says one of the premises, and the other way round. Line 15 doesn't apply exactly if no heard sentence of the length has two
-- derivations, as the derivations of a sentence can be listed, each once.
-- Assumes nothing.
use mathlib.Core.Path.{◌≡◌, refl, sym, ◌∙◌}
use mathlib.Core.Logic.{◌↔◌}
use mathlib.Core.Bool.{true, false}
use mathlib.Core.List.{List, [], ◌∷◌, ◌++◌}
use Prim.Native.Nat.{ℕ, ◌≤◌, ◌<◌}
use native.Mathlib.Omega.{arith}
use lib.ListN.{length}
use lib.Dec.{leb}
use borrow.Author.Tests.{ltb-false, leb-true, le-leb, lt-leb, le-ltb}
use Rattle.lists.proofs.Orders.{few_same, same_few}
use Rattle.lists.proofs.Tests.{within_facts, within_both, some_∈, ∈_some, some_clear}
use Rattle.answers.specs.Answer.{Row, first_that_applies}
use Rattle.answers.specs.Length.{bad_length}
use Rattle.answers.specs.Voice.{bad_voice}
use Rattle.answers.proofs.Refusals.{row_passed, row_clear, rows_pass, rows_clear, answer_number}
use Rattle.grammar.specs.Layout.{words, start}
use Rattle.grammar.specs.Chains.{chain}
use Rattle.grammar.specs.Refusals.{grammar_rows, Accepted}
use Rattle.counting.specs.Refusals.{AllFit, too_large, prepared_rows}
use Rattle.counting.specs.Answers.{count_of}
use Rattle.counting.proofs.Ten.{counts_small}
use Rattle.ranking.specs.Answers.{readings_of}
use Rattle.ranking.proofs.Demand2.{exactly_readings, figure_readings}
use Rattle.history.specs.Refusals as history
use Rattle.history.specs.Heard.{heard}
use Rattle.sampling.specs.Pattern.{bad_pattern}
use Rattle.sampling.specs.Question.{Question}
use Rattle.sampling.specs.Unheard.{of_length, total_for, heard_of, left_of, ambiguous, derivations_given, Fifteen}
use Rattle.sampling.specs.Answers.{asked_rows, remaining_rows, remaining_to}
use Rattle.sampling.specs.Demand3.{Single, Premises, Worded}
use Rattle.sampling.proofs.Barred.{length_∈, ∈_length, few_readings}

-- ---- 9

pub length_within : (n : ℕ) → (bad_length n ≡ false) ↔ ((1 ≤ n) × (n ≤ 16))
unfolding bad_length
length_within n = (within_facts 1 16 n, λ q. within_both 1 16 n q.0 q.1)

-- ---- none of 1 to 10 applies

pub prepared_pass : (g : List ℕ) (n : ℕ) → Accepted g → 1 ≤ n → n ≤ 16 → AllFit (chain g) (λ p w. 1) (start g) n → first_that_applies (prepared_rows g n) ≡ 0
unfolding first_that_applies
prepared_pass g n ok l u c =
    rows_pass (grammar_rows g) ((bad_length n, 9) ∷ (too_large g n, 10) ∷ []) refl ok
    ∙ row_passed 9 ((too_large g n, 10) ∷ []) ((length_within n).1 (l, u))
    ∙ row_passed 10 [] ((counts_small g n).1 c)

-- nor any of 1 to 9, 22, 10 and 21
pub asked_pass : (g : List ℕ) (a : Question) → Accepted g → 1 ≤ a.length → a.length ≤ 16 → a.voice ≤ 15 → AllFit (chain g) (λ p w. 1) (start g) a.length
    → Worded g a → first_that_applies (asked_rows g a) ≡ 0
unfolding first_that_applies
asked_pass g a ok l u v c b =
    let last : List Row = (bad_pattern (words g) a.pattern, 21) ∷ [] in
    let rest : List Row = (bad_voice a.voice, 22) ∷ (too_large g a.length, 10) ∷ last in
    rows_pass (grammar_rows g) ((bad_length a.length, 9) ∷ rest) refl ok
    ∙ row_passed 9 rest ((length_within a.length).1 (l, u))
    ∙ row_passed 22 ((too_large g a.length, 10) ∷ last) (le-ltb 15 a.voice v)
    ∙ row_passed 10 last ((counts_small g a.length).1 c)
    ∙ row_passed 21 [] b

-- ---- 15

-- two derivations of one sentence are one, where fewer than two are counted
pub single_readings : (g s : List ℕ) → Single g s ↔ (readings_of g s < 2)
single_readings g s =
    let e = exactly_readings g s in (
      λ single. rw e.many at (same_few e.listed e.once
          (λ t u m k. let p = (e.all t).1 m in let q = (e.all u).1 k in single t u p.0 q.0 p.1 q.1)),
      λ few t u dt du st su. few_same e.listed (rw e.many few) t u ((e.all t).0 (dt, st)) ((e.all u).0 (du, su)),
    )

-- 15, by what *Number* says of a heard sentence
pub fifteen : (g h : List ℕ) (a : Question) → (count_of g a.length).refusal ≡ 0 → history.Accepted h → Fifteen g h a
unfolding ambiguous
fifteen g h a ok diary =
    let given : (s : List ℕ) → length s ≡ a.length → derivations_given g s ≡ readings_of g s = λ s l. figure_readings g s (rw l ok) in (
      λ e.
          let q = ∈_some (λ s. leb 2 (readings_of g s)) (of_length h a) e in
          let r = length_∈ g h a diary q.0 q.1 in
          (q.0, r.1, r.0, omega (arith, given q.0 r.1, leb-true 2 (readings_of g q.0) q.2)),
      λ q.
          some_∈ (λ s. leb 2 (readings_of g s)) q.0 (of_length h a) (∈_length g h a diary q.0 q.2 q.1)
          (le-leb 2 (readings_of g q.0) (omega (arith, given q.0 q.1, q.3))),
    )

-- with an accepted history
module _ (g h : List ℕ) (a : Question) (diary : history.Accepted h) where
  clear_single : ambiguous g h a ≡ false → (s : List ℕ) → length s ≡ a.length → heard h a.voice s ≡ true → Single g s
  clear_single e s l k = (single_readings g s).1 (few_readings g h a diary e s (∈_length g h a diary s k l))

  single_clear : ((s : List ℕ) → length s ≡ a.length → heard h a.voice s ≡ true → Single g s) → ambiguous g h a ≡ false
  unfolding ambiguous
  single_clear f =
      some_clear (λ s. leb 2 (readings_of g s)) (of_length h a)
      (λ s m. let q = length_∈ g h a diary s m in lt-leb 2 (readings_of g s) ((single_readings g s).0 (f s q.1 q.0)))

  pub heard_single : (ambiguous g h a ≡ false) ↔ ((s : List ℕ) → length s ≡ a.length → heard h a.voice s ≡ true → Single g s)
  heard_single = (clear_single, single_clear)

-- ---- all lines

-- what the lines 1 to 9, 22, 10 and 21 leave of a grammar and a question
record Asked (g : List ℕ) (a : Question) : Type 0 where
  pub bank : Accepted g
  pub some : 1 ≤ a.length
  pub short : a.length ≤ 16
  pub voiced : a.voice ≤ 15
  pub counts : AllFit (chain g) (λ p w. 1) (start g) a.length
  pub fitted : Worded g a

asked_clear : (g : List ℕ) (a : Question) → first_that_applies (asked_rows g a) ≡ 0 → Asked g a
asked_clear g a e =
    let p : List Row = (bad_pattern (words g) a.pattern, 21) ∷ [] in
    let v : List Row = (bad_voice a.voice, 22) ∷ (too_large g a.length, 10) ∷ p in
    let b = rows_clear (grammar_rows g) ((bad_length a.length, 9) ∷ v) refl e in
    let c = row_clear 9 v (bad_length a.length) (omega arith) b.1 in
    let d = row_clear 22 ((too_large g a.length, 10) ∷ p) (bad_voice a.voice) (omega arith) c.1 in
    let f = row_clear 10 p (too_large g a.length) (omega arith) d.1 in
    let q = row_clear 21 [] (bad_pattern (words g) a.pattern) (omega arith) f.1 in
    let l = (length_within a.length).0 c.0 in
    record { bank = b.0; some = l.0; short = l.1; voiced = ltb-false 15 a.voice d.0; counts = (counts_small g a.length).0 f.0; fitted = q.0 }

module _ (g h : List ℕ) (a : Question) where
  pub remaining_refusal : (remaining_to g h a).refusal ≡ first_that_applies (remaining_rows g h a)
  unfolding remaining_to
  remaining_refusal = answer_number (first_that_applies (remaining_rows g h a)) (total_for g a ∷ heard_of g h a ∷ left_of g h a ∷ []) [] []

  pub premises_pass : Premises g h a → Worded g a → first_that_applies (remaining_rows g h a) ≡ 0
  unfolding first_that_applies
  premises_pass p b =
      rows_pass (asked_rows g a) (history.history_rows h ++ ((ambiguous g h a, 15) ∷ [])) refl
      (asked_pass g a p.bank p.some p.short p.voiced p.counts b)
      ∙ rows_pass (history.history_rows h) ((ambiguous g h a, 15) ∷ []) refl p.diary
      ∙ row_passed 15 [] ((heard_single g h a p.diary).1 p.single)

  pub pass_premises : first_that_applies (remaining_rows g h a) ≡ 0 → Premises g h a × Worded g a
  pass_premises e =
      let b = rows_clear (asked_rows g a) (history.history_rows h ++ ((ambiguous g h a, 15) ∷ [])) refl e in
      let c = rows_clear (history.history_rows h) ((ambiguous g h a, 15) ∷ []) refl b.1 in
      let d = asked_clear g a b.0 in
      let k = row_clear 15 [] (ambiguous g h a) (omega arith) c.1 in
      let p : Premises g h a = record {
        bank = d.bank;
        some = d.some;
        short = d.short;
        voiced = d.voiced;
        counts = d.counts;
        diary = c.0;
        single = (heard_single g h a c.0).0 k.0;
      } in
      (p, d.fitted)

  -- the premises of demand 3, with that 21 doesn't apply, hold exactly where *Left* isn't refused
  pub premises : (Premises g h a × Worded g a) ↔ ((remaining_to g h a).refusal ≡ 0)
  premises = (λ p. remaining_refusal ∙ premises_pass p.0 p.1, λ e. pass_premises (sym remaining_refusal ∙ e))
