-- Patterns: the test whether some byte is bad; that n blanks ask for nothing, so that a call with them is the plain call; and that a pattern
-- without a blank asks for one sentence.
-- Assumes nothing.
use mathlib.Core.Path.{◌≡◌, refl, sym, ap, ◌∙◌}
use mathlib.Core.Bool.{Bool, true, false, not, ◌&&◌, ◌||◌}
use mathlib.Core.List.{List, [], ◌∷◌, ◌++◌}
use Prim.Native.Nat.{ℕ, zero, suc}
use native.Mathlib.Omega.{arith}
use borrow.Author.Tests.{eqb-true, eq-eqb}
use lib.Dec.{ltb, leb, eqb}
use lib.ListN.{length, get_or, drop, length-replicate}
use Rattle.std.specs.List.{list_any}
use Rattle.lists.specs.Joined.{◌∈◌}
use Rattle.lists.specs.Searched.{bit, some_of, same, keep}
use Rattle.lists.proofs.Sums.{sum_ext, sum_one}
use Rattle.lists.proofs.Tests.{and_left, and_right, or_left, or_right, both_ways, same_eq, same_refl}
use Rattle.lists.proofs.Strikes.{keep_∈, keep_ext, keep_all, keep_none}
use Rattle.answers.specs.Answer.{Row, Answer, answer}
use Rattle.grammar.specs.Layout.{words}
use Rattle.grammar.specs.Trees.{Tree, sentence}
use Rattle.counting.specs.Refusals.{too_large, open_rows}
use Rattle.answers.specs.Voice.{bad_voice}
use Rattle.ranking.specs.Answers.{full_list, derives, readings_of}
use Rattle.ranking.proofs.Demand2.{listed_total, exactly_readings}
use Rattle.history.specs.Refusals.{history_rows}
use Rattle.history.specs.Heard.{sentences_in, heard}
use Rattle.sampling.specs.Pattern.{blank, matches, bad_pattern}
use Rattle.sampling.specs.Question.{Question, plainly, matching}
use Rattle.sampling.specs.Unheard.{Entry, entries_from, outside, suits, unheard, total_for, distinct, of_length, heard_of, left_of, ambiguous}
use Rattle.sampling.specs.Answers.{remaining_rows, remaining_to, remaining_matching, draw_to}
use Rattle.sampling.specs.Blanks.{blanks, AllBlank, left_given, NoBlank, Full, Unpatterned}
use Rattle.sampling.specs.Inner.Collect.{fitting_at}
use Rattle.sampling.proofs.Barred.{distinct_∈, listed_length, entry, no_entry, fitting_∈, fitting_length, free, unheard_length}
use Rattle.sampling.proofs.Premises.{premises}
use Rattle.sampling.proofs.Demand3.{entries_∈, demand_3}

-- ---- what the code's `any` tests is what the specification's `some_of` says

pub any_some : (P : ℕ → Bool) (l : List ℕ) → list_any P l ≡ some_of P l
any_some P [] = refl
any_some P (x ∷ l) = ap (λ b. P x || b) (any_some P l)

-- ---- two patterns that the same sentences of a length fit

module _ (g h : List ℕ) (n v : ℕ) (p q : List ℕ) (agree : (s : List ℕ) → length s ≡ n → matches p s ≡ matches q s) where
  -- the questions
  abbrev a : Question
  a = record { length = n; voice = v; pattern = p }

  abbrev b : Question
  b = record { length = n; voice = v; pattern = q }

  suits_same : (t : Tree) → t ∈ full_list g n → suits a t ≡ suits b t
  suits_same t m = agree (sentence t) (listed_length g n t m)

  total_same : total_for g a ≡ total_for g b
  unfolding total_for
  total_same = sum_ext (λ t. bit (suits a t)) (λ t. bit (suits b t)) (full_list g n) (λ t m. ap bit (suits_same t m))

  heard_same : heard_of g h a ≡ heard_of g h b
  unfolding heard_of
  heard_same =
      let one = keep (λ s. eqb (readings_of g s) 1) (of_length h (plainly n v)) in
      ap length
      (keep_ext (matches p) (matches q) (distinct one)
      (λ s m.
      let k = keep_∈ (λ s. eqb (readings_of g s) 1) (of_length h (plainly n v)) s (distinct_∈ one s m) in
      agree s (eqb-true (length s) n (keep_∈ (λ s. eqb (length s) n) (sentences_in h v) s k.0).1)))

  unheard_same : unheard g h a ≡ unheard g h b
  unfolding unheard
  unheard_same =
      keep_ext (λ (e : Entry). suits a e.tree && outside h v e.tree) (λ (e : Entry). suits b e.tree && outside h v e.tree) (entries_from 0 (full_list g n))
      (λ e m. ap (λ (c : Bool). c && outside h v e.tree) (suits_same e.tree (entries_∈ 0 (full_list g n) m)))

  left_same : left_of g h a ≡ left_of g h b
  left_same = rw (total_same, heard_same)

  -- and 21 applies to both or to neither
  module _ (bad : bad_pattern (words g) p ≡ bad_pattern (words g) q) where
    rows_same : remaining_rows g h a ≡ remaining_rows g h b
    unfolding ambiguous
    rows_same =
        ap (λ (c : Bool). open_rows g n ++ ((bad_voice v, 22) ∷ (too_large g n, 10) ∷ (c, 21) ∷ []) ++ (history_rows h ++ ((ambiguous g h (plainly n v), 15) ∷ []))) bad

    pub remaining_same : remaining_to g h a ≡ remaining_to g h b
    unfolding remaining_to
    remaining_same = rw (rows_same, total_same, heard_same)

    -- a draw's answer, by the lines before 16, left and the unheard list
    abbrev made : (k : ℕ) (out : List ℕ) → List Row → ℕ → List Entry → Answer
    made k out rows l u =
        answer (rows ++ ((leb l k, 16) ∷ (ltb (length out) n, 20) ∷ [])) (l ∷ (get_or u k (entry no_entry)).number ∷ []) out
        (sentence (get_or u k (entry no_entry)).tree ++ drop n out)

    pub draw_same : (k : ℕ) (out : List ℕ) → draw_to g h a k out ≡ draw_to g h b k out
    unfolding draw_to
    draw_same k out =
        ap (λ (rows : List Row). made k out rows (left_of g h a) (unheard g h a)) rows_same
        ∙ ap (λ (l : ℕ). made k out (remaining_rows g h b) l (unheard g h a)) left_same
        ∙ ap (made k out (remaining_rows g h b) (left_of g h b)) unheard_same

-- ---- n blanks

blanks_match : (n : ℕ) (s : List ℕ) → length s ≡ n → matches (blanks n) s ≡ true
blanks_match zero [] e = refl
blanks_match zero (w ∷ s) e = absurd (omega arith)
blanks_match (suc n) [] e = absurd (omega arith)
blanks_match (suc n) (w ∷ s) e = blanks_match n s (omega arith)

blanks_pass : (W n : ℕ) → bad_pattern W (blanks n) ≡ bad_pattern W []
unfolding bad_pattern
blanks_pass W zero = refl
blanks_pass W (suc n) = blanks_pass W n

-- the question of n blanks has the length n
blanks_asked : (n v : ℕ) → matching (blanks n) v ≡ record { length = n; voice = v; pattern = blanks n }
blanks_asked n v = ap (λ (m : ℕ). record { length = m; voice = v; pattern = blanks n }) (length-replicate n blank)

pub all_blank : (g h : List ℕ) (n v : ℕ) → AllBlank g h n v
all_blank g h n v =
    let agree : (s : List ℕ) → length s ≡ n → matches (blanks n) s ≡ matches [] s = blanks_match n in
    record {
      left = ap (remaining_to g h) (blanks_asked n v) ∙ remaining_same g h n v (blanks n) [] agree (blanks_pass (words g) n);
      draw = λ q out. ap (λ (a : Question). draw_to g h a q out) (blanks_asked n v) ∙ draw_same g h n v (blanks n) [] agree (blanks_pass (words g) n) q out;
    }

-- ---- no blank

-- such a pattern is fitted by one sentence alone
full_match : (p s : List ℕ) → Full p → length s ≡ length p → matches p s ≡ true → s ≡ p
full_match [] [] f e m = refl
full_match [] (w ∷ s) f e m = absurd (omega arith)
full_match (x ∷ p) [] f e m = absurd (omega arith)
full_match (x ∷ p) (w ∷ s) f e m =
    let no_blank = or_left (eqb x blank) (some_of (λ y. eqb y blank) p) f in
    let here = and_left (eqb x blank || eqb x w) (matches p s) m in
    let word : eqb x w ≡ true = rw no_blank at here in
    let tail = full_match p s (or_right (eqb x blank) (some_of (λ y. eqb y blank) p) f) (omega arith) (and_right (eqb x blank || eqb x w) (matches p s) m) in
    rw (eqb-true x w word, tail)

match_itself : (p : List ℕ) → matches p p ≡ true
match_itself [] = refl
match_itself (x ∷ p) = go (eqb x blank) (match_itself p)
  where
    go : (b : Bool) → matches p p ≡ true → ((b || eqb x x) && matches p p) ≡ true
    go true e = e
    go false e = rw (eq-eqb x x refl) e

module _ (g h p : List ℕ) (v : ℕ) (full : Full p) where
  abbrev asks : Question
  asks = matching p v

  -- what fits has this sentence
  fitting_says : (e : ℕ × Tree) → e ∈ fitting_at g asks → sentence e.1 ≡ p
  fitting_says e m =
      let q = fitting_∈ g asks e m in
      full_match p (sentence e.1) full (listed_length g (length p) e.1 q.1) q.2

  -- and it is what has this sentence
  total_readings : total_for g asks ≡ readings_of g p
  unfolding total_for
  total_readings =
      sum_ext (λ t. bit (suits asks t)) (λ t. bit (derives p t)) (full_list g (length p))
      (λ t m.
      ap bit (both_ways (suits asks t) (derives p t)
      (λ e. ap (λ (s : List ℕ). same s p) (full_match p (sentence t) full (listed_length g (length p) t m) e) ∙ same_refl p)
      (λ e. ap (matches p) (same_eq (sentence t) p e) ∙ match_itself p)))

  module _ (ok : (remaining_matching g h p v).refusal ≡ 0) where
    given_length : left_given g h p v ≡ length (unheard g h asks)
    given_length =
        let c = (premises g h asks).1 ok in
        ap (λ (x : Answer). get_or x.figures 2 0) (demand_3 g h asks c.0 c.1).left

    all_free : (b : Bool) → heard h v p ≡ b → (e : ℕ × Tree) → e ∈ fitting_at g asks → free g h asks e ≡ not b
    all_free b e x m = ap (λ (s : List ℕ). not (heard h v s)) (fitting_says x m) ∙ ap not e

    pub no_blank : NoBlank g h p v
    no_blank = record {
      unheard = λ e.
          let n : readings_of g p ≡ left_given g h p v
          = sym (given_length ∙ unheard_length g h asks ∙ ap length (keep_all (free g h asks) (fitting_at g asks) (all_free false e)) ∙ fitting_length g asks ∙ total_readings) in
          rw n at (exactly_readings g p);
      heard = λ e. given_length ∙ unheard_length g h asks ∙ ap length (keep_none (free g h asks) (fitting_at g asks) (all_free true e));
    }

-- ---- no pattern

pub unpatterned : (g h : List ℕ) (n v : ℕ) → Unpatterned g h n v
unfolding total_for heard_of unheard
unpatterned g h n v = record {
  total = sum_one (full_list g n) ∙ sym (listed_total g n);
  heard = ap length (keep_all (matches []) (distinct (keep (λ s. eqb (readings_of g s) 1) (of_length h (plainly n v)))) (λ s m. refl));
  unheard = refl;
}
