-- What *Check bank* answers, as its tests are made one after another: the refusal is the first of the lines not yet passed.
-- Assumes nothing.
use mathlib.Core.Path.{◌≡◌, refl, sym, ap, ◌∙◌}
use mathlib.Core.Bool.{Bool, true, false, cond, not}
use mathlib.Core.List.{List, [], ◌∷◌}
use Prim.Native.Nat.{ℕ, ◌+◌, ◌*◌, ◌≤◌, ◌<◌}
use native.Mathlib.Omega.{arith}
use borrow.Author.Tests.{leb-false, lt-ltb, le-ltb, eqb-false, eq-eqb, ne_eqb}
use lib.ListN.{length, drop}
use lib.Dec.{leb, eqb}
use Rattle.std.specs.Prelude.{Ok, Err}
use Rattle.lists.specs.Joined.{◌∈◌, up_from}
use Rattle.lists.specs.Searched.{some_below, some_to, times}
use Rattle.lists.proofs.Members.{up_from_∈, ∈_up_from}
use Rattle.lists.proofs.Searches.{times_few, times_many, times_full}
use Rattle.lists.proofs.Tests.{or_true, to_at, to_clear}
use Rattle.answers.specs.Answer.{first_that_applies}
use Rattle.answers.specs.Inner.Refusals.{refusal_number}
use Rattle.answers.specs.declared.refusal.Refusal.{Refusal}
use Rattle.answers.specs.declared.refusal.Refusal.TheVariants.{GrammarBadRule, GrammarBadLink, GrammarRuleMetTwice, GrammarRuleOnNoChain, GrammarEqualRules}
use Rattle.answers.proofs.Refusals.{row_applies, row_passed, answer_accepted, answer_refused}
use Rattle.answers.proofs.Numbers.{number_some}
use Rattle.grammar.specs.Layout.{nonterminals, words, rules, size_of}
use Rattle.grammar.specs.Chains.{met}
use Rattle.grammar.specs.Refusals.{too_short, out_of_range, wrong_size, bad_rule, head_above, next_above, bad_link, met_twice, on_no_chain, repeated, grammar_rows, grammar_refusal}
use Rattle.grammar.specs.Inner.Rules.{word_from, pair_from, Holds}
use Rattle.grammar.specs.Inner.Checks.{Sized, Readable, rules_say}
use Rattle.grammar.specs.Inner.Entering.{Kept, BuiltAs}
use Rattle.grammar.specs.Answers.{check_grammar}
use Rattle.grammar.specs.Inner.Reading.{ReadAs}
use Rattle.grammar.proofs.Acceptance.{Ranges, range_facts}
use Rattle.grammar.proofs.Entering.{below_inside}
use Rattle.grammar.proofs.Holding.{sorted_holds}

-- the first k lines don't apply
abbrev pub Passed : List ℕ → ℕ → Type 0
Passed g k = grammar_refusal g ≡ first_that_applies (drop k (grammar_rows g))

module _ {g : List ℕ} {old new : List (List ℕ)} (kept : Kept old new) where
  pub refused : (r : Refusal) → grammar_refusal g ≡ refusal_number r → ReadAs g old new (Err r)
  unfolding check_grammar
  refused r e =
      record {
        says = rw e (sym (answer_refused (refusal_number r) (nonterminals g ∷ words g ∷ []) [] [] (number_some r)));
        holds = λ z. absurd (omega (arith, number_some r));
        long = kept.long;
        wide = kept.wide;
        rest = kept.rest;
      }

  accepted : Passed g 8 → Holds g new → ReadAs g old new (Ok (record { nonterminals = nonterminals g; words = words g }))
  unfolding check_grammar first_that_applies
  accepted e i =
      record {
        says = sym (answer_accepted (nonterminals g ∷ words g ∷ []) [] [] e);
        holds = λ z. i;
        long = kept.long;
        wide = kept.wide;
        rest = kept.rest;
      }

-- ---- each line's test, from what the code has tested

module _ (g : List ℕ) where
  pub short : length g < 4 → too_short g ≡ true
  unfolding too_short
  short h = lt-ltb (length g) 4 h

  long : 4 ≤ length g → too_short g ≡ false
  unfolding too_short
  long h = le-ltb (length g) 4 h

  size_wrong : (length g ≡ size_of g → ⊥) → wrong_size g ≡ true
  unfolding wrong_size
  size_wrong h = ap not (ne_eqb (length g) (size_of g) h)

  size_right : length g ≡ size_of g → wrong_size g ≡ false
  unfolding wrong_size
  size_right e = ap not (eq-eqb (length g) (size_of g) e)

  link_next : some_to (next_above g) (rules g) ≡ true → bad_link g ≡ true
  unfolding bad_link
  link_next e = or_true (some_below (head_above g) (nonterminals g)) (some_to (next_above g) (rules g)) e

  link_head : some_below (head_above g) (nonterminals g) ≡ true → bad_link g ≡ true
  unfolding bad_link
  link_head e = rw e

  links_right : some_to (next_above g) (rules g) ≡ false → some_below (head_above g) (nonterminals g) ≡ false → bad_link g ≡ false
  unfolding bad_link
  links_right e h = rw (h, e)

-- ---- 7: no rule is met twice, so every rule is met where as many are met as there are

module _ (g : List ℕ) (once : met_twice g ≡ false) where
  times_once : (r : ℕ) → r ∈ up_from 1 (rules g) → times r (met g) ≤ 1
  unfolding met_twice
  times_once r m =
      let q = up_from_∈ 1 (rules g) m in
      omega (arith, leb-false 2 (times r (met g)) (to_at (λ s. leb 2 (times s (met g))) (rules g) r once (omega arith) (omega arith)))

  met_numbers : (x : ℕ) → x ∈ met g → (1 ≤ x) × (x < 1 + rules g)
  met_numbers x m = let q = below_inside g (nonterminals g) m in omega arith

  missed : length (met g) < rules g → on_no_chain g ≡ true
  unfolding on_no_chain
  missed h = go (on_no_chain g) refl
    where
      go : (b : Bool) → on_no_chain g ≡ b → b ≡ true
      go true e = refl
      go false e =
          absurd (omega (
            arith,
            times_many 1 (rules g) (met g) met_numbers
                (λ r m.
                let q = up_from_∈ 1 (rules g) m in
                let n = eqb-false (times r (met g)) 0 (to_at (λ s. eqb (times s (met g)) 0) (rules g) r e (omega arith) (omega arith)) in
                omega arith),
          ))

  all_met : rules g ≤ length (met g) → on_no_chain g ≡ false
  unfolding on_no_chain
  all_met h =
      let long : length (met g) ≡ rules g = omega (arith, times_few 1 (rules g) (met g) met_numbers times_once) in
      to_clear (λ r. eqb (times r (met g)) 0) (rules g)
      (λ r a b.
      let one = times_full 1 (rules g) (met g) met_numbers times_once long r (∈_up_from r 1 (rules g) a (omega arith)) in
      ne_eqb (times r (met g)) 0 (λ z. omega arith))

-- ---- how far the tests have come, and what is known then

-- past 3, where the code has n for N and r for R
pub record Opened (g : List ℕ) (n r : ℕ) : Type 0 where
  pub passed : Passed g 3
  pub ranges : Ranges g
  pub sized : Sized g n r

module _ (g : List ℕ) (h : 4 ≤ length g) where
  pub refused_range : out_of_range g ≡ true → grammar_refusal g ≡ 2
  refused_range e = row_passed 1 _ (long g h) ∙ row_applies 2 _ e

  module _ (e : out_of_range g ≡ false) where
    past_range : Passed g 2
    past_range = row_passed 1 _ (long g h) ∙ row_passed 2 _ e

    module _ {n r : ℕ} (en : n ≡ nonterminals g) (er : r ≡ rules g) where
      pub refused_size : (length g ≡ 4 + n + 4 * r → ⊥) → grammar_refusal g ≡ 3
      refused_size z = past_range ∙ row_applies 3 _ (size_wrong g (λ q. z (omega arith)))

      pub opened : length g ≡ 4 + n + 4 * r → Opened g n r
      opened z =
          let q = range_facts g e in
          record {
            passed = past_range ∙ row_passed 3 _ (size_right g (omega arith));
            ranges = q;
            sized = record { heads = en; bodies = er; few = omega arith; numbered = omega arith; size = z };
          }

-- past 4 and the nexts of 5
pub record Fitting (g : List ℕ) (n r : ℕ) : Type 0 where
  pub start : Opened g n r
  pub fit : bad_rule g ≡ false
  pub nexts : some_to (next_above g) (rules g) ≡ false

module _ {g : List ℕ} {n r : ℕ} (o : Opened g n r) where
  said : (bad far : Bool) → bad_rule g ≡ bad → some_to (next_above g) (rules g) ≡ far → (e : Refusal)
      → Err e ≡ cond bad (Err GrammarBadRule) (cond far (Err GrammarBadLink) (Ok (tt {0}))) → grammar_refusal g ≡ refusal_number e
  said true far b f e q = let same : e ≡ GrammarBadRule = cc in rw same (o.passed ∙ row_applies 4 _ b)
  said false true b f e q = let same : e ≡ GrammarBadLink = cc in rw same (o.passed ∙ row_passed 4 _ b ∙ row_applies 5 _ (link_next g f))
  said false false b f e q = cc

  fitting_by : (bad far : Bool) → bad_rule g ≡ bad → some_to (next_above g) (rules g) ≡ far → (u : Unit {0})
      → Ok u ≡ cond bad (Err GrammarBadRule) (cond far (Err GrammarBadLink) (Ok (tt {0}))) → Fitting g n r
  fitting_by true far b f u q = cc
  fitting_by false true b f u q = cc
  fitting_by false false b f u q = record { start = o; fit = b; nexts = f }

  pub refused_rules : (e : Refusal) → Err e ≡ rules_say g → grammar_refusal g ≡ refusal_number e
  refused_rules e q = said (bad_rule g) (some_to (next_above g) (rules g)) refl refl e q

  pub fitting : (u : Unit {0}) → Ok u ≡ rules_say g → Fitting g n r
  fitting u q = fitting_by (bad_rule g) (some_to (next_above g) (rules g)) refl refl u q

module _ {g : List ℕ} {n r : ℕ} (w : Fitting g n r) where
  past_rules : Passed g 4
  past_rules = w.start.passed ∙ row_passed 4 _ w.fit

  pub refused_head : some_below (head_above g) (nonterminals g) ≡ true → grammar_refusal g ≡ 5
  refused_head e = past_rules ∙ row_applies 5 _ (link_head g e)

  pub readable : Readable g
  readable = let s = w.start.sized in record {
    sized = record { heads = refl; bodies = refl; few = omega arith; numbered = omega arith; size = omega arith };
    words_low = w.start.ranges.few_words;
    fit = w.fit;
  }

  module _ (low : some_below (head_above g) (nonterminals g) ≡ false) where
    past_links : Passed g 5
    past_links = past_rules ∙ row_passed 5 _ (links_right g w.nexts low)

    pub refused_again : {old new : List (List ℕ)} → BuiltAs g old new true → ReadAs g old new (Err GrammarRuleMetTwice)
    refused_again b = refused b.kept _ (past_links ∙ row_applies 6 _ (sym b.says))

    -- past 6
    module _ {old new : List (List ℕ)} (b : BuiltAs g old new false) where
      past_again : Passed g 6
      past_again = past_links ∙ row_passed 6 _ (sym b.says)

      -- the table has x words and y pair rules
      module _ {x y : ℕ} (ex : x ≡ word_from new n) (ey : y ≡ pair_from new n) where
        as_many : x + y ≡ length (met g)
        as_many = let e = w.start.sized.heads in omega (arith, b.many refl, rw e at ex, rw e at ey)

        pub refused_missed : x + y < r → ReadAs g old new (Err GrammarRuleOnNoChain)
        refused_missed h =
            refused b.kept _ (past_again ∙ row_applies 7 _ (missed g (sym b.says) (omega (arith, as_many, w.start.sized.bodies))))

        module _ (h : r ≤ x + y) where
          past_missed : Passed g 7
          past_missed = past_again ∙ row_passed 7 _ (all_met g (sym b.says) (omega (arith, as_many, w.start.sized.bodies)))

          pub refused_alike : repeated g ≡ true → ReadAs g old new (Err GrammarEqualRules)
          refused_alike e = refused b.kept _ (past_missed ∙ row_applies 8 _ e)

          pub accepted_apart : repeated g ≡ false → ReadAs g old new (Ok (record { nonterminals = nonterminals g; words = words g }))
          accepted_apart e =
              accepted b.kept (past_missed ∙ row_passed 8 _ e) (sorted_holds readable (b.sorted refl) w.start.ranges.start_inside e)
