-- The walk of the chains that fills the table of rules. What is entered stands in runs, one for each kind of entry, and each store adds
-- one entry to one run and leaves the others alone. The numbers met so far, with those that the walk still meets, are those on the chains
-- of the nonterminals up to this one. None of them is met twice, so there are no more than the grammar has rules: each row has room, and
-- the walk ends. Once all chains are walked, the table has each nonterminal's rules between two beginnings.
-- Assumes nothing.
use mathlib.Core.Path.{◌≡◌, refl, sym, ap, ◌∙◌}
use mathlib.Core.Bool.{true, false, false≢true}
use mathlib.Core.List.Memᴰ
use mathlib.Core.List.{List, [], ◌∷◌, ◌++◌, map, map-id, map-append, append_assoc, append-nil}
use Prim.Native.Nat.{ℕ, suc, ◌+◌, ◌-◌, ◌≤◌, ◌<◌}
use native.Mathlib.Omega.{arith}
use native.Mathlib.Decide.{ℕ_discrete}
use borrow.Author.Tests.{le-leb, lt-leb}
use lib.Dec.{leb}
use lib.ListN.{length, get_or, set, replicate, length-set, length-append, length-map}
use lib.Seq.{get_or-append-add, get_or-append_seam}
use Rattle.lists.specs.Joined.{◌∈◌, concat_map, up_from}
use Rattle.lists.specs.Searched.{times}
use Rattle.lists.specs.Linked.{is_number}
use Rattle.lists.specs.Inner.Tables.{entry, put}
use Rattle.lists.proofs.Members.{concat_∈}
use Rattle.lists.proofs.Sums.{concat_append}
use Rattle.lists.proofs.Places.{get_or_same, get_or_left, map_up_from, up_from_split, set_le}
use Rattle.lists.proofs.Tables.{put_same, put_beside, put_other_row, wide_put, kept_same, kept_then, kept_put}
use Rattle.lists.proofs.Tests.{to_clear, to_some}
use Rattle.lists.proofs.Searches.{times_∈, ∈_times, times_append, times_mark, times_few}
use Rattle.lists.proofs.Linked.{met_none, met_step, met_inside}
use Rattle.grammar.specs.Layout.{nonterminals, words, rules, start, head_of, next_of}
use Rattle.grammar.specs.Chains.{Rule, word, pair, rule_of, numbers_from, chain_numbers, met, rest, chain, words_of, pairs_of}
use Rattle.grammar.specs.Refusals.{met_twice}
use Rattle.grammar.specs.Inner.Checks.{Readable}
use Rattle.grammar.specs.Inner.Rules.{word_at, left_at, right_at, word_from, pair_from, words_in, pairs_in, Roomy}
use Rattle.grammar.specs.Inner.Entering.{met_below, before, Marked, Run, Entered, Kept, PreparedAs, Walked, Entering, EnteredAs, BuiltAs}
use Rattle.grammar.proofs.Walks.{Met}

-- ---- the rules by kind

words_append : (l r : List Rule) → words_of (l ++ r) ≡ words_of l ++ words_of r
words_append [] r = refl
words_append (word w ∷ l) r = rw (words_append l r)
words_append (pair B C ∷ l) r = words_append l r

pairs_append : (l r : List Rule) → pairs_of (l ++ r) ≡ pairs_of l ++ pairs_of r
pairs_append [] r = refl
pairs_append (word w ∷ l) r = pairs_append l r
pairs_append (pair B C ∷ l) r = rw (pairs_append l r)

both_kinds : (l : List Rule) → length (words_of l) + length (pairs_of l) ≡ length l
both_kinds [] = refl
both_kinds (word w ∷ l) = omega (arith, both_kinds l)
both_kinds (pair B C ∷ l) = omega (arith, both_kinds l)

-- ---- the numbers met on the chains of the nonterminals below n, and their rules

below_split : (g : List ℕ) (m n : ℕ) → met_below g (m + n) ≡ met_below g m ++ concat_map (chain_numbers g) (up_from m n)
below_split g m n =
    let e : 0 + m ≡ m = omega arith in
    ap (concat_map (chain_numbers g)) (rw e at (up_from_split 0 m n)) ∙ concat_append (chain_numbers g) (up_from 0 m) (up_from m n)

below_next : (g : List ℕ) (a : ℕ) → met_below g (a + 1) ≡ met_below g a ++ chain_numbers g a
below_next g a = below_split g a 1 ∙ rw (append-nil (chain_numbers g a))

before_next : (g : List ℕ) (a : ℕ) → before g (a + 1) ≡ before g a ++ chain g a
unfolding rest
before_next g a = ap (map (rule_of g)) (below_next g a) ∙ map-append (rule_of g) (met_below g a) (chain_numbers g a)

-- the list l has b right behind a
record Segment {X : Type 0} (l a b : List X) : Type 0 where
  later : List X
  split : l ≡ a ++ (b ++ later)

below_part : (g : List ℕ) (a n : ℕ) → a < n → Segment (met_below g n) (met_below g a) (chain_numbers g a)
below_part g a n h =
    let e : n ≡ a + suc (n - suc a) = omega arith in
    record {
      later = concat_map (chain_numbers g) (up_from (suc a) (n - suc a));
      split = ap (met_below g) e ∙ below_split g a (suc (n - suc a));
    }

before_part : (g : List ℕ) (a n : ℕ) → a < n → Segment (before g n) (before g a) (chain g a)
unfolding rest
before_part g a n h =
    let q = below_part g a n h in
    record { later = map (rule_of g) q.later; split = ap (map (rule_of g)) q.split ∙ simp map-append }

-- what is met are numbers of rules, and as often at least where more chains are walked
pub below_inside : (g : List ℕ) (n : ℕ) {x : ℕ} → x ∈ met_below g n → (1 ≤ x) × (x ≤ rules g)
below_inside g n m =
    let q = concat_∈ (chain_numbers g) (up_from 0 n) m in
    met_inside (next_of g) (rules g) (rules g + 1) (head_of g q.0) q.2

below_times : (g : List ℕ) (q m n : ℕ) → m ≤ n → times q (met_below g m) ≤ times q (met_below g n)
below_times g q m n h =
    let e : n ≡ m + (n - m) = omega arith in
    let later = concat_map (chain_numbers g) (up_from m (n - m)) in
    omega (arith, ap (λ (k : ℕ). times q (met_below g k)) e, ap (times q) (below_split g m (n - m)), times_append q (met_below g m) later)

-- a part of them in which none is met twice is no longer than there are rules
part_few : (g : List ℕ) (n : ℕ) (done later : List ℕ) → done ++ later ≡ met_below g n → ((q : ℕ) → times q done ≤ 1) → length done ≤ rules g
part_few g n done later e once =
    times_few 1 (rules g) done
    (λ x m. let i = below_inside g n (rw e at (Memᴰ.append_left later m)) in omega arith)
    (λ r m. once r)

-- ---- met twice, or not

met_again : (g : List ℕ) (r : ℕ) → 1 ≤ r → r ≤ rules g → 2 ≤ times r (met g) → met_twice g ≡ true
unfolding met_twice
met_again g r h k l = to_some (λ q. leb 2 (times q (met g))) (rules g) r h k (le-leb 2 (times r (met g)) l)

met_once : (g : List ℕ) → ((q : ℕ) → times q (met g) ≤ 1) → met_twice g ≡ false
unfolding met_twice
met_once g f = to_clear (λ q. leb 2 (times q (met g))) (rules g) (λ q h k. lt-leb 2 (times q (met g)) (omega (arith, f q)))

-- ---- the marks

marks_none : (g : List ℕ) → Marked (replicate 256 0) (met_below g 0)
marks_none g = record { long = refl; exact = λ q. get_or_same {X = ℕ} 256 q 0; once = λ q. omega arith }

-- one number more that has no mark
marks_more : {seen done : List ℕ} (r : ℕ) → r ≤ 255 → get_or seen r 0 ≡ 0 → Marked seen done → Marked (set seen r 1) (done ++ (r ∷ []))
marks_more {seen} {done} r h new m =
    record {
      long = length-set seen r 1 ∙ m.long;
      exact = exact;
      once = λ q. omega (arith, exact q, set_le seen r 1 1 (omega arith) (λ k. omega (arith, m.exact k, m.once k)) q);
    }
  where
    exact : (q : ℕ) → get_or (set seen r 1) q 0 ≡ times q (done ++ (r ∷ []))
    exact q =
        let e : get_or (set seen r (get_or seen r 0 + 1)) q 0 + times q [] ≡ get_or seen q 0 + times q (r ∷ [])
        = times_mark seen r [] q (omega (arith, m.long)) in
        omega (arith, rw new at e, m.exact q, times_append q done (r ∷ []))

-- the same of one kind: f is words_of or pairs_of
module _ {X : Type 0} (f : List Rule → List X) (join : (l r : List Rule) → f (l ++ r) ≡ f l ++ f r) (g : List ℕ) (a : ℕ) where
  kind_next : length (f (before g (a + 1))) ≡ length (f (before g a)) + length (f (chain g a))
  kind_next = ap (λ (l : List Rule). length (f l)) (before_next g a) ∙ simp (join, length-append)

  kind_part : (n : ℕ) → a < n → Segment (f (before g n)) (f (before g a)) (f (chain g a))
  kind_part n h = let q = before_part g a n h in record { later = f q.later; split = ap f q.split ∙ simp join }

-- ---- runs

run_none : (t : List (List ℕ)) {row from : ℕ} {f : ℕ → ℕ} → Run t row from 0 f
run_none t = record { at = λ i h. absurd (omega arith) }

run_first : {t : List (List ℕ)} {row n : ℕ} {f : ℕ → ℕ} → Run t row 0 n f → (i : ℕ) → i < n → entry t row i ≡ f i
run_first u i h = let e : 0 + i ≡ i = omega arith in rw e at (u.at i h)

-- a store in another row
run_row : {t : List (List ℕ)} {row from n : ℕ} {f : ℕ → ℕ} (r j v : ℕ) → (row ≡ r → ⊥) → Run t row from n f → Run (put t r j v) row from n f
run_row {t} {row} {from} r j v other u = record { at = λ i h. put_other_row t r j v row (from + i) other ∙ u.at i h }

module _ {t : List (List ℕ)} {row from n : ℕ} {f : ℕ → ℕ} (j v : ℕ) (inside : row < length t) where
  -- a store elsewhere in the row
  run_keep : ((i : ℕ) → i < n → from + i ≡ j → ⊥) → Run t row from n f → Run (put t row j v) row from n f
  run_keep apart u = record { at = λ i h. put_beside t row j v (from + i) inside (apart i h) ∙ u.at i h }

  -- a store right behind
  run_more : j ≡ from + n → j < length (get_or t row []) → v ≡ f n → Run t row from n f → Run (put t row j v) row from (n + 1) f
  run_more ej long e u = record { at = at }
    where
      at : (i : ℕ) → i < n + 1 → entry (put t row j v) row (from + i) ≡ f i
      at i h =
          elim (ℕ_discrete i n) [
            | yes z ↦ rw (z, ← ej) (put_same t row j v inside long ∙ e)
            | no z ↦ put_beside t row j v (from + i) inside (λ q. z (omega arith)) ∙ u.at i (omega arith)
          ]

module _ {X : Type 0} (f : X → ℕ) (d : X) where
  -- the run of a list with one element more
  run_put : {t : List (List ℕ)} {row : ℕ} (j : ℕ) (l : List X) (x : X) → row < length t → j < length (get_or t row []) → j ≡ length l
      → Run t row 0 (length l) (λ i. f (get_or l i d))
      → Run (put t row j (f x)) row 0 (length (l ++ (x ∷ []))) (λ i. f (get_or (l ++ (x ∷ [])) i d))
  run_put {t} {row} j l x inside long ej u =
      let same : Run t row 0 (length l) (λ i. f (get_or (l ++ (x ∷ [])) i d))
      = record { at = λ i h. u.at i h ∙ ap f (sym (get_or_left l (x ∷ []) i d h)) } in
      rw (length-append l (x ∷ [])) (run_more j (f x) inside (omega arith) long (ap f (sym (get_or-append_seam l x [] d))) same)

  -- what the run of a list has where a part of it stands
  run_part : {t : List (List ℕ)} {row : ℕ} {l a b : List X} → Segment l a b → Run t row 0 (length l) (λ i. f (get_or l i d))
      → {j : ℕ} (i : ℕ) → j ≡ length a + i → i < length b → entry t row j ≡ f (get_or b i d)
  run_part {t} {row} {l} {a} {b} q u {j} i ej h =
      let inside : length a + i < length l = rw q.split (simp length-append (omega arith)) in
      let here : get_or l (length a + i) d ≡ get_or b i d
      = rw q.split (get_or-append-add a (b ++ q.later) i d ∙ get_or_left b q.later i d h) in
      rw ej (run_first u (length a + i) inside ∙ ap f here)

-- ---- what is kept

roomy_put : {t : List (List ℕ)} (r i v : ℕ) → Roomy t → Roomy (put t r i v)
roomy_put {t} r i v m =
    record { long = omega (arith, m.long, length-set t r (set (get_or t r []) i v)); wide = wide_put t 256 r i v m.wide }

row_long : {t : List (List ℕ)} → Roomy t → (row : ℕ) → row < 4 → length (get_or t row []) ≡ 256
row_long m row h = m.wide.row row (omega (arith, m.long))

row_inside : {t : List (List ℕ)} → Roomy t → (row : ℕ) → row < 4 → row < length t
row_inside m row h = omega (arith, m.long)

-- ---- what is entered

-- as long as there are fewer than 255 rules, there is room for one more
module _ {g : List ℕ} {t : List (List ℕ)} {done : List Rule} {a : ℕ} (low : length done < 255) (e : Entered g t done a) where
  enter_word : {w : ℕ} (x : ℕ) → w ≡ length (words_of done) → Entered g (put t 0 w x) (done ++ (word x ∷ [])) a
  enter_word {w} x ew =
      let k = both_kinds done in
      let m = e.roomy in
      let ws : words_of (done ++ (word x ∷ [])) ≡ words_of done ++ (x ∷ []) = words_append done (word x ∷ []) in
      let ps : pairs_of (done ++ (word x ∷ [])) ≡ pairs_of done = pairs_append done (word x ∷ []) ∙ append-nil (pairs_of done) in
      record {
        roomy = roomy_put 0 w x m;
        words = rw ws (run_put (λ v. v) 0 w (words_of done) x (row_inside m 0 (omega arith)) (omega (arith, row_long m 0 (omega arith))) ew e.words);
        lefts = rw ps (run_row 0 w x (λ z. omega arith) e.lefts);
        rights = rw ps (run_row 0 w x (λ z. omega arith) e.rights);
        word_begins = run_row 0 w x (λ z. omega arith) e.word_begins;
        pair_begins = run_row 0 w x (λ z. omega arith) e.pair_begins;
        numbers = run_row 0 w x (λ z. omega arith) e.numbers;
      }

  enter_pair : {p : ℕ} (B C : ℕ) → p ≡ length (pairs_of done) → Entered g (put (put t 1 p B) 2 p C) (done ++ (pair B C ∷ [])) a
  enter_pair {p} B C ep =
      let k = both_kinds done in
      let m = e.roomy in
      let m' = roomy_put 1 p B m in
      let ws : words_of (done ++ (pair B C ∷ [])) ≡ words_of done = words_append done (pair B C ∷ []) ∙ append-nil (words_of done) in
      let ps : pairs_of (done ++ (pair B C ∷ [])) ≡ pairs_of done ++ ((B, C) ∷ []) = pairs_append done (pair B C ∷ []) in
      record {
        roomy = roomy_put 2 p C m';
        words = rw ws (run_row 2 p C (λ z. omega arith) (run_row 1 p B (λ z. omega arith) e.words));
        lefts =
            rw ps
            (run_row 2 p C (λ z. omega arith)
            (run_put (λ q. q.0) (0, 0) p (pairs_of done) (B, C) (row_inside m 1 (omega arith)) (omega (arith, row_long m 1 (omega arith))) ep e.lefts));
        rights =
            rw ps
            (run_put (λ q. q.1) (0, 0) p (pairs_of done) (B, C) (row_inside m' 2 (omega arith)) (omega (arith, row_long m' 2 (omega arith))) ep
            (run_row 1 p B (λ z. omega arith) e.rights));
        word_begins = run_row 2 p C (λ z. omega arith) (run_row 1 p B (λ z. omega arith) e.word_begins);
        pair_begins = run_row 2 p C (λ z. omega arith) (run_row 1 p B (λ z. omega arith) e.pair_begins);
        numbers = run_row 2 p C (λ z. omega arith) (run_row 1 p B (λ z. omega arith) e.numbers);
      }

-- once the chain of a is entered: the next nonterminal begins behind all rules up to here
enter_next : {g : List ℕ} {t : List (List ℕ)} {a i w p : ℕ} → i ≡ a → a < 32 → Entered g t (before g (a + 1)) a
    → w ≡ length (words_of (before g (a + 1))) → p ≡ length (pairs_of (before g (a + 1)))
    → Entered g (put (put t 3 (i + 1) w) 3 (64 + i + 1) p) (before g (a + 1)) (a + 1)
enter_next {g} {t} {a} {i} {w} {p} ei few e ew ep =
    let m = e.roomy in
    let m' = roomy_put 3 (i + 1) w m in
    let here = row_inside m 3 (omega arith) in
    let there = row_inside m' 3 (omega arith) in
    let long = row_long m 3 (omega arith) in
    let long' = row_long m' 3 (omega arith) in
    record {
      roomy = roomy_put 3 (64 + i + 1) p m';
      words = run_row 3 (64 + i + 1) p (λ z. omega arith) (run_row 3 (i + 1) w (λ z. omega arith) e.words);
      lefts = run_row 3 (64 + i + 1) p (λ z. omega arith) (run_row 3 (i + 1) w (λ z. omega arith) e.lefts);
      rights = run_row 3 (64 + i + 1) p (λ z. omega arith) (run_row 3 (i + 1) w (λ z. omega arith) e.rights);
      word_begins =
          run_keep (64 + i + 1) p there (λ j h z. omega arith) (run_more (i + 1) w here (omega arith) (omega (arith, long)) ew e.word_begins);
      pair_begins =
          run_more (64 + i + 1) p there (omega arith) (omega (arith, long')) ep (run_keep (i + 1) w here (λ j h z. omega arith) e.pair_begins);
      numbers = run_keep (64 + i + 1) p there (λ j h z. omega arith) (run_keep (i + 1) w here (λ j h z. omega arith) e.numbers);
    }

-- ---- along one chain

-- the chain of a is walked up to the number at: so many words and pairs are entered, those of the nonterminals below with them
pub record Walking (g seen : List ℕ) (t : List (List ℕ)) (a at w p : ℕ) : Type 0 where
  pub done : List ℕ
  pub left : ℕ
  pub split : done ++ numbers_from g left at ≡ met_below g (a + 1)
  pub enough : rules g < length done + left
  pub marked : Marked seen done
  pub entered : Entered g t (map (rule_of g) done) a
  pub words : w ≡ length (words_of (map (rule_of g) done))
  pub pairs : p ≡ length (pairs_of (map (rule_of g) done))

module _ {g seen₀ : List ℕ} {t₀ : List (List ℕ)} {a : ℕ} (s : Entering g seen₀ t₀ a) where
  pub enter_few : a < 32
  enter_few = omega (arith, s.readable.sized.few, s.inside)

  pub walk_start : {i at w p : ℕ} → i ≡ a → w ≡ word_from t₀ i → p ≡ pair_from t₀ i → at ≡ head_of g a
      → Walking g seen₀ t₀ a at w p
  walk_start ei ew ep e = record {
    done = met_below g a;
    left = rules g + 1;
    split = rw e (sym (below_next g a));
    enough = omega arith;
    marked = s.walked.marked;
    entered = s.walked.entered;
    words = rw ei at ew ∙ run_first s.walked.entered.word_begins a (omega arith);
    pairs = rw ei at ep ∙ s.walked.entered.pair_begins.at a (omega arith);
  }

  module _ {seen : List ℕ} {t : List (List ℕ)} {at w p : ℕ} (v : Walking g seen t a at w p) where
    done_few : length v.done ≤ rules g
    done_few = part_few g (a + 1) v.done (numbers_from g v.left at) v.split v.marked.once

    pub walk_room : w + p ≤ rules g
    walk_room =
        omega (arith, done_few, both_kinds (map (rule_of g) v.done), length-map v.done (rule_of g), v.words, v.pairs)

    -- the walk goes on at a rule
    goes_on : 1 ≤ at → at ≤ rules g → numbers_from g v.left at ≡ at ∷ numbers_from g (v.left - 1) (next_of g at)
    goes_on h k = met_step (next_of g) (rules g) v.left at (omega (arith, done_few, v.enough)) h k

    -- a rule that has a mark is met a second time
    pub walk_again : {j : ℕ} → j ≡ at → (get_or seen j 0 ≡ 0 → ⊥) → Kept t₀ t → EnteredAs g seen t₀ t a true
    walk_again ej n k = record { kept = k; twice = λ e. twice; walked = λ e. absurd (false≢true (sym e)) }
      where
        marked : 1 ≤ times at v.done
        marked = let z : get_or seen at 0 ≡ 0 → ⊥ = rw ej at n in omega (arith, v.marked.exact at)

        twice : met_twice g ≡ true
        twice =
            let m = ∈_times at v.done marked in
            let i = below_inside g (a + 1) (rw v.split at (Memᴰ.append_left (numbers_from g v.left at) m)) in
            let ahead = numbers_from g (v.left - 1) (next_of g at) in
            let here : 1 ≤ times at (at ∷ ahead) = times_∈ at (at ∷ ahead) (Memᴰ.head refl) in
            met_again g at i.0 i.1
            (omega (
              arith,
              marked,
              ap (times at) v.split,
              times_append at v.done (numbers_from g v.left at),
              ap (times at) (goes_on i.0 i.1),
              below_times g at (a + 1) (nonterminals g) (omega (arith, s.inside)),
            ))

    -- one rule from what is ahead to what is done
    module _ {x : Rule} {j next : ℕ} (ej : j ≡ at) (new : get_or seen j 0 ≡ 0) (m : Met g at x next) where
      more_marked : Marked (set seen j 1) (v.done ++ (at ∷ []))
      more_marked = rw ej (marks_more at (omega (arith, m.inside, s.readable.sized.numbered)) (rw ej at new) v.marked)

      more_split : (v.done ++ (at ∷ [])) ++ numbers_from g (v.left - 1) next ≡ met_below g (a + 1)
      more_split =
          append_assoc v.done (at ∷ []) (numbers_from g (v.left - 1) next)
          ∙ rw m.link (rw (goes_on m.some m.inside) at v.split)

      more_enough : rules g < length (v.done ++ (at ∷ [])) + (v.left - 1)
      more_enough = simp length-append (omega (arith, done_few, v.enough))

      more_rules : map (rule_of g) (v.done ++ (at ∷ [])) ≡ map (rule_of g) v.done ++ (x ∷ [])
      more_rules = map-append (rule_of g) v.done (at ∷ []) ∙ rw m.rule

      pub walk_free : w + p < rules g
      walk_free =
          omega (
            arith,
            part_few g (a + 1) (v.done ++ (at ∷ [])) (numbers_from g (v.left - 1) next) more_split more_marked.once,
            length-append v.done (at ∷ []),
            both_kinds (map (rule_of g) v.done),
            length-map v.done (rule_of g),
            v.words,
            v.pairs,
          )

      rules_low : length (map (rule_of g) v.done) < 255
      rules_low = omega (arith, walk_free, both_kinds (map (rule_of g) v.done), v.words, v.pairs, s.readable.sized.numbered)

      -- with its entry
      walk_on : {t' : List (List ℕ)} {w' p' : ℕ} → Entered g t' (map (rule_of g) v.done ++ (x ∷ [])) a
          → w' ≡ length (words_of (map (rule_of g) v.done ++ (x ∷ []))) → p' ≡ length (pairs_of (map (rule_of g) v.done ++ (x ∷ [])))
          → Walking g (set seen j 1) t' a next w' p'
      walk_on e ew ep = record {
        done = v.done ++ (at ∷ []);
        left = v.left - 1;
        split = more_split;
        enough = more_enough;
        marked = more_marked;
        entered = rw more_rules e;
        words = rw more_rules ew;
        pairs = rw more_rules ep;
      }

    pub walk_word : {x j next : ℕ} → j ≡ at → get_or seen j 0 ≡ 0 → Met g at (word x) next
        → Walking g (set seen j 1) (put t 0 w x) a next (w + 1) p
    walk_word {x} ej new m =
        walk_on ej new m (enter_word (rules_low ej new m) v.entered x v.words) (simp (words_append, length-append) (omega (arith, v.words)))
        (simp (pairs_append, append-nil) v.pairs)

    pub walk_pair : {B C j next : ℕ} → j ≡ at → get_or seen j 0 ≡ 0 → Met g at (pair B C) next
        → Walking g (set seen j 1) (put (put t 1 p B) 2 p C) a next w (p + 1)
    walk_pair {B} {C} ej new m =
        walk_on ej new m (enter_pair (rules_low ej new m) v.entered B C v.pairs) (simp (words_append, append-nil) v.words)
        (simp (pairs_append, length-append) (omega (arith, v.pairs)))

    pub walk_end : {i : ℕ} → i ≡ a → is_number (rules g) at ≡ false → Kept t₀ t
        → EnteredAs g seen t₀ (put (put t 3 (i + 1) w) 3 (64 + i + 1) p) a false
    walk_end {i} ei e k =
        let over : numbers_from g v.left at ≡ [] = met_none (next_of g) (rules g) v.left at e in
        let all : v.done ≡ met_below g (a + 1) = sym (append-nil v.done) ∙ rw over at v.split in
        record {
          kept = kept_put 3 (64 + i + 1) p (omega arith) (kept_put 3 (i + 1) w (omega arith) k);
          twice = λ z. absurd (false≢true z);
          walked = λ z.
              record {
                marked = rw all at v.marked;
                entered = enter_next ei enter_few (rw all at v.entered) (rw all at v.words) (rw all at v.pairs);
              };
        }

-- ---- the rules of one nonterminal, by place

words_there : (t : List (List ℕ)) (a : ℕ) (l : List ℕ) → word_from t (a + 1) ≡ word_from t a + length l
    → ((i : ℕ) → i < length l → word_at t (word_from t a + i) ≡ get_or l i 0) → words_in t a ≡ l
unfolding words_in
words_there t a l c h =
    let e : word_from t (a + 1) - word_from t a ≡ length l = omega arith in
    rw e (map_up_from (word_at t) (λ w. w) (word_from t a) l 0 h ∙ map-id l)

pairs_there : (t : List (List ℕ)) (a : ℕ) (l : List (ℕ × ℕ)) → pair_from t (a + 1) ≡ pair_from t a + length l
    → ((i : ℕ) → i < length l → left_at t (pair_from t a + i) ≡ (get_or l i (0, 0)).0)
    → ((i : ℕ) → i < length l → right_at t (pair_from t a + i) ≡ (get_or l i (0, 0)).1) → pairs_in t a ≡ l
unfolding pairs_in
pairs_there t a l c h k =
    let e : pair_from t (a + 1) - pair_from t a ≡ length l = omega arith in
    rw e (map_up_from (λ i. (left_at t i, right_at t i)) (λ (q : ℕ × ℕ). q) (pair_from t a) l (0, 0) (λ i u. rw (h i u, k i u)) ∙ map-id l)

-- ---- along all chains

abbrev prepared : List (List ℕ) → (s n w : ℕ) → List (List ℕ)
prepared t s n w = put (put (put (put (put t 3 0 0) 3 64 0) 3 128 s) 3 129 n) 3 130 w

pub prepare_all : {g : List ℕ} {t : List (List ℕ)} {s n w : ℕ} → Roomy t → s ≡ start g → n ≡ nonterminals g → w ≡ words g → PreparedAs g t (prepared t s n w)
prepare_all {g} {t} {s} {n} {w} m es en ew = record {
  entered =
      record {
        roomy = m₅;
        words = run_none _;
        lefts = run_none _;
        rights = run_none _;
        word_begins =
            run_keep 130 w (inside m₄) (λ i h z. omega arith)
            (run_keep 129 n (inside m₃) (λ i h z. omega arith)
            (run_keep 128 s (inside m₂) (λ i h z. omega arith)
            (run_keep 64 0 (inside m₁) (λ i h z. omega arith) (run_more {n = 0} 0 0 (inside m) refl (omega (arith, long m)) refl (run_none t)))));
        pair_begins =
            run_keep 130 w (inside m₄) (λ i h z. omega arith)
            (run_keep 129 n (inside m₃) (λ i h z. omega arith)
            (run_keep 128 s (inside m₂) (λ i h z. omega arith)
            (run_more {n = 0} 64 0 (inside m₁) refl (omega (arith, long m₁)) refl (run_none (put t 3 0 0)))));
        numbers =
            run_more {n = 2} 130 w (inside m₄) refl (omega (arith, long m₄)) ew
            (run_more {n = 1} 129 n (inside m₃) refl (omega (arith, long m₃)) en
            (run_more {n = 0} 128 s (inside m₂) refl (omega (arith, long m₂)) es (run_none (put (put t 3 0 0) 3 64 0))));
      };
  kept =
      kept_put 3 130 w (omega arith)
      (kept_put 3 129 n (omega arith)
      (kept_put 3 128 s (omega arith) (kept_put 3 64 0 (omega arith) (kept_put 3 0 0 (omega arith) (kept_same m.wide)))));
}
  where
    m₁ : Roomy (put t 3 0 0)
    m₁ = roomy_put 3 0 0 m

    m₂ : Roomy (put (put t 3 0 0) 3 64 0)
    m₂ = roomy_put 3 64 0 m₁

    m₃ : Roomy (put (put (put t 3 0 0) 3 64 0) 3 128 s)
    m₃ = roomy_put 3 128 s m₂

    m₄ : Roomy (put (put (put (put t 3 0 0) 3 64 0) 3 128 s) 3 129 n)
    m₄ = roomy_put 3 129 n m₃

    m₅ : Roomy (prepared t s n w)
    m₅ = roomy_put 3 130 w m₄

    inside : {u : List (List ℕ)} → Roomy u → 3 < length u
    inside r = row_inside r 3 (omega arith)

    long : {u : List (List ℕ)} → Roomy u → length (get_or u 3 []) ≡ 256
    long r = row_long r 3 (omega arith)

pub build_start : {g : List ℕ} {old t : List (List ℕ)} → PreparedAs g old t → Walked g (replicate 256 0) t 0
build_start {g} o = record { marked = marks_none g; entered = o.entered }

pub build_again : {g seen : List ℕ} {old t new : List (List ℕ)} {a : ℕ} → Kept old t → EnteredAs g seen t new a true → BuiltAs g old new true
build_again k e =
    record {
      kept = kept_then k e.kept;
      says = sym (e.twice refl);
      sorted = λ z. absurd (false≢true (sym z));
      many = λ z. absurd (false≢true (sym z));
    }

-- once all chains are walked
pub build_end : {g seen : List ℕ} {old t : List (List ℕ)} → Readable g → Kept old t → Walked g seen t (nonterminals g) → BuiltAs g old t false
build_end {g} {seen} {old} {t} ok k walked =
    record {
      kept = k;
      says = sym (met_once g walked.marked.once);
      sorted = λ z.
          record {
            roomy = e.roomy;
            count_is = e.numbers.at 1 (omega arith);
            start_is = e.numbers.at 0 (omega arith);
            width_is = e.numbers.at 2 (omega arith);
            word_first = word_from_lem 0 (omega arith);
            pair_first = pair_from_lem 0 (omega arith);
            word_low = λ a h. omega (arith, word_from_lem a h, low a h);
            pair_low = λ a h. omega (arith, pair_from_lem a h, low a h);
            word_rises = λ a h. omega (arith, word_count_lem a h);
            pair_rises = λ a h. omega (arith, pair_count a h);
            words_are = words_are;
            pairs_are = pairs_are;
          };
      many = λ z. omega (arith, word_from_lem n (omega arith), pair_from_lem n (omega arith), count n);
    }
  where
    n : ℕ
    n = nonterminals g

    e : Entered g t (before g n) n
    e = walked.entered

    word_from_lem : (a : ℕ) → a ≤ n → word_from t a ≡ length (words_of (before g a))
    word_from_lem a h = run_first e.word_begins a (omega arith)

    pair_from_lem : (a : ℕ) → a ≤ n → pair_from t a ≡ length (pairs_of (before g a))
    pair_from_lem a h = e.pair_begins.at a (omega arith)

    -- a rule for each number met
    count : (a : ℕ) → length (words_of (before g a)) + length (pairs_of (before g a)) ≡ length (met_below g a)
    count a = both_kinds (before g a) ∙ length-map (met_below g a) (rule_of g)

    low : (a : ℕ) → a ≤ n → length (words_of (before g a)) + length (pairs_of (before g a)) ≤ 255
    low a h =
        let z : n ≡ a + (n - a) = omega arith in
        let later = concat_map (chain_numbers g) (up_from a (n - a)) in
        let split : met_below g a ++ later ≡ met_below g n = sym (ap (met_below g) z ∙ below_split g a (n - a)) in
        let once : (q : ℕ) → times q (met_below g a) ≤ 1
        = λ q. omega (arith, below_times g q a n h, walked.marked.once q) in
        omega (arith, count a, part_few g n (met_below g a) later split once, ok.sized.numbered)

    word_count_lem : (a : ℕ) → a < n → word_from t (a + 1) ≡ word_from t a + length (words_of (chain g a))
    word_count_lem a h = omega (arith, word_from_lem a (omega arith), word_from_lem (a + 1) (omega arith), kind_next words_of words_append g a)

    pair_count : (a : ℕ) → a < n → pair_from t (a + 1) ≡ pair_from t a + length (pairs_of (chain g a))
    pair_count a h = omega (arith, pair_from_lem a (omega arith), pair_from_lem (a + 1) (omega arith), kind_next pairs_of pairs_append g a)

    words_are : (a : ℕ) → a < n → words_in t a ≡ words_of (chain g a)
    words_are a h =
        words_there t a (words_of (chain g a)) (word_count_lem a h)
        (λ i u. run_part (λ w. w) 0 (kind_part words_of words_append g a n h) e.words i (omega (arith, word_from_lem a (omega arith))) u)

    pairs_are : (a : ℕ) → a < n → pairs_in t a ≡ pairs_of (chain g a)
    pairs_are a h =
        let part = kind_part pairs_of pairs_append g a n h in
        pairs_there t a (pairs_of (chain g a)) (pair_count a h)
        (λ i u. run_part (λ q. q.0) (0, 0) part e.lefts i (omega (arith, pair_from_lem a (omega arith))) u)
        (λ i u. run_part (λ q. q.1) (0, 0) part e.rights i (omega (arith, pair_from_lem a (omega arith))) u)
