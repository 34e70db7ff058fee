-- Demand 2 holds for every run of bytes: a call that isn't refused finds its tree in the full list, whose entry d is the derivation with the
-- number d (the grammar's proofs/Order.antt).
-- Assumes nothing.
use mathlib.Core.Path.{◌≡◌, refl, sym, ap, ◌∙◌}
use mathlib.Core.Logic.{◌≢◌}
use mathlib.Core.Bool.{true}
use mathlib.Core.List.Memᴰ
use mathlib.Core.List.{List, [], ◌∷◌, ◌++◌}
use Prim.Native.Nat.{ℕ, ◌≤◌, ◌<◌}
use native.Mathlib.Omega.{arith}
use native.Mathlib.Decide.{dec_lt}
use lib.ListN.{length, get_or, take, drop}
use lib.Seq.{take-append_seam}
use lib.Dec.{ltb, leb, eqb}
use borrow.Author.Tests.{leb-false, eqb-false, lt-leb, le-ltb, eq-eqb, ne_eqb}
use Rattle.lists.specs.Joined.{At}
use Rattle.lists.specs.Ordered.{Exactly}
use Rattle.lists.specs.Searched.{same}
use Rattle.lists.proofs.Members.{get_or_∈, ∈_place, At_get_or, At_inside}
use Rattle.lists.proofs.Tests.{same_eq, same_refl}
use Rattle.lists.proofs.Orders.{pairwise_one, pairwise_at, exactly_unique}
use Rattle.lists.proofs.Searches.{many_at, place_lt, place_hit, place_least, place_only}
use Rattle.lists.proofs.Strikes.{exactly_many}
use Rattle.answers.specs.Answer.{Answer, first_that_applies, given, refused}
use Rattle.answers.proofs.Refusals.{row_applies, row_passed, row_clear, rows_pass, rows_clear, answer_number, answer_accepted, answer_refused}
use Rattle.grammar.specs.Layout.{start}
use Rattle.grammar.specs.Chains.{chain}
use Rattle.grammar.specs.Trees.{Tree, leaf, sentence, Before}
use Rattle.grammar.proofs.Walks.{chained}
use Rattle.grammar.proofs.Enumeration.{sound, complete, listed}
use Rattle.grammar.proofs.Order.{distinct, sorted, entry_number}
use Rattle.counting.specs.Refusals.{prepared_rows}
use Rattle.counting.specs.Answers.{count_of}
use Rattle.counting.specs.Inner.Sentences.{sentences}
use Rattle.counting.proofs.Sentences.{sentence_length}
use Rattle.counting.proofs.Totals.{sums}
use Rattle.counting.proofs.Counts.{T_counts, T_length, T_sentences}
use Rattle.ranking.specs.Answers.{full_list, total_of, entry_of, unrank_rows, unrank_of, derives, readings_of, number_of, rank_rows, rank_of}
use Rattle.ranking.specs.Demand2.{HasNumber, Reading, Lowest, OneDerivation, Demand2}
use Rattle.ranking.proofs.Inside.{entry_of_lem}

module _ (g : List ℕ) where
  -- ---- trees

  pub listed_total : (n : ℕ) → total_of g n ≡ length (full_list g n)
  listed_total n = T_length (chain g) (start g) n

  -- entry d of the full list
  abbrev entry : ℕ → ℕ → Tree
  entry n d = get_or (full_list g n) d (leaf 0 0)

  entry_has : (n d : ℕ) → d < total_of g n → HasNumber g n (entry n d) d
  entry_has n d h =
      let l : d < length (full_list g n) = omega (arith, listed_total n) in
      record {
        derivation = sound (chain g) (start g) n (entry n d) (get_or_∈ (full_list g n) d (leaf 0 0) l);
        before = entry_number (chain g) (start g) n d (leaf 0 0) l;
      }

  pub at_has : (n d : ℕ) (t : Tree) → At (full_list g n) d t → HasNumber g n t d
  at_has n d t h =
      let is = At_get_or (full_list g n) d t (leaf 0 0) h in
      rw is at (entry_has n d (omega (arith, At_inside (full_list g n) d t h, listed_total n)))

  -- the place of a derivation of s
  reading_at : (s : List ℕ) (u : Tree) → Reading g s u → (j : ℕ) × (j < total_of g (length s)) × (entry (length s) j ≡ u)
  reading_at s u r =
      let q = ∈_place (full_list g (length s)) (complete (chain g) r.0) in
      (q.0, omega (arith, q.1, listed_total (length s)), At_get_or (full_list g (length s)) q.0 u (leaf 0 0) q.2)

  -- the place j has a derivation of s
  at_reads : (s : List ℕ) (j : ℕ) → entry_of g (length s) j ≡ s → derives s (entry (length s) j) ≡ true
  at_reads s j e = ap (λ (u : List ℕ). same u s) e ∙ same_refl s

  number_least : (s : List ℕ) (d : ℕ) → d < total_of g (length s) → entry_of g (length s) d ≡ s → number_of g s ≤ d
  number_least s d h e = place_least (derives s) (full_list g (length s)) d (leaf 0 0) (omega (arith, listed_total (length s))) (at_reads s d e)

  module _ (s : List ℕ) (some : 0 < readings_of g s) where
    pub number_inside : number_of g s < total_of g (length s)
    number_inside = omega (arith, place_lt (derives s) (full_list g (length s)) some, listed_total (length s))

    pub number_says : entry_of g (length s) (number_of g s) ≡ s
    number_says = same_eq (entry_of g (length s) (number_of g s)) s (place_hit (derives s) (full_list g (length s)) (leaf 0 0) some)

    number_read : Reading g s (entry (length s) (number_of g s))
    number_read = ((entry_has (length s) (number_of g s) number_inside).derivation, number_says)

    lowest : Lowest g s (entry (length s) (number_of g s)) (number_of g s)
    lowest =
        record {
          reading = number_read;
          number = entry_has (length s) (number_of g s) number_inside;
          first = λ u r other.
              let q = reading_at s u r in
              elim (dec_lt (number_of g s) q.0) [
                | yes l ↦
                    rw q.2 at (pairwise_at Before (full_list g (length s)) (number_of g s) q.0 (leaf 0 0) (sorted (chain g) (start g) (length s)) l
                    (omega (arith, q.1, listed_total (length s))))
                | no l ↦
                    let e : q.0 ≡ number_of g s = omega (arith, number_least s q.0 q.1 (ap sentence q.2 ∙ r.1)) in
                    absurd (other (sym q.2 ∙ ap (entry (length s)) e))
              ];
          none_lower = λ u e r h.
              let q = reading_at s u r in
              let is = exactly_unique (rw q.2 at (entry_has (length s) q.0 q.1)).before h.before in
              omega (arith, number_least s q.0 q.1 (ap sentence q.2 ∙ r.1));
        }

  -- the derivations of a sentence, as many as are counted
  pub exactly_readings : (s : List ℕ) → Exactly (readings_of g s) (Reading g s)
  exactly_readings s =
      let e = exactly_many (derives s) (full_list g (length s)) (distinct (chain g) (start g) (length s)) in
      record {
        listed = e.listed;
        many = e.many;
        once = e.once;
        all = λ t. (
          λ q. (e.all t).0 (complete (chain g) q.0, ap (λ (u : List ℕ). same u s) q.1 ∙ same_refl s),
          λ m. let q = (e.all t).1 m in (sound (chain g) (start g) (length s) t q.0, same_eq (sentence t) s q.1),
        );
      }

  -- ---- one derivation

  module _ (s : List ℕ) (one : readings_of g s ≡ 1) where
    pub number_only : (d : ℕ) → d < total_of g (length s) → entry_of g (length s) d ≡ s → d ≡ number_of g s
    number_only d h e = place_only (derives s) (full_list g (length s)) d (leaf 0 0) one (omega (arith, listed_total (length s))) (at_reads s d e)

    pub one_derivation : OneDerivation g s (entry (length s) (number_of g s))
    one_derivation =
        let r = number_read s (omega arith) in
        record {
          derivation = r.0;
          says = r.1;
          alone = λ u h e. let q = reading_at s u (h, e) in sym q.2 ∙ ap (entry (length s)) (number_only q.0 q.1 (ap sentence q.2 ∙ e));
        }

  -- a sentence has one derivation exactly if one is counted
  pub one_read : (s : List ℕ) (t : Tree) → OneDerivation g s t → readings_of g s ≡ 1
  one_read s t one =
      exactly_unique (exactly_readings s)
      (record {
        listed = t ∷ [];
        many = refl;
        once = pairwise_one ◌≢◌ t;
        all = λ u. (
          λ p. Memᴰ.head (one.alone u p.0 p.1),
          λ m. rw (Memᴰ.eq_of_singleton m) (one.derivation, one.says),
        );
      })

  -- ---- calls that aren't refused

  module _ (n d : ℕ) (out : List ℕ) (ok : (unrank_of g n d out).refusal ≡ 0) where
    give_passed : first_that_applies (unrank_rows g n d out) ≡ 0
    unfolding unrank_of
    give_passed = sym (answer_number (first_that_applies (unrank_rows g n d out)) (total_of g n ∷ []) out (entry_of g n d ++ drop n out)) ∙ ok

    give_answer : unrank_of g n d out ≡ given (total_of g n ∷ []) (entry_of g n d ++ drop n out)
    unfolding unrank_of
    give_answer = answer_accepted (total_of g n ∷ []) out (entry_of g n d ++ drop n out) give_passed

    give_clear : (first_that_applies (prepared_rows g n) ≡ 0) × (first_that_applies ((leb (total_of g n) d, 16) ∷ (ltb (length out) n, 20) ∷ []) ≡ 0)
    give_clear = rows_clear (prepared_rows g n) ((leb (total_of g n) d, 16) ∷ (ltb (length out) n, 20) ∷ []) refl give_passed

    give_inside : d < total_of g n
    give_inside = leb-false (total_of g n) d (row_clear 16 ((ltb (length out) n, 20) ∷ []) (leb (total_of g n) d) (omega arith) give_clear.1).0

    entry_length : length (entry_of g n d) ≡ n
    entry_length =
        sentence_length (chain g) (start g) n (entry_of g n d)
        (rw (← entry_of_lem g n d give_inside)
        (get_or_∈ (sentences (chain g) (start g) n) d [] (omega (arith, give_inside, T_sentences (chain g) (start g) n))))

  abbrev figures : List ℕ → List ℕ
  figures s = number_of g s ∷ total_of g (length s) ∷ readings_of g s ∷ []

  module _ (s : List ℕ) (ok : (rank_of g s).refusal ≡ 0) where
    rank_passed : first_that_applies (rank_rows g s) ≡ 0
    unfolding rank_of
    rank_passed = sym (answer_number (first_that_applies (rank_rows g s)) (figures s) [] []) ∙ ok

    pub rank_answer : rank_of g s ≡ given (number_of g s ∷ total_of g (length s) ∷ readings_of g s ∷ []) []
    unfolding rank_of
    rank_answer = answer_accepted (figures s) [] [] rank_passed

    rank_clear : (first_that_applies (prepared_rows g (length s)) ≡ 0) × (first_that_applies ((eqb (readings_of g s) 0, 17) ∷ []) ≡ 0)
    rank_clear = rows_clear (prepared_rows g (length s)) ((eqb (readings_of g s) 0, 17) ∷ []) refl rank_passed

    pub rank_some : 0 < readings_of g s
    rank_some = omega (arith, eqb-false (readings_of g s) 0 (row_clear 17 [] (eqb (readings_of g s) 0) (omega arith) rank_clear.1).0)

  -- ---- the statement

  count_rows : (n : ℕ) → (count_of g n).refusal ≡ 0 → first_that_applies (prepared_rows g n) ≡ 0
  unfolding count_of
  count_rows n ok = sym (answer_number (first_that_applies (prepared_rows g n)) (total_of g n ∷ []) [] []) ∙ ok

  count_answer : (n : ℕ) → (count_of g n).refusal ≡ 0 → count_of g n ≡ given (total_of g n ∷ []) []
  unfolding count_of
  count_answer n ok = answer_accepted (total_of g n ∷ []) [] [] (count_rows n ok)

  rank_underivable : (s : List ℕ) → first_that_applies (prepared_rows g (length s)) ≡ 0 → readings_of g s ≡ 0 → rank_of g s ≡ refused 17 3 []
  unfolding rank_of
  rank_underivable s e none =
      rw (rows_pass (prepared_rows g (length s)) ((eqb (readings_of g s) 0, 17) ∷ []) refl e ∙ row_applies 17 [] (eq-eqb (readings_of g s) 0 none))
      (answer_refused 17 (figures s) [] [] (omega arith))

  -- a sentence that has derivations isn't refused
  rank_accepted : (s : List ℕ) → first_that_applies (prepared_rows g (length s)) ≡ 0 → 1 ≤ readings_of g s → (rank_of g s).refusal ≡ 0
  unfolding rank_of first_that_applies
  rank_accepted s e some =
      answer_number (first_that_applies (rank_rows g s)) (figures s) [] []
      ∙ rows_pass (prepared_rows g (length s)) ((eqb (readings_of g s) 0, 17) ∷ []) refl e
      ∙ row_passed 17 [] (ne_eqb (readings_of g s) 0 (λ z. omega arith))

  -- what *Number* says is how many are counted, also where it refuses with 17
  pub figure_readings : (s : List ℕ) → (count_of g (length s)).refusal ≡ 0 → get_or (rank_of g s).figures 2 0 ≡ readings_of g s
  figure_readings s ok =
      let rows = count_rows (length s) ok in
      elim (dec_lt 0 (readings_of g s)) [
        | yes some ↦ ap (λ (a : Answer). get_or a.figures 2 0) (rank_answer s (rank_accepted s rows some))
        | no none ↦
            let e : readings_of g s ≡ 0 = omega arith in
            ap (λ (a : Answer). get_or a.figures 2 0) (rank_underivable s rows e) ∙ sym e
      ]

  give_after : (s out : List ℕ) (d k : ℕ) → rank_of g s ≡ given (d ∷ total_of g (length s) ∷ k ∷ []) [] → length s ≤ length out
      → unrank_of g (length s) d out ≡ given (total_of g (length s) ∷ []) (s ++ drop (length s) out)
  unfolding unrank_of first_that_applies
  give_after s out d k e l =
      let ok : (rank_of g s).refusal ≡ 0 = ap (λ (a : Answer). a.refusal) e in
      let some = rank_some s ok in
      let is : d ≡ number_of g s = ap (λ (a : Answer). get_or a.figures 0 0) (sym e ∙ rank_answer s ok) in
      rw is
      (answer_accepted (total_of g (length s) ∷ []) out (entry_of g (length s) (number_of g s) ++ drop (length s) out)
      (rows_pass (prepared_rows g (length s)) ((leb (total_of g (length s)) (number_of g s), 16) ∷ (ltb (length out) (length s), 20) ∷ []) refl (rank_clear s ok).0
      ∙ row_passed 16 ((ltb (length out) (length s), 20) ∷ []) (lt-leb (total_of g (length s)) (number_of g s) (number_inside s some))
      ∙ row_passed 20 [] (le-ltb (length out) (length s) l))
      ∙ rw (number_says s some))

  number_alone : (s : List ℕ) (t : Tree) → (count_of g (length s)).refusal ≡ 0 → OneDerivation g s t
      → (d : ℕ) × HasNumber g (length s) t d × (rank_of g s ≡ given (d ∷ total_of g (length s) ∷ 1 ∷ []) [])
  number_alone s t ok one =
      let k = one_read s t one in
      let some : 1 ≤ readings_of g s = omega arith in
      let r = number_read s some in (
        number_of g s,
        rw (one.alone (entry (length s) (number_of g s)) r.0 r.1) at (entry_has (length s) (number_of g s) (number_inside s some)),
        rw k at (rank_answer s (rank_accepted s (count_rows (length s) ok) some)),
      )

  number_after : (n d : ℕ) (out s : List ℕ) → (unrank_of g n d out).refusal ≡ 0 → s ≡ take n (unrank_of g n d out).buffer
      → (e k : ℕ) × (e ≤ d) × (k ≡ 1 → e ≡ d) × (rank_of g s ≡ given (e ∷ total_of g n ∷ k ∷ []) [])
  number_after n d out s ok e =
      let given = ap (λ (a : Answer). take n a.buffer) (give_answer n d out ok) in
      let front : take n (entry_of g n d ++ drop n out) ≡ entry_of g n d = rw (entry_length n d out ok) at (take-append_seam (entry_of g n d) (drop n out)) in
      let is : s ≡ entry_of g n d = e ∙ given ∙ front in
      let long : length s ≡ n = ap length is ∙ entry_length n d out ok in
      let h : d < total_of g (length s) = rw long (give_inside n d out ok) in
      let f : entry_of g (length s) d ≡ s = rw long (sym is) in
      let some = many_at (derives s) (full_list g (length s)) d (leaf 0 0) (omega (arith, listed_total (length s))) (at_reads s d f) in
      let prepared : first_that_applies (prepared_rows g (length s)) ≡ 0 = rw long (give_clear n d out ok).0 in (
        number_of g s,
        readings_of g s,
        number_least s d h f,
        λ one. sym (number_only s one d h f),
        rw (← long) (rank_answer s (rank_accepted s prepared some)),
      )

  pub demand_2 : Demand2 g
  unfolding first_that_applies
  demand_2 =
      record {
        chained = chained g;
        listed = λ n. record {
          all = listed (chain g) (start g) n;
          ordered = sorted (chain g) (start g) n;
          number = at_has n;
        };
        sums = sums (chain g);
        counted = T_counts (chain g);
        counts = count_answer;
        gives = λ n d out ok. (entry n d, entry_has n d (give_inside n d out ok), give_answer n d out ok);
        numbers = λ s ok. (
          readings_of g s,
          exactly_readings s,
          entry (length s) (number_of g s),
          number_of g s,
          lowest s (rank_some s ok),
          rank_answer s ok,
        );
        readings = λ s ok. (
          readings_of g s,
          exactly_readings s,
          λ e. ap (λ (a : Answer). a.refusal) (rank_underivable s (count_rows (length s) ok) e),
          rank_accepted s (count_rows (length s) ok),
        );
        alone = number_alone;
        there = give_after;
        back = number_after;
      }
