-- The chain of a history. Where its links are right, it meets each record once exactly if it is K records long: a walk that ends meets
-- none twice, and K different numbers from 1 to K are all of them. So an accepted history's chain has each of its K records once, and
-- what a walk yields can be said step by step, with no bound on its length.
-- Assumes nothing.
use mathlib.Core.Path.{◌≡◌, refl, sym, ap, ◌∙◌}
use mathlib.Core.Bool.{Bool, true, false, not}
use mathlib.Core.List.Memᴰ
use mathlib.Core.List.{List, [], ◌∷◌}
use Prim.Native.Nat.{ℕ, ◌+◌, ◌-◌, ◌≤◌, ◌<◌}
use native.Mathlib.Omega.{arith}
use native.Mathlib.Decide.{ℕ_discrete}
use borrow.Author.Tests.{eq-eqb, ne_eqb}
use lib.ListN.{length}
use lib.Dec.{eqb}
use Rattle.lists.specs.Joined.{◌∈◌, up_from}
use Rattle.lists.specs.Ordered.{Distinct}
use Rattle.lists.specs.Searched.{some_of, times, same, keep}
use Rattle.lists.specs.Linked.{met_from, Walk}
use Rattle.lists.proofs.Sums.{sum_ext, sum_one, length_up_from}
use Rattle.lists.proofs.Members.{up_from_∈, ∈_up_from}
use Rattle.lists.proofs.Searches.{times_sum, times_full, ∈_times, times_distinct, distinct_times}
use Rattle.lists.proofs.Linked.{met_zero, met_step, met_inside, met_free, met_walk, walk_distinct}
use Rattle.lists.proofs.Tests.{both_ways, and_left, and_right, some_∈, ∈_some, to_clear, to_some, to_found}
use Rattle.lists.proofs.Strikes.{keep_∈, ∈_keep}
use Rattle.history.specs.Layout.{records_of, head_of, next_of, record_words}
use Rattle.history.specs.Chain.{numbers_from, numbers}
use Rattle.history.specs.Refusals.{bad_link, bad_chain, Accepted}
use Rattle.history.specs.Heard.{makes_heard, sentences_in, has_sentence, heard}
use Rattle.history.proofs.Acceptance.{clear, known, link_head, link_next, each_once}

module _ (h : List ℕ) where
  -- what is met are records
  pub numbers_inside : (r : ℕ) {x : ℕ} → x ∈ numbers_from h r → (1 ≤ x) × (x ≤ records_of h)
  unfolding numbers_from
  numbers_inside r m = met_inside (next_of h) (records_of h) (records_of h + 1) r m

  in_run : (x : ℕ) → x ∈ numbers h → (1 ≤ x) × (x < 1 + records_of h)
  in_run x m = let q = numbers_inside (head_of h) m in (q.0, omega (arith, q.1))

  -- each record once: then there are K on the chain
  length_once : ((r : ℕ) → 1 ≤ r → r ≤ records_of h → times r (numbers h) ≡ 1) → length (numbers h) ≡ records_of h
  length_once once =
      let each = sum_ext (λ r. times r (numbers h)) (λ r. 1) (up_from 1 (records_of h))
      (λ r m. let q = up_from_∈ 1 (records_of h) m in once r q.0 (omega (arith, q.1))) in
      omega (arith, times_sum 1 (records_of h) (numbers h) in_run, each, sum_one (up_from 1 (records_of h)), length_up_from 1 (records_of h))

  module _ (links : bad_link h ≡ false) where
    -- K on the chain: then the walk has ended, and has met each once
    walked : length (numbers h) ≡ records_of h → Walk (next_of h) (records_of h) (head_of h) (numbers h)
    unfolding numbers_from
    walked e =
        met_walk (next_of h) (records_of h) (link_next h links) (records_of h + 1) (head_of h) (link_head h links) (omega arith)

    once_length : length (numbers h) ≡ records_of h → (r : ℕ) → 1 ≤ r → r ≤ records_of h → times r (numbers h) ≡ 1
    once_length e r l m =
        times_full 1 (records_of h) (numbers h) in_run
        (λ x i. distinct_times (numbers h) (walk_distinct (next_of h) (records_of h) (walked e)) x) e r (∈_up_from r 1 (records_of h) l (omega arith))

    -- 14 as a test of the chain's length
    pub chain_length : bad_chain h ≡ not (eqb (length (numbers h)) (records_of h))
    unfolding bad_chain
    chain_length =
        elim (ℕ_discrete (length (numbers h)) (records_of h)) [
          | yes e ↦
              to_clear (λ r. not (eqb (times r (numbers h)) 1)) (records_of h) (λ r l m. ap not (eq-eqb _ 1 (once_length e r l m)))
              ∙ sym (ap not (eq-eqb (length (numbers h)) (records_of h) e))
          | no n ↦ bad n (bad_chain h) refl ∙ sym (ap not (ne_eqb (length (numbers h)) (records_of h) n))
        ]
      where
        bad : (length (numbers h) ≡ records_of h → ⊥) → (b : Bool) → bad_chain h ≡ b → bad_chain h ≡ true
        bad n true e = e
        bad n false e = absurd (n (length_once (each_once h e)))

-- ---- 14, as a loop of K steps meets it: the steps made, with what the walk still meets, come to the chain's length

pub record Walking (h : List ℕ) (k at made : ℕ) : Type 0 where
  pub low : at ≤ records_of h
  pub due : length (numbers h) ≡ made + length (met_from (next_of h) (records_of h) (k - made + 1) at)

module _ {h : List ℕ} {k : ℕ} (count : k ≡ records_of h) (links : bad_link h ≡ false) where
  pub walk_start : {at : ℕ} → at ≡ head_of h → Walking h k at 0
  unfolding numbers_from
  walk_start e = let f : k - 0 + 1 ≡ records_of h + 1 = omega arith in rw e (record { low = link_head h links; due = rw f (omega arith) })

  pub walk_step : {at next made : ℕ} → made < k → (at ≡ 0 → ⊥) → next ≡ next_of h at → Walking h k at made → Walking h k next (made + 1)
  walk_step {at} {next} {made} l n e w =
      let s = met_step (next_of h) (records_of h) (k - made + 1) at (omega arith) (omega arith) w.low in
      let f : k - made + 1 - 1 ≡ k - (made + 1) + 1 = omega arith in
      rw e
      (record { low = link_next h links at (omega arith) w.low; due = omega (arith, w.due, ap length (rw f at s)) })

  pub walk_short : {at made : ℕ} → made < k → at ≡ 0 → Walking h k at made → true ≡ bad_chain h
  walk_short {at} {made} l e w =
      let m = ap length (met_zero (next_of h) (records_of h) (k - made + 1) at e) in
      sym (chain_length h links ∙ ap not (ne_eqb (length (numbers h)) (records_of h) (λ f. omega (arith, w.due))))

  pub walk_end : {at made : ℕ} → made ≡ k → Walking h k at made → not (eqb at 0) ≡ bad_chain h
  walk_end {at} {made} l w = last (ℕ_discrete at 0) ∙ sym (chain_length h links)
    where
      last : Dec (at ≡ 0) → not (eqb at 0) ≡ not (eqb (length (numbers h)) (records_of h))
      last (yes e) =
          let m = ap length (met_zero (next_of h) (records_of h) (k - made + 1) at e) in
          rw (eq-eqb at 0 e, eq-eqb (length (numbers h)) (records_of h) (omega (arith, w.due)))
      last (no n) =
          let s = ap length (met_step (next_of h) (records_of h) (k - made + 1) at (omega arith) (omega arith) w.low) in
          rw (ne_eqb at 0 n, ne_eqb (length (numbers h)) (records_of h) (λ f. omega (arith, w.due)))

-- ---- an accepted history

-- "each record 1 to K is on it once": the walk along the chain ends, it meets K records, none twice, and every one
pub record Chained (h : List ℕ) : Type 0 where
  pub over : Walk (next_of h) (records_of h) (head_of h) (numbers h)
  pub many : length (numbers h) ≡ records_of h
  pub once : Distinct (numbers h)
  pub all : (r : ℕ) → 1 ≤ r → r ≤ records_of h → r ∈ numbers h

pub chained : (h : List ℕ) → Accepted h → Chained h
chained h ok =
    let k = known h ok in
    let many = length_once h k.once in
    record {
      over = walked h (clear h ok).links many;
      many = many;
      once = times_distinct (numbers h)
          (λ r m. let q = numbers_inside h (head_of h) m in omega (arith, k.once r q.0 q.1));
      all = λ r l m. ∈_times r (numbers h) (omega (arith, k.once r l m));
    }

module _ (h : List ℕ) (ok : Accepted h) where
  -- ---- what a walk yields, step by step

  pub numbers_zero : (r : ℕ) → r ≡ 0 → numbers_from h r ≡ []
  unfolding numbers_from
  numbers_zero r e = met_zero (next_of h) (records_of h) (records_of h + 1) r e

  pub numbers_step : (r : ℕ) → 1 ≤ r → r ≤ records_of h → numbers_from h r ≡ r ∷ numbers_from h (next_of h r)
  unfolding numbers_from
  numbers_step r l m =
      let c = chained h ok in
      met_free (next_of h) (records_of h) (records_of h + 1) (head_of h) r (omega (arith, c.many)) (c.all r l m)

  -- ---- heard: a sentence of the chain

  module _ (v : ℕ) where
    pub heard_sentences : (s : List ℕ) → heard h v s ≡ some_of (λ t. same t s) (sentences_in h v)
    unfolding heard
    heard_sentences s = both_ways (heard h v s) (some_of (λ t. same t s) (sentences_in h v)) there back
      where
        there : heard h v s ≡ true → some_of (λ t. same t s) (sentences_in h v) ≡ true
        there e =
            let q = to_found (λ r. has_sentence h v r s) (records_of h) e in
            let r = q.0 in
            let makes = and_left (makes_heard h v r) (same (record_words h r) s) q.3 in
            some_∈ (λ t. same t s) (record_words h r) (sentences_in h v)
            (Memᴰ.map (record_words h) (∈_keep (makes_heard h v) (numbers h) r ((chained h ok).all r q.1 q.2) makes))
            (and_right (makes_heard h v r) (same (record_words h r) s) q.3)

        back : some_of (λ t. same t s) (sentences_in h v) ≡ true → heard h v s ≡ true
        back e =
            let q = ∈_some (λ t. same t s) (sentences_in h v) e in
            let r = Memᴰ.of_map (record_words h) (keep (makes_heard h v) (numbers h)) q.1 in
            let k = keep_∈ (makes_heard h v) (numbers h) r.0 r.1 in
            let i = numbers_inside h (head_of h) k.0 in
            to_some (λ k. has_sentence h v k s) (records_of h) r.0 i.0 i.1 (rw (k.1, r.2) q.2)
