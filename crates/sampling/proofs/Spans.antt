-- The heard derivations by their tickets, where each sentence weighs u. A heard sentence with one derivation that weighs something owns the tickets from
-- its first on; where no heard sentence has two derivations, every derivation that is struck and weighs something is that of such a sentence. So a rising
-- list of just what is told of theirs, the first or where they end, is that of what is struck.
-- Assumes nothing.
use mathlib.Core.Path.{◌≡◌, refl, sym, ap, ◌∙◌}
use mathlib.Core.Logic.{◌↔◌}
use mathlib.Core.Bool.{Bool, true, false, not, cond, ◌&&◌, ◌||◌}
use mathlib.Core.List.Memᴰ
use mathlib.Core.List.{List, [], ◌∷◌, map}
use Prim.Native.Nat.{ℕ, ◌-◌, ◌<◌}
use native.Mathlib.Omega.{arith}
use borrow.Author.Tests.{eqb-true, eq-eqb, ne_eqb, eqb-false, lt-ltb, ltb-true, not-false}
use lib.ListN.{length}
use lib.Dec.{ltb, eqb}
use Rattle.lists.specs.Joined.{◌∈◌, sum_over, concat_map}
use Rattle.lists.specs.Ordered.{Pairwise}
use Rattle.lists.specs.Searched.{bit, how_many, same}
use Rattle.lists.specs.Inner.Tickets.{first_ticket, owner, place, StruckAs}
use Rattle.lists.specs.Inner.Struck.{numbered}
use Rattle.lists.proofs.Members.{At_∈, ∈_concat, concat_∈}
use Rattle.lists.proofs.Sums.{sum_append}
use Rattle.lists.proofs.Tests.{bit_true, and_left, and_right, or_left, or_right, same_eq, same_refl}
use Rattle.lists.proofs.Owners.{owned, owns_only}
use Rattle.lists.proofs.Searches.{by_first, first_map}
use Rattle.lists.proofs.Struck.{numbered_∈, numbered_sum, unnumbered, Below, struck_at_∈, struck_told, by_strike}
use Rattle.grammar.specs.Trees.{Tree, sentence}
use Rattle.ranking.specs.Answers.{full_list, derives, readings_of}
use Rattle.history.specs.Refusals as history
use Rattle.history.specs.Heard.{sentences_in, heard}
use Rattle.sampling.specs.Question.{plainly}
use Rattle.sampling.specs.Unheard.{outside}
use Rattle.sampling.specs.Inner.Collect.{spans_by}
use Rattle.sampling.proofs.Barred.{listed_length, no_entry, heard_∈, ∈_heard}

module _ (g : List ℕ) (n : ℕ) (u : List ℕ → ℕ) where
  -- the derivations with their numbers, and what they weigh
  abbrev pub listed : List (ℕ × Tree)
  listed = numbered 0 (full_list g n)

  abbrev pub weight_at : ℕ × Tree → ℕ
  weight_at e = u (sentence e.1)

  -- the first ticket and the weight of a sentence
  abbrev pub span_of : List ℕ → ℕ × ℕ
  span_of s = (first_ticket u (λ t. same t s) (map sentence (full_list g n)), u s)

  -- what is told of them for one with n words and one derivation that weighs something; for any other nothing
  abbrev pub numbers_by : (tell : ℕ × ℕ → ℕ) (s : List ℕ) → List ℕ
  numbers_by tell s = cond (eqb (length s) n && (eqb (readings_of g s) 1 && ltb 0 (u s))) (tell (span_of s) ∷ []) []

  by_∈ : (tell : ℕ × ℕ → ℕ) (s : List ℕ) (d : ℕ) → d ∈ numbers_by tell s → (length s ≡ n) × (readings_of g s ≡ 1) × (0 < u s) × (tell (span_of s) ≡ d)
  by_∈ tell s d m = go (eqb (length s) n && (eqb (readings_of g s) 1 && ltb 0 (u s))) refl m
    where
      go : (b : Bool) → (eqb (length s) n && (eqb (readings_of g s) 1 && ltb 0 (u s))) ≡ b → d ∈ cond b (tell (span_of s) ∷ []) []
          → (length s ≡ n) × (readings_of g s ≡ 1) × (0 < u s) × (tell (span_of s) ≡ d)
      go true e k =
          let r = and_right (eqb (length s) n) (eqb (readings_of g s) 1 && ltb 0 (u s)) e in (
            eqb-true (length s) n (and_left (eqb (length s) n) (eqb (readings_of g s) 1 && ltb 0 (u s)) e),
            eqb-true (readings_of g s) 1 (and_left (eqb (readings_of g s) 1) (ltb 0 (u s)) r),
            ltb-true 0 (u s) (and_right (eqb (readings_of g s) 1) (ltb 0 (u s)) r),
            sym (Memᴰ.eq_of_singleton k),
          )
      go false e k = absurd (Memᴰ.not-nil k)

  ∈_by : (tell : ℕ × ℕ → ℕ) (s : List ℕ) → length s ≡ n → readings_of g s ≡ 1 → 0 < u s → tell (span_of s) ∈ numbers_by tell s
  ∈_by tell s e one some = rw (eq-eqb (length s) n e, eq-eqb (readings_of g s) 1 one, lt-ltb 0 (u s) some) (Memᴰ.head refl)

  -- ---- a sentence among them

  abbrev says : (s : List ℕ) → ℕ × Tree → Bool
  says s e = derives s e.1

  pub listed_∈ : (e : ℕ × Tree) → e ∈ listed → e.1 ∈ full_list g n
  listed_∈ e m = At_∈ (full_list g n) (e.0 - 0) (numbered_∈ 0 (full_list g n) m).1

  ticket_listed : (s : List ℕ) → first_ticket weight_at (says s) listed ≡ (span_of s).0
  ticket_listed s =
      sym (first_map (λ t. u (sentence t)) (derives s) (λ (e : ℕ × Tree). e.1) listed)
      ∙ ap (first_ticket (λ t. u (sentence t)) (derives s)) (unnumbered 0 (full_list g n))
      ∙ sym (first_map u (λ t. same t s) sentence (full_list g n))

  module _ (s : List ℕ) (e : length s ≡ n) where
    many : how_many (says s) listed ≡ readings_of g s
    many = numbered_sum (λ t. bit (derives s t)) 0 (full_list g n) ∙ ap (λ (m : ℕ). how_many (derives s) (full_list g m)) (sym e)

-- ---- the heard ones

module _ (g h : List ℕ) (n v : ℕ) (u : List ℕ → ℕ) where
  abbrev pub unheard_at : ℕ × Tree → Bool
  unheard_at e = outside h v e.1

  -- the test by which they are told
  abbrev heavy : ℕ × Tree → Bool
  heavy e = unheard_at e || eqb (weight_at g n u e) 0

  module _ (diary : history.Accepted h) (few : (s : List ℕ) → s ∈ sentences_in h v → length s ≡ n → readings_of g s < 2) where
    from : (s : List ℕ) → s ∈ sentences_in h v → length s ≡ n → readings_of g s ≡ 1 → 0 < u s
        → (e : ℕ × ℕ) × StruckAs heavy (weight_at g n u) (listed g n u) e × (e ≡ span_of g n u s)
    from s m long one some =
        let r = owned {v = λ e. bit (says g n u s e)} {u = weight_at g n u} (listed g n u) 0 no_entry (omega (arith, many g n u s long)) in
        let x = owner (λ e. bit (says g n u s e)) (listed g n u) 0 no_entry in
        let is : sentence x.1 ≡ s = same_eq (sentence x.1) s (bit_true (says g n u s x) (omega (arith, r.own))) in
        let fails : heavy x ≡ false
        = ap (λ (t : List ℕ). not (heard h v t) || eqb (u t) 0) is ∙ rw (∈_heard g h (plainly n v) diary s m, ne_eqb (u s) 0 (λ z. omega arith)) in (
          (place (λ e. bit (says g n u s e)) (weight_at g n u) (listed g n u) 0, weight_at g n u x),
          by_strike heavy fails r,
          rw (by_first r (says g n u s) (λ y i. refl) ∙ ticket_listed g n u s, ap u is),
        )

    into : (e : ℕ × ℕ) → StruckAs heavy (weight_at g n u) (listed g n u) e
        → (s : List ℕ) × (s ∈ sentences_in h v) × (length s ≡ n) × (readings_of g s ≡ 1) × (0 < u s) × (e ≡ span_of g n u s)
    into e r =
        let x = r.at in
        let s = sentence x.1 in
        let weighty = or_right (unheard_at x) (eqb (weight_at g n u x) 0) r.fails in
        let i = struck_at_∈ heavy (weight_at g n u) r in
        let long = listed_length g n x.1 (listed_∈ g n u x i) in
        let m = heard_∈ g h (plainly n v) diary s (not-false (heard h v s) (or_left (unheard_at x) (eqb (weight_at g n u x) 0) r.fails)) in
        let one_here : bit (says g n u s x) ≡ 1 = ap bit (same_refl s) in
        let parts = sum_append (λ (y : ℕ × Tree). bit (says g n u s y)) r.before (x ∷ r.after) in
        let whole = ap (sum_over (λ (y : ℕ × Tree). bit (says g n u s y))) r.list in
        let one : readings_of g s ≡ 1 = omega (arith, few s m long, many g n u s long, parts, whole) in
        let o = owns_only {v = λ y. bit (says g n u s y)} {u = weight_at g n u} r.before x r.after r.list (omega (arith, many g n u s long)) (omega arith) in
        let first = by_first o (says g n u s) (λ y k. refl) in
        (s, m, long, one, omega (arith, eqb-false (weight_at g n u x) 0 weighty), r.entry ∙ ap (λ (d : ℕ). (d, u s)) (first ∙ ticket_listed g n u s))

    pub collected : (tell : ℕ × ℕ → ℕ) → ((a b : ℕ × ℕ) → Below a b → tell a < tell b) → (l : List ℕ) → Pairwise ◌<◌ l
        → ((d : ℕ) → (d ∈ l) ↔ (d ∈ concat_map (numbers_by g n u tell) (sentences_in h v)))
        → l ≡ map tell (spans_by g h n v u)
    collected tell rises l rising just =
        struck_told heavy (weight_at g n u) tell rises (listed g n u) l
        (λ x m f. omega (arith, eqb-false (weight_at g n u x) 0 (or_right (unheard_at x) (eqb (weight_at g n u x) 0) f)))
        rising
        (λ d m.
        let c = concat_∈ (numbers_by g n u tell) (sentences_in h v) ((just d).0 m) in
        let q = by_∈ g n u tell c.0 d c.2 in
        let r = from c.0 c.1 q.0 q.1 q.2 in
        (r.0, r.1, ap tell r.2 ∙ q.3))
        (λ e r.
        let q = into e r in
        Memᴰ.cast (ap tell q.5)
        ((just (tell (span_of g n u q.0))).1 (∈_concat (numbers_by g n u tell) q.0 (sentences_in h v) q.1 (∈_by g n u tell q.0 q.2 q.3 q.4))))
