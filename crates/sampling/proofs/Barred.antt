-- How many derivations are struck, of those that fit. A heard sentence that fits and has one derivation has just one place among them; where no heard
-- sentence has two derivations, every struck place is that of such a sentence. So the places of the heard sentences that *Left* counts are the struck
-- ones, each once, and left is the length of the unheard list.
-- Assumes nothing.
use mathlib.Core.Path.{◌≡◌, refl, sym, ap, ◌∙◌}
use mathlib.Core.Logic.{◌≢◌}
use mathlib.Core.Bool.{Bool, true, false, cond, not, ◌&&◌, true≢false}
use mathlib.Core.List.Memᴰ
use mathlib.Core.List.{List, [], ◌∷◌, map}
use Prim.Native.Nat.{ℕ, suc, ◌+◌, ◌-◌, ◌≤◌, ◌<◌}
use native.Mathlib.Omega.{arith}
use lib.ListN.{length, get_or, length-map}
use lib.Dec.{leb, eqb}
use borrow.Author.Tests.{leb-false, eqb-true, eq-eqb, not-false}
use Rattle.lists.specs.Joined.{◌∈◌, At}
use Rattle.lists.specs.Ordered.{none, more, Distinct, Exactly}
use Rattle.lists.specs.Searched.{bit, how_many, first_place, some_of, same, keep}
use Rattle.lists.specs.Inner.Struck.{numbered}
use Rattle.lists.proofs.Members.{get_or_∈, At_∈}
use Rattle.lists.proofs.Orders.{pairwise_distinct, distinct_le}
use Rattle.lists.proofs.Tests.{some_∈, ∈_some, none_∈, same_eq, same_refl}
use Rattle.lists.proofs.Searches.{many_at, place_lt, place_hit, place_only}
use Rattle.lists.proofs.Struck.{numbered_∈, numbered_sum}
use Rattle.lists.proofs.Strikes.{keep_∈, ∈_keep, keep_map, keep_keep, keep_many, keep_length, sum_keep, keep_pairwise, struck_rising, struck_fails, fails_struck}
use Rattle.grammar.specs.Layout.{start}
use Rattle.grammar.specs.Chains.{chain}
use Rattle.grammar.specs.Trees.{Tree, leaf, sentence}
use Rattle.counting.specs.Inner.Sentences as counting
use Rattle.counting.proofs.Sentences.{sentence_length}
use Rattle.ranking.specs.Answers.{full_list, derives, readings_of}
use Rattle.history.specs.Refusals as history
use Rattle.history.specs.Heard.{sentences_in, heard}
use Rattle.history.proofs.Chain.{heard_sentences}
use Rattle.sampling.specs.Pattern.{matches}
use Rattle.sampling.specs.Question.{Question}
use Rattle.sampling.specs.Unheard.{Entry, entries_from, outside, suits, unheard, total_for, distinct, of_length, heard_of, left_of, ambiguous}
use Rattle.sampling.specs.Inner.Collect.{fitting_at, barred}

-- ---- sentences, each once

pub distinct_∈ : (l : List (List ℕ)) (s : List ℕ) → s ∈ distinct l → s ∈ l
distinct_∈ [] s m = elim m [ ]
distinct_∈ (t ∷ l) s m = go (some_of (same t) l) (distinct_∈ l s) m
  where
    go : (b : Bool) → (s ∈ distinct l → s ∈ l) → s ∈ cond b (distinct l) (t ∷ distinct l) → s ∈ (t ∷ l)
    go true ih n = Memᴰ.tail (ih n)
    go false ih (Memᴰ.head e) = Memᴰ.head e
    go false ih (Memᴰ.tail n) = Memᴰ.tail (ih n)

∈_distinct : (l : List (List ℕ)) (s : List ℕ) → s ∈ l → s ∈ distinct l
∈_distinct [] s x' = elim x' [ ]
∈_distinct (t ∷ l) s (Memᴰ.head e) = go (some_of (same t) l) refl (∈_distinct l s)
  where
    go : (b : Bool) → some_of (same t) l ≡ b → (s ∈ l → s ∈ distinct l) → s ∈ cond b (distinct l) (t ∷ distinct l)
    go true p ih = let q = ∈_some (same t) l p in ih (Memᴰ.cast (e ∙ same_eq t q.0 q.2) q.1)
    go false p ih = Memᴰ.head e
∈_distinct (t ∷ l) s (Memᴰ.tail m) = go (some_of (same t) l) (∈_distinct l s m)
  where
    go : (b : Bool) → s ∈ distinct l → s ∈ cond b (distinct l) (t ∷ distinct l)
    go true n = n
    go false n = Memᴰ.tail n

distinct_once : (l : List (List ℕ)) → Distinct (distinct l)
distinct_once [] = none
distinct_once (t ∷ l) = go (some_of (same t) l) refl (distinct_once l)
  where
    go : (b : Bool) → some_of (same t) l ≡ b → Distinct (distinct l) → Distinct (cond b (distinct l) (t ∷ distinct l))
    go true p s = s
    go false p s =
        more {x = t}
        (λ u m e. let z : true ≡ false = sym (same_refl t) ∙ ap (same t) e ∙ none_∈ (same t) l p u (distinct_∈ l u m) in absurd (true≢false z))
        s

-- ---- the full list

pub listed_length : (g : List ℕ) (n : ℕ) (t : Tree) → t ∈ full_list g n → length (sentence t) ≡ n
unfolding counting.sentences
listed_length g n t m = sentence_length (chain g) (start g) n (sentence t) (Memᴰ.map sentence m)

-- ---- the derivations that fit

-- a place and what stands there, as an entry
abbrev pub entry : ℕ × Tree → Entry
entry e = record { number = e.0; tree = e.1 }

pub entries_are : (d : ℕ) (l : List Tree) → entries_from d l ≡ map entry (numbered d l)
entries_are d [] = refl
entries_are d (t ∷ l) = rw (entries_are (suc d) l)

-- what stands where nothing does
abbrev pub no_entry : ℕ × Tree
no_entry = (0, leaf 0 0)

module _ (g : List ℕ) (a : Question) where
  -- each is listed, at its number, and fits
  pub fitting_∈ : (e : ℕ × Tree) → e ∈ fitting_at g a → At (full_list g a.length) e.0 e.1 × (e.1 ∈ full_list g a.length) × (suits a e.1 ≡ true)
  fitting_∈ e m =
      let q = keep_∈ (λ (e : ℕ × Tree). suits a e.1) (numbered 0 (full_list g a.length)) e m in
      let z : e.0 - 0 ≡ e.0 = omega arith in
      let at = rw z at (numbered_∈ 0 (full_list g a.length) q.0).1 in
      (at, At_∈ (full_list g a.length) e.0 at, q.1)

  pub fitting_length : length (fitting_at g a) ≡ total_for g a
  unfolding total_for
  fitting_length = keep_many (λ (e : ℕ × Tree). suits a e.1) (numbered 0 (full_list g a.length)) ∙ numbered_sum (λ t. bit (suits a t)) 0 (full_list g a.length)

  -- the sentence at a place
  abbrev sentence_at : ℕ → List ℕ
  sentence_at i = sentence (get_or (fitting_at g a) i no_entry).1

  at_∈ : (i : ℕ) → i < length (fitting_at g a) → (length (sentence_at i) ≡ a.length) × (matches a.pattern (sentence_at i) ≡ true)
  at_∈ i h =
      let q = fitting_∈ (get_or (fitting_at g a) i no_entry) (get_or_∈ (fitting_at g a) i no_entry h) in
      (listed_length g a.length (get_or (fitting_at g a) i no_entry).1 q.1, q.2)

  -- the place of a sentence's first derivation
  abbrev pub says : (s : List ℕ) → ℕ × Tree → Bool
  says s e = derives s e.1

  abbrev pub place_of : List ℕ → ℕ
  place_of s = first_place (says s) (fitting_at g a)

  -- a sentence that fits has all its derivations there
  module _ (s : List ℕ) (e : length s ≡ a.length) (fit : matches a.pattern s ≡ true) where
    other : (t : Tree) → suits a t ≡ false → bit (derives s t) ≡ 0
    other t f = go (derives s t) refl
      where
        go : (b : Bool) → derives s t ≡ b → bit b ≡ 0
        go true q = absurd (true≢false (sym fit ∙ ap (matches a.pattern) (sym (same_eq (sentence t) s q)) ∙ f))
        go false q = refl

    pub many_says : how_many (says s) (fitting_at g a) ≡ readings_of g s
    many_says =
        sum_keep (λ (e : ℕ × Tree). suits a e.1) (λ (e : ℕ × Tree). bit (derives s e.1)) (numbered 0 (full_list g a.length)) (λ x m f. other x.1 f)
        ∙ numbered_sum (λ t. bit (derives s t)) 0 (full_list g a.length)
        ∙ ap (λ (n : ℕ). how_many (derives s) (full_list g n)) (sym e)

    -- with one derivation: its place is there, the sentence stands there, and nowhere else
    module _ (one : readings_of g s ≡ 1) where
      pub place_listed : place_of s < length (fitting_at g a)
      place_listed = place_lt (says s) (fitting_at g a) (omega (arith, many_says))

      pub place_entry : sentence_at (place_of s) ≡ s
      place_entry = same_eq (sentence_at (place_of s)) s (place_hit (says s) (fitting_at g a) no_entry (omega (arith, many_says)))

      pub entry_only : (i : ℕ) → i < length (fitting_at g a) → sentence_at i ≡ s → i ≡ place_of s
      entry_only i h f = place_only (says s) (fitting_at g a) i no_entry (many_says ∙ one) h (ap (λ (u : List ℕ). same u s) f ∙ same_refl s)

  -- a sentence that stands there has a derivation
  entry_read : (i : ℕ) → i < length (fitting_at g a) → 1 ≤ readings_of g (sentence_at i)
  entry_read i h =
      let q = at_∈ i h in
      omega (
        arith,
        many_says (sentence_at i) q.0 q.1,
        many_at (says (sentence_at i)) (fitting_at g a) i no_entry h (same_refl (sentence_at i)),
      )

  -- sentences with one derivation have different places
  places_once : (l : List (List ℕ)) → ((s : List ℕ) → s ∈ l → (length s ≡ a.length) × (matches a.pattern s ≡ true) × (readings_of g s ≡ 1)) → Distinct l
      → Distinct (map place_of l)
  places_once [] h none = none
  places_once (s ∷ l) h (more f d) =
      more {x = place_of s}
      (λ i m e.
      let q = Memᴰ.of_map place_of l m in
      let x = h s (Memᴰ.head refl) in
      let y = h q.0 (Memᴰ.tail q.1) in
      f q.0 q.1
      (sym (place_entry s x.0 x.1 x.2) ∙ ap sentence_at (e ∙ sym q.2) ∙ place_entry q.0 y.0 y.1 y.2))
      (places_once l (λ t m. h t (Memᴰ.tail m)) d)

-- ---- the unheard list

module _ (g h : List ℕ) (a : Question) where
  -- the sentence at a place is unheard
  abbrev pub free : ℕ × Tree → Bool
  free e = outside h a.voice e.1

  -- the heard sentences of the length that have one derivation, and of these the ones that fit
  abbrev one_reading : List (List ℕ)
  one_reading = keep (λ s. eqb (readings_of g s) 1) (of_length h a)

  abbrev counted : List (List ℕ)
  counted = keep (matches a.pattern) (distinct one_reading)

  pub unheard_is : unheard g h a ≡ map entry (keep free (fitting_at g a))
  unfolding unheard
  unheard_is =
      ap (keep (λ (e : Entry). suits a e.tree && outside h a.voice e.tree)) (entries_are 0 (full_list g a.length))
      ∙ keep_map entry (λ (e : Entry). suits a e.tree && outside h a.voice e.tree) (numbered 0 (full_list g a.length))
      ∙ ap (map entry) (sym (keep_keep free (λ (e : ℕ × Tree). suits a e.1) (numbered 0 (full_list g a.length))))

  pub unheard_length : length (unheard g h a) ≡ length (keep free (fitting_at g a))
  unheard_length = ap length unheard_is ∙ length-map (keep free (fitting_at g a)) entry

  pub unheard_all : length (unheard g h a) + length (barred g h a) ≡ total_for g a
  unheard_all = omega (arith, unheard_length, keep_length free (fitting_at g a), fitting_length g a)

-- with an accepted history
module _ (g h : List ℕ) (a : Question) (diary : history.Accepted h) where
  -- ---- the sentences heard

  pub heard_∈ : (s : List ℕ) → heard h a.voice s ≡ true → s ∈ sentences_in h a.voice
  heard_∈ s e =
      let q = ∈_some (λ t. same t s) (sentences_in h a.voice) (sym (heard_sentences h diary a.voice s) ∙ e) in
      Memᴰ.cast (sym (same_eq q.0 s q.2)) q.1

  pub ∈_heard : (s : List ℕ) → s ∈ sentences_in h a.voice → heard h a.voice s ≡ true
  ∈_heard s m = heard_sentences h diary a.voice s ∙ some_∈ (λ t. same t s) s (sentences_in h a.voice) m (same_refl s)

  pub length_∈ : (s : List ℕ) → s ∈ of_length h a → (heard h a.voice s ≡ true) × (length s ≡ a.length)
  length_∈ s m =
      let q = keep_∈ (λ s. eqb (length s) a.length) (sentences_in h a.voice) s m in
      (∈_heard s q.0, eqb-true (length s) a.length q.1)

  pub ∈_length : (s : List ℕ) → heard h a.voice s ≡ true → length s ≡ a.length → s ∈ of_length h a
  ∈_length s e l = ∈_keep (λ s. eqb (length s) a.length) (sentences_in h a.voice) s (heard_∈ s e) (eq-eqb (length s) a.length l)

  -- ---- the struck places are those of the heard sentences that fit and have one derivation

  -- the place of such a sentence is struck
  place_fails : (s : List ℕ) → s ∈ of_length h a → matches a.pattern s ≡ true → readings_of g s ≡ 1
      → (place_of g a s < length (fitting_at g a)) × (free g h a (get_or (fitting_at g a) (place_of g a s) no_entry) ≡ false)
  place_fails s m fit one =
      let q = length_∈ s m in
      (place_listed g a s q.1 fit one, ap (λ (u : List ℕ). not (heard h a.voice u)) (place_entry g a s q.1 fit one) ∙ ap not q.0)

  module _ (clear : ambiguous g h a ≡ false) where
    pub few_readings : (s : List ℕ) → s ∈ of_length h a → readings_of g s < 2
    unfolding ambiguous
    few_readings s m = leb-false 2 (readings_of g s) (none_∈ (λ s. leb 2 (readings_of g s)) (of_length h a) clear s m)

    -- a struck place is that of such a sentence
    fails_place : (i : ℕ) → i < length (fitting_at g a) → free g h a (get_or (fitting_at g a) i no_entry) ≡ false
        → (s : List ℕ) × (s ∈ of_length h a) × (matches a.pattern s ≡ true) × (readings_of g s ≡ 1) × (place_of g a s ≡ i)
    fails_place i l e =
        let s = sentence_at g a i in
        let q = at_∈ g a i l in
        let m = ∈_length s (not-false (heard h a.voice s) e) q.0 in
        let one : readings_of g s ≡ 1 = omega (arith, few_readings s m, entry_read g a i l) in
        (s, m, q.1, one, sym (entry_only g a s q.0 q.1 one i l refl))

    -- ---- what *Left* counts

    -- a sentence counted is one of these
    counted_∈ : (s : List ℕ) → s ∈ counted g h a → (s ∈ of_length h a) × (matches a.pattern s ≡ true) × (readings_of g s ≡ 1)
    counted_∈ s m =
        let p = keep_∈ (matches a.pattern) (distinct (one_reading g h a)) s m in
        let q = keep_∈ (λ s. eqb (readings_of g s) 1) (of_length h a) s (distinct_∈ (one_reading g h a) s p.0) in
        (q.0, p.1, eqb-true (readings_of g s) 1 q.1)

    ∈_counted : (s : List ℕ) → s ∈ of_length h a → matches a.pattern s ≡ true → readings_of g s ≡ 1 → s ∈ counted g h a
    ∈_counted s m fit one =
        ∈_keep (matches a.pattern) (distinct (one_reading g h a)) s
        (∈_distinct (one_reading g h a) s (∈_keep (λ s. eqb (readings_of g s) 1) (of_length h a) s m (eq-eqb (readings_of g s) 1 one)))
        fit

    counted_once : Distinct (counted g h a)
    counted_once = keep_pairwise ◌≢◌ (matches a.pattern) (distinct (one_reading g h a)) (distinct_once (one_reading g h a))

    -- their places are the struck ones
    counted_struck : (d : ℕ) → d ∈ map (place_of g a) (counted g h a) → d ∈ barred g h a
    counted_struck d m =
        let p = Memᴰ.of_map (place_of g a) (counted g h a) m in
        let q = counted_∈ p.0 p.1 in
        let r = place_fails p.0 q.0 q.1 q.2 in
        Memᴰ.cast (sym p.2) (fails_struck (free g h a) (fitting_at g a) (place_of g a p.0) no_entry r.0 r.1)

    struck_counted : (d : ℕ) → d ∈ barred g h a → d ∈ map (place_of g a) (counted g h a)
    struck_counted d m =
        let p = struck_fails (free g h a) (fitting_at g a) d no_entry m in
        let q = fails_place d p.0 p.1 in
        Memᴰ.cast (sym q.4) (Memᴰ.map (place_of g a) (∈_counted q.0 q.1 q.2 q.3))

    pub heard_length : heard_of g h a ≡ length (barred g h a)
    unfolding heard_of
    heard_length =
        sym (length-map (counted g h a) (place_of g a))
        ∙ omega (
          arith,
          distinct_le (map (place_of g a) (counted g h a)) (barred g h a)
              (places_once g a (counted g h a)
              (λ s m. let q = counted_∈ s m in ((length_∈ s q.0).1, q.1, q.2)) counted_once)
              counted_struck,
          distinct_le (barred g h a) (map (place_of g a) (counted g h a))
              (pairwise_distinct ◌<◌ (λ x y l e. omega arith) (barred g h a) (struck_rising (free g h a) (fitting_at g a)))
              struck_counted,
        )

    -- it counts the heard sentences that fit and have one derivation
    pub heard_exactly : Exactly (heard_of g h a)
        (λ s. (length s ≡ a.length) × (matches a.pattern s ≡ true) × (heard h a.voice s ≡ true) × (readings_of g s ≡ 1))
    unfolding heard_of
    heard_exactly =
        record {
          listed = counted g h a;
          many = refl;
          once = counted_once;
          all = λ s. (
            λ p. ∈_counted s (∈_length s p.2 p.0) p.1 p.3,
            λ m. let q = counted_∈ s m in let r = length_∈ s q.0 in (r.1, q.1, r.0, q.2),
          );
        }

    -- left is the length of the unheard list
    pub left_length : left_of g h a ≡ length (unheard g h a)
    left_length = omega (arith, heard_length, unheard_all g h a)

    -- so "left = T - heard" is no cut-off difference
    pub heard_left : heard_of g h a + left_of g h a ≡ total_for g a
    heard_left = omega (arith, heard_length, unheard_all g h a)
