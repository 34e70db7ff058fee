-- The word that owns a ticket: by its place where each word counts once, by its links where one word is asked for, by a scan otherwise.
-- Assumes nothing.
use mathlib.Core.Path.{◌≡◌, refl, sym, ap, ◌∙◌}
use mathlib.Core.List.{List, [], ◌∷◌}
use Prim.Native.Nat.{ℕ, suc, ◌+◌, ◌-◌, ◌≤◌, ◌<◌}
use native.Mathlib.Omega.{arith}
use native.Mathlib.Decide.{dec_lt}
use lib.Dec.{eqb}
use lib.ListN.{length, get_or, set, take, drop, drop_of_length-le}
use lib.Seq.{drop-cons, split_at, length-take-le}
use Rattle.lists.specs.Joined.{sum_over}
use Rattle.lists.specs.Searched.{bit, times}
use Rattle.lists.specs.Inner.Parts.{Passed}
use Rattle.lists.proofs.Sums.{sum_ext}
use Rattle.lists.proofs.Searches.{∈_times}
use Rattle.lists.proofs.Owners.{owns_only}
use Rattle.lists.proofs.Parts.{passed_none, passed_size, passed_many, passed_here, passed_over}
use Rattle.grammar.specs.Inner.Rules.{word_at, word_from, words_in}
use Rattle.grammar.proofs.Ruling.{word_count_lem, word_here}
use Rattle.counting.specs.Refusals.{most}
use Rattle.counting.specs.Inner.Letters.{any, weighed, by_letter, before_at}
use Rattle.counting.proofs.Lettered.{by_any, by_word, by_same, letter_ones, letter_weights}
use Rattle.walk.specs.Inner.Steps.{HasWord, WordPlacedAs, WordSought, PickedAs, LeafAs}

module _ {rules : List (List ℕ)} {by to a t : ℕ} (s : WordSought rules by to a t) where
  abbrev words : List ℕ
  words = words_in rules a

  few : word_from rules (a + 1) ≤ 255
  few = s.table.word_low (a + 1) (omega (arith, s.inside))

  size : length words + word_from rules a ≡ word_from rules (a + 1)
  size = omega (arith, word_count_lem rules a, s.table.word_rises a s.inside)

  ones : (x : ℕ) → x ≡ any → (l : List ℕ) → sum_over (by_letter rules x) l ≡ length l
  ones = letter_ones rules

  -- ---- each word counts once: the ticket is the place

  module _ (e : by ≡ any) where
    pub any_low : t + word_from rules a < word_from rules (a + 1)
    any_low = omega (arith, s.ticket, ones by e words, size)

    pub any_room : word_from rules a + t ≤ 255
    any_room = omega (arith, any_low, few)

    pub any_picked : (f : to ≡ any) {i w : ℕ} → i ≡ word_from rules a + t → w ≡ word_at rules i → PickedAs rules by to a t w t 1 1 0
    any_picked f {i} {w} q h =
        let inside : t < length words = omega (arith, any_low, size) in
        let z : get_or words t 0 ≡ w = word_here rules a t (omega (arith, any_low)) ∙ sym (h ∙ ap (word_at rules) q) in
        let b = length-take-le t words (omega arith) in
        record {
          owns = record {
            before = take t words;
            after = drop (suc t) words;
            list = rw z at (split_at words t 0 inside);
            ticket = omega (arith, ones by e (take t words), b);
            own = rw (by_any rules by w e) (omega arith);
            place = omega (arith, ones to f (take t words), b);
          };
          measured_is = sym (by_any rules to w f);
          weight_is = sym (by_any rules by w e);
        }

  -- ---- one word

  module _ (l : by < any) where
    not_any : by ≡ any → ⊥
    not_any e = omega arith

    not_weighed : by ≡ weighed → ⊥
    not_weighed e = omega arith

    many : sum_over (by_letter rules by) words ≡ times by words
    many = sum_ext (by_letter rules by) (λ w. bit (eqb by w)) words (λ w m. by_word rules by w not_any not_weighed)

    pub has_word : HasWord rules by a
    has_word = record {
      table = s.table;
      linked = s.linked l;
      inside = s.inside;
      low = l;
      some = ∈_times by words (omega (arith, many, s.ticket));
    }

    module _ {i : ℕ} (h : WordPlacedAs rules by a i) where
      abbrev j : ℕ
      j = i - word_from rules a

      inside : j < length words
      inside = omega (arith, size, h.from, h.to)

      pub place_low : i ≤ 255
      place_low = omega (arith, h.to, few)

      back : word_from rules a + j ≡ i
      back = omega (arith, h.from)

      -- its place is what the words before it measure
      picked_at : {place measured : ℕ} → place ≡ sum_over (by_letter rules to) (take j words) → measured ≡ by_letter rules to by
          → PickedAs rules by to a t by place measured 1 0
      picked_at p m =
          let z : get_or words j 0 ≡ by = word_here rules a j (omega (arith, h.from, h.to)) ∙ ap (word_at rules) back ∙ h.word in
          let one = by_same rules by by not_any not_weighed refl in
          let all : sum_over (by_letter rules by) words ≡ by_letter rules by by = omega (arith, many, one, s.table.once a by s.inside, s.ticket) in
          let none : t ≡ 0 = omega (arith, s.ticket, all, one) in
          record {
            owns = rw (none, p) (owns_only {v = by_letter rules by} {u = by_letter rules to} (take j words) by (drop (suc j) words) (rw z at (split_at words j 0 inside)) all (omega (arith, one)));
            measured_is = m;
            weight_is = sym one;
          }

      -- where each counts once that is how many they are, and by weight it stands in the table
      pub word_picked : to ≡ any → {from : ℕ} → from ≡ word_from rules a → PickedAs rules by to a t by (i - from) 1 1 0
      word_picked f e = rw e (picked_at (sym (ones to f (take j words) ∙ length-take-le j words (omega (arith, inside)))) (sym (by_any rules to by f)))

      pub word_weighed : to ≡ weighed → {place measured : ℕ} → place ≡ before_at rules i → measured ≡ by_letter rules to by
          → PickedAs rules by to a t by place measured 1 0
      word_weighed f e = picked_at (e ∙ ap (before_at rules) (sym back) ∙ (s.measures f).before a j s.inside inside ∙ sym (letter_weights rules to f (take j words)))

-- ---- a scan

-- the words before the place i are gone through
pub record Scanning (rules : List (List ℕ)) (by to a t i rest place : ℕ) : Type 0 where
  pub from : word_from rules a ≤ i
  pub passed : Passed (by_letter rules by) (by_letter rules to) (words_in rules a) (drop (i - word_from rules a) (words_in rules a)) t place rest

module _ {rules : List (List ℕ)} {by to a t : ℕ} (s : WordSought rules by to a t) where
  pub scanning_start : {i : ℕ} → i ≡ word_from rules a → Scanning rules by to a t i t 0
  scanning_start {i} e =
      let z : i - word_from rules a ≡ 0 = omega arith in
      record { from = omega arith; passed = rw z (passed_none (by_letter rules by) (by_letter rules to) (words_in rules a) t) }

  module _ {i rest place : ℕ} (w : Scanning rules by to a t i rest place) where
    -- while t is a ticket, a word is left
    more : i - word_from rules a < length (words_in rules a)
    more =
        elim (dec_lt (i - word_from rules a) (length (words_in rules a))) [
          | yes l ↦ l
          | no k ↦
              let e : drop (i - word_from rules a) (words_in rules a) ≡ [] = drop_of_length-le (words_in rules a) {i = i - word_from rules a} (omega arith) in
              absurd (omega (arith, passed_many (rw e at w.passed), s.ticket))
        ]

    pub scanning_more : i < word_from rules (a + 1)
    scanning_more = omega (arith, more, size s, w.from)

    pub scanning_low : i < 255
    scanning_low = omega (arith, scanning_more, few s)

    module _ {x : ℕ} (e : x ≡ word_at rules i) where
      words_here : drop (i - word_from rules a) (words_in rules a) ≡ x ∷ drop (i + 1 - word_from rules a) (words_in rules a)
      words_here =
          let j = i - word_from rules a in
          let n : suc j ≡ i + 1 - word_from rules a = omega (arith, w.from) in
          let b : word_from rules a + j ≡ i = omega (arith, w.from) in
          let z : get_or (words_in rules a) j 0 ≡ x = word_here rules a j (omega (arith, more, word_count_lem rules a)) ∙ ap (word_at rules) b ∙ sym e in
          rw (z, n) at (drop-cons (words_in rules a) j 0 more)

      at_word : Passed (by_letter rules by) (by_letter rules to) (words_in rules a) (x ∷ drop (i + 1 - word_from rules a) (words_in rules a)) t place rest
      at_word = rw words_here at w.passed

      module _ {v u : ℕ} (ev : v ≡ by_letter rules by x) (eu : u ≡ by_letter rules to x) where
        pub scanning_room : place + u ≤ most
        scanning_room = omega (arith, passed_size at_word, s.fits)

        pub scanning_found : rest < v → PickedAs rules by to a t x place u v rest
        scanning_found h = record { owns = passed_here x (drop (i + 1 - word_from rules a) (words_in rules a)) at_word (omega arith); measured_is = eu; weight_is = ev }

        pub scanning_next : v ≤ rest → Scanning rules by to a t (i + 1) (rest - v) (place + u)
        scanning_next h =
            record {
              from = omega (arith, w.from);
              passed = rw (ev, eu) (passed_over x (drop (i + 1 - word_from rules a) (words_in rules a)) at_word (omega arith));
            }

-- ---- the word written

one_word : (out : List ℕ) (w : ℕ) → length out ≡ 1 → set out 0 w ≡ w ∷ []
one_word [] w e = absurd (omega arith)
one_word (x ∷ []) w e = refl
one_word (x ∷ (y ∷ l)) w e = absurd (omega arith)

pub leaf_written : {rules : List (List ℕ)} {by to a t w place measured weight offset : ℕ} (out : List ℕ) → length out ≡ 1
    → PickedAs rules by to a t w place measured weight offset → LeafAs rules by to a t (set out 0 w) place measured weight offset
leaf_written {w = w} out e q = record { word = w; written = one_word out w e; picked = q }
