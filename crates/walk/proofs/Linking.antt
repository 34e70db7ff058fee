-- Along the links of a word to the one that a nonterminal has. Each link leads to the last place below with the word; the place sought stays
-- below, and a link whose owner is the nonterminal leads to a place of it.
-- Assumes nothing.
use mathlib.Core.Path.{◌≡◌, sym, ap, ◌∙◌}
use mathlib.Core.List.Memᴰ
use mathlib.Core.List.{List}
use Prim.Native.Nat.{ℕ, ◌+◌, ◌-◌, ◌≤◌, ◌<◌}
use native.Mathlib.Omega.{arith}
use native.Mathlib.Decide.{ℕ_discrete}
use Rattle.lists.proofs.Members.{up_from_∈}
use Rattle.grammar.specs.Inner.Rules.{word_at, word_from, count_in, words_in}
use Rattle.grammar.specs.Inner.Links.{last, with_word, next_word, word_owner}
use Rattle.grammar.proofs.Ruling.{word_below}
use Rattle.grammar.proofs.Keyed.{Link, last_le, last_after, link_at, words_rise}
use Rattle.walk.specs.Inner.Steps.{HasWord, WordPlacedAs}

-- l leads to the last place below `below` with the word x, and x's place in a is below that, too
pub record Linking (rules : List (List ℕ)) (x a l : ℕ) : Type 0 where
  pub below : ℕ
  pub low : below ≤ word_from rules (count_in rules)
  pub link : l ≡ last (word_at rules) x below
  pub place : ℕ
  pub there : WordPlacedAs rules x a place
  pub later : place < below

module _ {rules : List (List ℕ)} {x a : ℕ} (h : HasWord rules x a) where
  word_place : (i : ℕ) × WordPlacedAs rules x a i
  unfolding words_in
  word_place =
      let q = Memᴰ.of_map (word_at rules) _ h.some in
      let u = up_from_∈ (word_from rules a) (word_from rules (a + 1) - word_from rules a) q.1 in
      (q.0, record { from = u.0; to = omega (arith, u.1, h.table.word_rises a h.inside); word = q.2 })

  pub linking_start : {l : ℕ} → l ≡ with_word rules x → Linking rules x a l
  linking_start e =
      let q = word_place in
      record {
        below = word_from rules (count_in rules);
        low = omega arith;
        link = e ∙ h.linked.by_word.heads x h.low;
        place = q.0;
        there = q.1;
        later = word_below h.table a q.0 h.inside q.1.to;
      }

  module _ {l : ℕ} (w : Linking rules x a l) where
    pub linking_some : w.place < l
    linking_some = omega (arith, w.link, last_after (word_at rules) x w.below w.place w.later w.there.word)

    here : Link (word_at rules) (word_from rules) (count_in rules) (next_word rules) (word_owner rules) x w.below l
    here = link_at h.linked.by_word (words_rise h.table) x w.below w.link w.low (omega (arith, linking_some))

    pub linking_low : l ≤ 255
    linking_low = omega (arith, here.below, w.low, h.table.word_low (count_in rules) (omega arith))

    pub linking_end : {o : ℕ} → o ≡ word_owner rules l → o ≡ a → WordPlacedAs rules x a (l - 1)
    linking_end e f =
        let z : word_owner rules l ≡ a = sym e ∙ f in
        record { from = rw z at here.owner_from; to = rw z at here.owner_to; word = here.key_is }

    -- a link whose owner is another leads past no place of a
    pub linking_next : {o l' : ℕ} → o ≡ word_owner rules l → (o ≡ a → ⊥) → l' ≡ next_word rules l → Linking rules x a l' × (l' < l)
    linking_next {o} {l'} e f g =
        let m = w.there in
        let less : w.place < l - 1 =
        elim (ℕ_discrete (w.place + 1) l) [
          | yes z ↦
              let inside = word_below h.table a w.place h.inside m.to in
              absurd (f (e ∙ ap (word_owner rules) (sym z) ∙ h.linked.by_word.owners a w.place h.inside m.from m.to inside))
          | no z ↦ omega (arith, linking_some)
        ] in (
          record { below = l - 1; low = omega (arith, here.below, w.low); link = g ∙ here.next_is; place = w.place; there = m; later = less },
          omega (arith, here.next_is, last_le (word_at rules) x (l - 1), linking_some),
        )
