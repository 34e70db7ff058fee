-- Adding along the rules with a key: what the row has, with what the rules from the one at hand on still add, comes to the end value. A
-- turn moves one rule from the second to the first.
-- Assumes nothing.
use mathlib.Core.Path.{◌≡◌, refl, sym, ap, ◌∙◌}
use mathlib.Core.Bool.{Bool, true, false, cond, ◌||◌}
use mathlib.Core.List.{List}
use Prim.Native.Nat.{ℕ, ◌+◌, ◌-◌, ◌*◌, ◌≤◌, ◌<◌}
use native.Mathlib.Omega.{arith}
use native.Mathlib.Decide.{ℕ_discrete}
use borrow.Author.Tests.{eq-eqb, ne_eqb}
use lib.Dec.{eqb}
use lib.ListN.{length}
use Rattle.lists.specs.Inner.Tables.{entry, put, Wide}
use Rattle.lists.proofs.Tests.{cond_none}
use Rattle.sets.specs.Inner.Sets.{member}
use Rattle.grammar.specs.Inner.Rules.{word_at, word_from, pair_from, count_in}
use Rattle.grammar.specs.Inner.Links.{last, pick_sum, both, both_at, next_word, word_owner, with_word, next_pair, pair_owner, with_pair, Keyed}
use Rattle.grammar.proofs.Keyed.{Link, Rising, last_le, pick_none, pick_more, link_at, words_rise, pairs_rise, words_picked, pairs_picked}
use Rattle.counting.specs.Refusals.{most}
use Rattle.charts.specs.Inner.Filling.{only, tie_sum, word_times, Growing, GrownAs, Adds, AddsPair, Clear}
use Rattle.charts.proofs.Growing.{growing_start, growing_end, growing_same, growing_put, growing_fits}

-- ---- along the rules of any table

-- The rule at hand is the one at l - 1, the last with the key x before `to`. Only for the nonterminals that `keeps` lets is v added.
pub record Walking (key owner : ℕ → ℕ) (keeps : ℕ → Bool) (v x n row count : ℕ) (f : ℕ → ℕ) (before now : List (List ℕ)) (s l : ℕ) : Type 0 where
  pub to : ℕ
  pub low : to ≤ n
  pub at : l ≡ last key x to
  pub growing : Growing row count f before now (λ A. cond (keeps A) (pick_sum key owner (λ i. v) x A to) 0) s

module _ {key owner : ℕ → ℕ} {keeps : ℕ → Bool} {v x n row count : ℕ} {f : ℕ → ℕ} {before : List (List ℕ)} where
  pub walk_start : {s l : ℕ} → Wide before 32 → l ≡ last key x n → ((A : ℕ) → A < count → cond (keeps A) (pick_sum key owner (λ i. v) x A n) 0 ≡ f A)
      → Walking key owner keeps v x n row count f before before s l
  walk_start w e h = record { to = n; low = omega arith; at = e; growing = growing_start w h }

  pub walk_end : {now : List (List ℕ)} {s l : ℕ} → l ≤ 0 → Walking key owner keeps v x n row count f before now s l → GrownAs row count f before now s
  walk_end h w =
      growing_end w.growing
      (λ A u. cond_none (keeps A) (pick_sum key owner (λ i. v) x A w.to) (pick_none key owner (λ i. v) x A w.to (omega (arith, w.at))))

module _ {key from : ℕ → ℕ} {count n keys : ℕ} {head next owner : ℕ → ℕ} (k : Keyed key from count n keys head next owner) (r : Rising from count n)
    {keeps : ℕ → Bool} {v x row : ℕ} {f : ℕ → ℕ} {before now : List (List ℕ)} {s l : ℕ} (some : 0 < l)
    (w : Walking key owner keeps v x n row count f before now s l) where
  here : Link key from count next owner x w.to l
  here = link_at k r x w.to w.at w.low some

  more : (A : ℕ) → pick_sum key owner (λ i. v) x A w.to ≡ cond (eqb (owner l) A) v 0 + pick_sum key owner (λ i. v) x A (l - 1)
  more A = pick_more key owner (λ i. v) x A w.to w.at some

  pub walk_low : l ≤ n
  walk_low = omega (arith, here.below, w.low)

  pub walk_owner : (a : ℕ) → a ≡ owner l → a < count
  walk_owner a e = rw e here.owner_inside

  pub walk_less : {l' : ℕ} → l' ≡ next l → l' < l
  walk_less e = omega (arith, here.next_is, last_le key x (l - 1))

  -- on to the rule before
  on : {now' : List (List ℕ)} {s' l' : ℕ} → l' ≡ next l
      → Growing row count f before now' (λ A. cond (keeps A) (pick_sum key owner (λ i. v) x A (l - 1)) 0) s'
      → Walking key owner keeps v x n row count f before now' s' l'
  on e g = record { to = l - 1; low = omega (arith, walk_low); at = e ∙ here.next_is; growing = g }

  -- the rules of another nonterminal are as they were
  other : (A : ℕ) → (owner l ≡ A → ⊥) → cond (keeps A) (pick_sum key owner (λ i. v) x A w.to) 0 ≡ cond (keeps A) (pick_sum key owner (λ i. v) x A (l - 1)) 0
  other A q = let z : 0 + pick_sum key owner (λ i. v) x A (l - 1) ≡ pick_sum key owner (λ i. v) x A (l - 1) = omega arith in rw (more A, ne_eqb (owner l) A q, z)

  -- of the rule's owner at least v is still to come
  module _ (a : ℕ) (is : a ≡ owner l) (kept : keeps a ≡ true) where
    least : v ≤ cond (keeps a) (pick_sum key owner (λ i. v) x a w.to) 0
    least = rw kept (omega (arith, rw (eq-eqb (owner l) a (sym is)) at (more a)))

    pub walk_fits : entry before row a + f a ≤ most → entry now row a + v ≤ most
    walk_fits m = growing_fits w.growing a v (walk_owner a is) least m

    -- where that is all, the entry is as it was
    pub walk_zero : f a ≤ v → entry now row a ≤ entry before row a
    walk_zero m = omega (arith, w.growing.due a (walk_owner a is), least)

    pub walk_step : {s' l' : ℕ} → a < 32 → row < length now → l' ≡ next l → ((b : ℕ) → member s' b ≡ (member s b || eqb a b))
        → Walking key owner keeps v x n row count f before (put now row a (entry now row a + v)) s' l'
    walk_step low room e m = on e (growing_put w.growing a v low room (λ A h. moves A (ℕ_discrete a A)) m)
      where
        moves : (A : ℕ) → Dec (a ≡ A)
            → cond (keeps A) (pick_sum key owner (λ i. v) x A w.to) 0 ≡ cond (eqb a A) v 0 + cond (keeps A) (pick_sum key owner (λ i. v) x A (l - 1)) 0
        moves A (yes q) = rw (← q, kept, more a, eq-eqb (owner l) a (sym is), eq-eqb a a refl)
        moves A (no q) = rw (ne_eqb a A q) (omega (arith, other A (λ z. q (is ∙ z))))

  -- a rule whose owner isn't kept adds nothing
  pub walk_skip : (a : ℕ) → a ≡ owner l → keeps a ≡ false → {l' : ℕ} → l' ≡ next l → Walking key owner keeps v x n row count f before now s l'
  walk_skip a is gone e = on e (growing_same w.growing (λ A h. moves A (ℕ_discrete a A)))
    where
      moves : (A : ℕ) → Dec (a ≡ A)
          → cond (keeps A) (pick_sum key owner (λ i. v) x A w.to) 0 ≡ cond (keeps A) (pick_sum key owner (λ i. v) x A (l - 1)) 0
      moves A (yes q) = rw (← q, gone)
      moves A (no q) = other A (λ z. q (is ∙ z))

-- ---- the rules with a word

abbrev pub WordWalk : (rules : List (List ℕ)) (x row : ℕ) (before now : List (List ℕ)) (s l : ℕ) → Type 0
WordWalk rules x row before now s l =
    Walking (word_at rules) (word_owner rules) (λ A. true) 1 x (word_from rules (count_in rules)) row (count_in rules) (word_times rules x) before now s l

module _ {rules before : List (List ℕ)} {row x : ℕ} (q : Clear rules before row) where
  pub word_start : {s l : ℕ} → x < 256 → l ≡ with_word rules x → WordWalk rules x row before before s l
  word_start h e = walk_start q.wide (e ∙ q.linked.by_word.heads x h) (λ A u. words_picked q.table q.linked A u x)

  module _ {now : List (List ℕ)} {s l : ℕ} (some : 0 < l) (w : WordWalk rules x row before now s l) where
    pub word_low : l ≤ 255
    word_low = omega (arith, walk_low q.linked.by_word (words_rise q.table) some w, q.table.word_low (count_in rules) (omega arith))

    pub word_owner_lem : (a : ℕ) → a ≡ word_owner rules l → a < 32
    word_owner_lem a e = omega (arith, walk_owner q.linked.by_word (words_rise q.table) some w a e, q.table.few)

    pub word_less : {l' : ℕ} → l' ≡ next_word rules l → l' < l
    word_less e = walk_less q.linked.by_word (words_rise q.table) some w e

    pub word_room : row < length now
    word_room = omega (arith, q.inside, w.growing.long)

    -- the rule's owner has no other with that word, so its entry is 0 still
    pub word_step : {s' l' : ℕ} (a : ℕ) → a ≡ word_owner rules l → l' ≡ next_word rules l → ((b : ℕ) → member s' b ≡ (member s b || eqb a b))
        → WordWalk rules x row before (put now row a 1) s' l'
    word_step a e en m =
        let by = q.linked.by_word in
        let rise = words_rise q.table in
        let once = q.table.once a x (walk_owner by rise some w a e) in
        let z : entry now row a + 1 ≡ 1 = omega (arith, walk_zero by rise some w a e refl once, q.zeros a (word_owner_lem a e)) in
        rw z at (walk_step by rise some w a e refl (word_owner_lem a e) word_room en m)

-- ---- the pair rules (b, c)

abbrev pub PairWalk : (rules : List (List ℕ)) (wanted v b c row : ℕ) (before now : List (List ℕ)) (s l : ℕ) → Type 0
PairWalk rules wanted v b c row before now s l =
    Walking (both_at rules) (pair_owner rules) (member wanted) v (both b c) (pair_from rules (count_in rules)) row (count_in rules)
    (λ A. only wanted A (tie_sum rules v b c A)) before now s l

module _ {rules : List (List ℕ)} {wanted row left right b c : ℕ} {before : List (List ℕ)} (z : AddsPair rules wanted row left right b c before) where
  abbrev v : ℕ
  v = entry before left b * entry before right c

  abbrev q : Adds rules before row (λ A. only wanted A (tie_sum rules v b c A))
  q = z.adds

  pub pair_start : {s l : ℕ} → l ≡ with_pair rules (both b c) → PairWalk rules wanted v b c row before before s l
  pair_start e =
      walk_start q.wide (e ∙ q.linked.by_pair.heads (both b c) (omega (arith, z.b_low, z.c_low)))
      (λ A u. ap (λ (x : ℕ). only wanted A x) (pairs_picked q.table q.linked A u v b c z.c_low))

  module _ {now : List (List ℕ)} {s l : ℕ} (some : 0 < l) (w : PairWalk rules wanted v b c row before now s l) where
    pub pair_low : l ≤ 255
    pair_low = omega (arith, walk_low q.linked.by_pair (pairs_rise q.table) some w, q.table.pair_low (count_in rules) (omega arith))

    pub pair_owner_lem : (a : ℕ) → a ≡ pair_owner rules l → a < 32
    pair_owner_lem a e = omega (arith, walk_owner q.linked.by_pair (pairs_rise q.table) some w a e, q.table.few)

    pub pair_less : {l' : ℕ} → l' ≡ next_pair rules l → l' < l
    pair_less e = walk_less q.linked.by_pair (pairs_rise q.table) some w e

    pub pair_room : row < length now
    pair_room = omega (arith, q.inside, w.growing.long)

    pub pair_fits : (a : ℕ) → a ≡ pair_owner rules l → member wanted a ≡ true → entry now row a + v ≤ most
    pair_fits a e t =
        let by = q.linked.by_pair in
        let rise = pairs_rise q.table in
        walk_fits by rise some w a e t (q.fits a (walk_owner by rise some w a e))

    pub pair_step : {s' l' : ℕ} (a : ℕ) → a ≡ pair_owner rules l → member wanted a ≡ true → l' ≡ next_pair rules l
        → ((b : ℕ) → member s' b ≡ (member s b || eqb a b)) → PairWalk rules wanted v b c row before (put now row a (entry now row a + v)) s' l'
    pair_step a e t en m = walk_step q.linked.by_pair (pairs_rise q.table) some w a e t (pair_owner_lem a e) pair_room en m

    pub pair_skip : {l' : ℕ} (a : ℕ) → a ≡ pair_owner rules l → member wanted a ≡ false → l' ≡ next_pair rules l
        → PairWalk rules wanted v b c row before now s l'
    pair_skip a e t en = walk_skip q.linked.by_pair (pairs_rise q.table) some w a e t en
