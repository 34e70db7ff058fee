-- Linking the rules by their keys. A store of the link i + 1 as the head of a key, of the head before it as what follows, and of the owner,
-- makes of the rules at the places below i those at the places below i + 1: only the head of that key changes, and nothing that stands
-- for an earlier place. One law over the rows of a kind serves words and pairs.
-- Assumes nothing.
use mathlib.Core.Path.{◌≡◌, refl, sym, ap, ◌∙◌}
use mathlib.Core.Bool.{Bool, true, false}
use mathlib.Core.List.{List, []}
use Prim.Native.Nat.{ℕ, zero, suc, ◌+◌, ◌*◌, ◌/◌, ◌%◌, ◌≤◌, ◌<◌}
use native.Mathlib.Omega.{arith}
use native.Mathlib.Nat.{mod-lt, div-add-mod'}
use native.Mathlib.Numerals.{add-one}
use native.Mathlib.Decide.{ℕ_discrete}
use borrow.Author.Tests.{eq-eqb, ne_eqb}
use lib.Dec.{lit<}
use lib.ListN.{length, get_or, set, length-set}
use Rattle.lists.specs.Inner.Tables.{entry, put, Wide}
use Rattle.lists.proofs.Tables.{put_same, put_row, put_beside, put_other_row, wide_put}
use Rattle.grammar.specs.Inner.Rules.{word_at, left_at, right_at, word_from, pair_from, count_in}
use Rattle.grammar.specs.Inner.Links.{last, both_at, Keyed, Unlinked, LinkedAs}
use Rattle.grammar.specs.Inner.Linking.{LinkedTo, Beside, LinksWords, LinksPairs, LinkedMoreAs, numbers, head_row, head_place, next_row, owner_row, Links, LinkedOf}
use Rattle.grammar.specs.Inner.Checks.{begins_at, entry_at}
use Rattle.grammar.proofs.Ruling.{one_holder, word_below, pair_below}
use Rattle.grammar.proofs.Kept.{ruled_kept}

-- ---- the last place with a key

last_here : (key : ℕ → ℕ) (x n : ℕ) → key n ≡ x → last key x (n + 1) ≡ n + 1
last_here key x n e = rw (add-one n, eq-eqb (key n) x e)

last_before : (key : ℕ → ℕ) (x n : ℕ) → (key n ≡ x → ⊥) → last key x (n + 1) ≡ last key x n
last_before key x n h = rw (add-one n, ne_eqb (key n) x h)

last_ext : (key key' : ℕ → ℕ) (x n : ℕ) → ((i : ℕ) → key' i ≡ key i) → last key' x n ≡ last key x n
last_ext key key' x zero h = refl
last_ext key key' x (suc n) h = rw (h n, last_ext key key' x n h)

-- ---- what is kept

beside_none : (t : List (List ℕ)) → Beside t t
beside_none t = record { long = refl; low = λ q h. refl; high = λ q h. refl }

beside_beside : {t u v : List (List ℕ)} → Beside t u → Beside u v → Beside t v
beside_beside b c =
    record { long = c.long ∙ b.long; low = λ q h. c.low q h ∙ b.low q h; high = λ q h. c.high q h ∙ b.high q h }

-- a row that is the same is read the same
same_entry : (t s : List (List ℕ)) (q k : ℕ) → get_or s q [] ≡ get_or t q [] → entry s q k ≡ entry t q k
same_entry t s q k e = ap (λ (l : List ℕ). get_or l k 0) e

-- the beginnings, and how many nonterminals there are, are as they were
begin_kept : (old new : List (List ℕ)) → Beside old new → (k : ℕ) → entry new 3 k ≡ entry old 3 k
begin_kept old new b k = same_entry old new 3 k (b.low 3 (omega arith))

-- ---- links of one kind

-- keys and beginnings, and where the links stand: the head of a key, in one row what follows each link, and in another whose it is
pub record Kind : Type 0 where
  pub key : List (List ℕ) → ℕ → ℕ
  pub from : List (List ℕ) → ℕ → ℕ
  pub keys : ℕ
  pub row : ℕ → ℕ
  pub place : ℕ → ℕ
  pub next : ℕ
  pub owner : ℕ

abbrev KeyedIn : Kind → List (List ℕ) → ℕ → Type 0
KeyedIn k t n =
    Keyed (k.key t) (k.from t) (count_in t) n k.keys (λ x. entry t (k.row x) (k.place x)) (λ l. entry t k.next l) (λ l. entry t k.owner l)

-- Keys and beginnings are read off the first four rows; the links have the rows from `first` on before `end`, and each head its own place.
record Fit (k : Kind) (first end : ℕ) : Type 0 where
  key_same : (t s : List (List ℕ)) → Beside t s → (i : ℕ) → k.key s i ≡ k.key t i
  from_same : (t s : List (List ℕ)) → Beside t s → (a : ℕ) → k.from s a ≡ k.from t a
  low : (4 ≤ first) × (end ≤ 13)
  rows : (first ≤ k.next) × (k.next < k.owner) × (k.owner < end)
  heads : (x : ℕ) → x < k.keys → (first ≤ k.row x) × (k.row x < end) × (k.place x < 256)
  apart : (x : ℕ) → (k.row x ≡ k.next → ⊥) × (k.row x ≡ k.owner → ⊥)
  injective : (x y : ℕ) → k.row y ≡ k.row x → k.place y ≡ k.place x → y ≡ x

-- the place i is a's
record Owned (k : Kind) (t : List (List ℕ)) (a i : ℕ) : Type 0 where
  inside : a < count_in t
  lower : k.from t a ≤ i
  upper : i < k.from t (a + 1)

-- a place is in the run of one nonterminal only
one_owner : {k : Kind} {t : List (List ℕ)} {a b i : ℕ} → ((b : ℕ) → b < count_in t → k.from t b ≤ k.from t (b + 1)) → Owned k t a i → Owned k t b i → a ≡ b
one_owner {k} {t} rises o p = one_holder (k.from t) rises o.inside p.inside o.lower o.upper p.lower p.upper

-- links whose rows are as they were
keyed_kept : {k : Kind} {first end : ℕ} → Fit k first end → {t s : List (List ℕ)} {n : ℕ} → Beside t s
    → ((q : ℕ) → first ≤ q → q < end → get_or s q [] ≡ get_or t q []) → KeyedIn k t n → KeyedIn k s n
keyed_kept {k} f {t} {s} {n} b same d = record {
  heads = λ x h.
      let w = f.heads x h in
      same_entry t s (k.row x) (k.place x) (same (k.row x) w.0 w.1) ∙ d.heads x h ∙ sym (last_ext (k.key t) (k.key s) x n (f.key_same t s b));
  nexts = λ i h.
      same_entry t s k.next (i + 1) (same k.next (omega (arith, f.rows)) (omega (arith, f.rows)))
      ∙ d.nexts i h
      ∙ rw (f.key_same t s b i) (sym (last_ext (k.key t) (k.key s) (k.key t i) i (f.key_same t s b)));
  owners = λ a i h l u z.
      same_entry t s k.owner (i + 1) (same k.owner (omega (arith, f.rows)) (omega (arith, f.rows)))
      ∙ d.owners a i (rw (begin_kept t s b 129) at h) (rw (f.from_same t s b a) at l) (rw (f.from_same t s b (a + 1)) at u) z;
}

-- ---- the stores for one rule

-- the head before as what follows the link i + 1, its owner, and the link as the head of x
abbrev pub stored : Kind → List (List ℕ) → (i a x : ℕ) → List (List ℕ)
stored k t i a x = put (put (put t k.next (i + 1) (entry t (k.row x) (k.place x))) k.owner (i + 1) a) (k.row x) (k.place x) (i + 1)

module _ {k : Kind} {first end : ℕ} (f : Fit k first end) (t : List (List ℕ)) (i a x : ℕ) (long : 13 ≤ length t) (wide : Wide t 256) (low : x < k.keys)
    (room : i < 255) where
  abbrev head : ℕ
  head = entry t (k.row x) (k.place x)

  abbrev one : List (List ℕ)
  one = put t k.next (i + 1) head

  abbrev two : List (List ℕ)
  two = put one k.owner (i + 1) a

  one_long : length one ≡ length t
  one_long = length-set t k.next (set (get_or t k.next []) (i + 1) head)

  two_long : length two ≡ length t
  two_long = length-set one k.owner (set (get_or one k.owner []) (i + 1) a) ∙ one_long

  one_wide : Wide one 256
  one_wide = wide_put t 256 k.next (i + 1) head wide

  two_wide : Wide two 256
  two_wide = wide_put one 256 k.owner (i + 1) a one_wide

  stored_wide : Wide (stored k t i a x) 256
  stored_wide = wide_put two 256 (k.row x) (k.place x) (i + 1) two_wide

  next_in : k.next < length t
  next_in = omega (arith, f.rows, f.low)

  owner_in : k.owner < length one
  owner_in = omega (arith, f.rows, f.low, one_long)

  head_in : k.row x < length two
  head_in = omega (arith, f.heads x low, f.low, two_long)

  -- rows of others
  rows_kept : (q : ℕ) → (first ≤ q → q < end → ⊥) → get_or (stored k t i a x) q [] ≡ get_or t q []
  rows_kept q n =
      let w = f.heads x low in
      let r = f.rows in
      put_row two (k.row x) (k.place x) (i + 1) q (λ e. n (omega arith) (omega arith))
      ∙ put_row one k.owner (i + 1) a q (λ e. n (omega arith) (omega arith))
      ∙ put_row t k.next (i + 1) head q (λ e. n (omega arith) (omega arith))

  beside : Beside t (stored k t i a x)
  beside = record {
    long = length-set two (k.row x) (set (get_or two (k.row x) []) (k.place x) (i + 1)) ∙ two_long;
    low = λ q h. rows_kept q (λ l u. omega (arith, f.low));
    high = λ q h. rows_kept q (λ l u. omega (arith, f.low));
  }

  heads_kept : (y : ℕ) → (y ≡ x → ⊥) → entry (stored k t i a x) (k.row y) (k.place y) ≡ entry t (k.row y) (k.place y)
  heads_kept y n =
      elim (ℕ_discrete (k.row y) (k.row x)) [
        | yes e ↦ rw e (put_beside two (k.row x) (k.place x) (i + 1) (k.place y) head_in (λ z. n (f.injective x y e z)))
        | no e ↦ put_other_row two (k.row x) (k.place x) (i + 1) (k.row y) (k.place y) e
      ]
      ∙ put_other_row one k.owner (i + 1) a (k.row y) (k.place y) (f.apart y).1
      ∙ put_other_row t k.next (i + 1) head (k.row y) (k.place y) (f.apart y).0

  next_is : (l : ℕ) → entry (stored k t i a x) k.next l ≡ entry one k.next l
  next_is l =
      put_other_row two (k.row x) (k.place x) (i + 1) k.next l (λ e. (f.apart x).0 (sym e))
      ∙ put_other_row one k.owner (i + 1) a k.next l (λ e. omega (arith, f.rows))

  owner_is : (l : ℕ) → entry (stored k t i a x) k.owner l ≡ entry two k.owner l
  owner_is l = put_other_row two (k.row x) (k.place x) (i + 1) k.owner l (λ e. (f.apart x).1 (sym e))

  keyed_more : ((b : ℕ) → b < count_in t → k.from t b ≤ k.from t (b + 1)) → Owned k t a i → x ≡ k.key t i → KeyedIn k t i → KeyedIn k (stored k t i a x) (i + 1)
  keyed_more rises o ex d = record { heads = heads; nexts = nexts; owners = owners }
    where
      s : List (List ℕ)
      s = stored k t i a x

      key_same : (j : ℕ) → k.key s j ≡ k.key t j
      key_same = f.key_same t s beside

      same : (y n : ℕ) → last (k.key s) y n ≡ last (k.key t) y n
      same y n = last_ext (k.key t) (k.key s) y n key_same

      heads : (y : ℕ) → y < k.keys → entry s (k.row y) (k.place y) ≡ last (k.key s) y (i + 1)
      heads y h =
          elim (ℕ_discrete y x) [
            | yes z ↦
                rw z
                (put_same two (k.row x) (k.place x) (i + 1) head_in (omega (arith, two_wide.row (k.row x) head_in, f.heads x low))
                ∙ sym (same x (i + 1) ∙ last_here (k.key t) x i (sym ex)))
            | no z ↦ heads_kept y z ∙ d.heads y h ∙ sym (same y (i + 1) ∙ last_before (k.key t) y i (λ q. z (sym q ∙ sym ex)))
          ]

      nexts : (j : ℕ) → j < i + 1 → entry s k.next (j + 1) ≡ last (k.key s) (k.key s j) j
      nexts j h =
          next_is (j + 1)
          ∙ elim (ℕ_discrete j i) [
            | yes z ↦
                rw (z, key_same i, ← ex)
                (put_same t k.next (i + 1) head next_in (omega (arith, wide.row k.next next_in)) ∙ d.heads x low ∙ sym (same x i))
            | no z ↦
                put_beside t k.next (i + 1) head (j + 1) next_in (λ e. omega arith)
                ∙ d.nexts j (omega arith)
                ∙ rw (key_same j) (sym (same (k.key t j) j))
          ]

      owners : (b j : ℕ) → b < count_in s → k.from s b ≤ j → j < k.from s (b + 1) → j < i + 1 → entry s k.owner (j + 1) ≡ b
      owners b j h lo up below =
          let p : Owned k t b j
          = record { inside = rw (begin_kept t s beside 129) at h; lower = rw (f.from_same t s beside b) at lo; upper = rw (f.from_same t s beside (b + 1)) at up } in
          owner_is (j + 1)
          ∙ elim (ℕ_discrete j i) [
            | yes z ↦
                rw z
                (put_same one k.owner (i + 1) a owner_in (omega (arith, one_wide.row k.owner owner_in)) ∙ one_owner rises o (rw z at p))
            | no z ↦
                put_beside one k.owner (i + 1) a (j + 1) owner_in (λ e. omega arith)
                ∙ put_other_row t k.next (i + 1) head k.owner (j + 1) (λ e. omega (arith, f.rows))
                ∙ d.owners b j p.inside p.lower p.upper (omega arith)
          ]

-- ---- words, and pairs of nonterminals

abbrev pub words : Kind
words = record { key = word_at; from = word_from; keys = 256; row = λ x. 4; place = λ x. x; next = 5; owner = 6 }

abbrev pub pairs : Kind
pairs = record { key = both_at; from = pair_from; keys = 1024; row = λ x. 9 + x / 256; place = λ x. x % 256; next = 7; owner = 8 }

words_fit : Fit words 4 7
words_fit = record {
  key_same = λ t s b i. same_entry t s 0 i (b.low 0 (omega arith));
  from_same = λ t s b a. begin_kept t s b a;
  low = omega arith;
  rows = omega arith;
  heads = λ x h. omega arith;
  apart = λ x. (λ e. omega arith, λ e. omega arith);
  injective = λ x y e f. f;
}

pairs_fit : Fit pairs 7 13
pairs_fit = record {
  key_same = λ t s b i. rw (same_entry t s 1 i (b.low 1 (omega arith)), same_entry t s 2 i (b.low 2 (omega arith)));
  from_same = λ t s b a. begin_kept t s b (64 + a);
  low = omega arith;
  rows = omega arith;
  heads = λ x h. (omega arith, omega (arith, div-add-mod' x 256), mod-lt x (lit< tt));
  apart = λ x. (λ e. omega arith, λ e. omega arith);
  injective = λ x y e f. let q : y / 256 ≡ x / 256 = omega arith in sym (div-add-mod' y 256) ∙ rw (q, f) (div-add-mod' x 256);
}

-- ---- the rules of one nonterminal

-- before the place i of a's rules of a kind; `old` is the table before the first of them, and `done` what is linked
pub record Looping (k : Kind) (old t : List (List ℕ)) (a i : ℕ) (done : Type 0) : Type 0 where
  pub inside : a < count_in old
  pub lower : k.from old a ≤ i
  pub upper : i ≤ k.from old (a + 1)
  pub linked : done
  pub beside : Beside old t

abbrev pub WordLoop : (old t : List (List ℕ)) (a i : ℕ) → Type 0
WordLoop old t a i = Looping words old t a i (LinkedTo t i (pair_from old a))

abbrev pub PairLoop : (old t : List (List ℕ)) (a i : ℕ) → Type 0
PairLoop old t a i = Looping pairs old t a i (LinkedTo t (word_from old (a + 1)) i)

module _ {k : Kind} {first end : ℕ} (f : Fit k first end) {old t : List (List ℕ)} {a i : ℕ} {done : Type 0} (w : Looping k old t a i done) (h : i < k.from old (a + 1)) where
  owned : Owned k t a i
  owned = record {
    inside = rw (begin_kept old t w.beside 129) w.inside;
    lower = rw (f.from_same old t w.beside a) w.lower;
    upper = rw (f.from_same old t w.beside (a + 1)) h;
  }

  loop_more : {s : List (List ℕ)} {done' : Type 0} → done' → Beside t s → Looping k old s a (i + 1) done'
  loop_more d b = record { inside = w.inside; lower = omega (arith, w.lower); upper = omega arith; linked = d; beside = beside_beside w.beside b }

words_start : {t : List (List ℕ)} {a i : ℕ} → LinksWords t a → i ≡ word_from t a → WordLoop t t a i
words_start {t} {a} s e = record {
  inside = s.inside;
  lower = omega arith;
  upper = omega (arith, s.linked.table.word_rises a s.inside);
  linked = rw e s.linked;
  beside = beside_none t;
}

module _ {old t : List (List ℕ)} {a i end : ℕ} (w : WordLoop old t a i) (last : end ≡ word_from old (a + 1)) where
  words_end : end ≤ i → LinkedMoreAs old t (word_from old (a + 1)) (pair_from old a)
  words_end h = let e : i ≡ word_from old (a + 1) = omega (arith, w.upper) in record { linked = rw e at w.linked; beside = w.beside }

  module _ (h : i < end) where
    word_owned : Owned words t a i
    word_owned = owned words_fit w (omega arith)

    word_room : i < 255
    word_room = omega (arith, w.linked.table.word_low (a + 1) (omega (arith, word_owned.inside)), word_owned.upper)

    word_more : {x : ℕ} → x ≡ word_at t i → WordLoop old (stored words t i a x) a (i + 1)
    word_more {x} ex =
        let l = w.linked in
        let o = word_owned in
        let low : x < 256 = omega (arith, l.table.words_low i (word_below l.table a i o.inside o.upper), l.table.width) in
        let b = beside words_fit t i a x l.long l.table.wide low word_room in
        let wide = stored_wide words_fit t i a x l.long l.table.wide low word_room in
        loop_more words_fit w (omega arith)
        record {
          table = ruled_kept (omega (arith, b.long, l.table.long)) wide b.low l.table;
          long = omega (arith, b.long, l.long);
          by_word = keyed_more words_fit t i a x l.long l.table.wide low word_room l.table.word_rises o ex l.by_word;
          by_pair = keyed_kept pairs_fit b
              (λ q h u. rows_kept words_fit t i a x l.long l.table.wide low word_room q (λ y z. omega arith)) l.by_pair;
        }
        b

pairs_start : {t : List (List ℕ)} {a i : ℕ} → LinksPairs t a → i ≡ pair_from t a → PairLoop t t a i
pairs_start {t} {a} s e = record {
  inside = s.inside;
  lower = omega arith;
  upper = omega (arith, s.linked.table.pair_rises a s.inside);
  linked = rw e s.linked;
  beside = beside_none t;
}

module _ {old t : List (List ℕ)} {a i end : ℕ} (w : PairLoop old t a i) (last : end ≡ pair_from old (a + 1)) where
  pairs_end : end ≤ i → LinkedMoreAs old t (word_from old (a + 1)) (pair_from old (a + 1))
  pairs_end h = let e : i ≡ pair_from old (a + 1) = omega (arith, w.upper) in record { linked = rw e at w.linked; beside = w.beside }

  module _ (h : i < end) where
    pair_owned : Owned pairs t a i
    pair_owned = owned pairs_fit w (omega arith)

    pair_room : i < 255
    pair_room = omega (arith, w.linked.table.pair_low (a + 1) (omega (arith, pair_owned.inside)), pair_owned.upper)

    module _ {b c : ℕ} (eb : b ≡ left_at t i) (ec : c ≡ right_at t i) where
      key_low : 32 * b + c < 1024
      key_low =
          let r = w.linked.table in
          let k = pair_below r a i pair_owned.inside pair_owned.upper in
          omega (arith, r.lefts i k, r.rights i k, r.few)

      pair_more : PairLoop old (stored pairs t i a (32 * b + c)) a (i + 1)
      pair_more =
          let l = w.linked in
          let x = 32 * b + c in
          let d = beside pairs_fit t i a x l.long l.table.wide key_low pair_room in
          let wide = stored_wide pairs_fit t i a x l.long l.table.wide key_low pair_room in
          loop_more pairs_fit w (omega arith)
          record {
            table = ruled_kept (omega (arith, d.long, l.table.long)) wide d.low l.table;
            long = omega (arith, d.long, l.long);
            by_word = keyed_kept words_fit d
                (λ q h u. rows_kept pairs_fit t i a x l.long l.table.wide key_low pair_room q (λ y z. omega arith)) l.by_word;
            by_pair = keyed_more pairs_fit t i a x l.long l.table.wide key_low pair_room l.table.pair_rises pair_owned (rw (eb, ec)) l.by_pair;
          }
          d

-- ---- by kind

-- before the place i of a's rules of a kind
abbrev LoopIs : (pairs : Bool) (old t : List (List ℕ)) (a i : ℕ) → Type 0
LoopIs false old t a i = WordLoop old t a i
LoopIs true old t a i = PairLoop old t a i

pub record Loop (pairs : Bool) (old t : List (List ℕ)) (a i : ℕ) : Type 0 where
  pub is : LoopIs pairs old t a i

-- what a step of the loop stores: the link i + 1 of the number x
abbrev pub stored_by : (pairs : Bool) → List (List ℕ) → (i a x : ℕ) → List (List ℕ)
stored_by k t i a x =
    put (put (put t (next_row k) (i + 1) (entry t (head_row k x) (head_place k x))) (owner_row k) (i + 1) a) (head_row k x) (head_place k x) (i + 1)

pub kind_start : (k : Bool) (t : List (List ℕ)) (a : ℕ) {i : ℕ} → Links k t a → i ≡ begins_at k t a → Loop k t t a i
kind_start false t a s e = record { is = words_start s e }
kind_start true t a s e = record { is = pairs_start s e }

pub kind_end : (k : Bool) {old t : List (List ℕ)} {a i end : ℕ} → Loop k old t a i → end ≡ begins_at k old (a + 1) → end ≤ i → LinkedOf k old t a
kind_end false w e h = words_end w.is e h
kind_end true w e h = pairs_end w.is e h

pub kind_long : (k : Bool) {old t : List (List ℕ)} {a i : ℕ} → Loop k old t a i → 13 ≤ length t
kind_long false w = w.is.linked.long
kind_long true w = w.is.linked.long

pub kind_low : (k : Bool) {old t : List (List ℕ)} {a i end x : ℕ} → Loop k old t a i → end ≡ begins_at k old (a + 1) → i < end
    → x ≡ entry_at k t i → x < numbers k
kind_low false {t = t} {a = a} {i = i} w e h q =
    let o = word_owned w.is e h in
    let l = w.is.linked.table in
    omega (arith, l.words_low i (word_below l a i o.inside o.upper), l.width)
kind_low true w e h q = omega (arith, key_low w.is e h refl refl)

kind_head : (k : Bool) (x : ℕ) → x < numbers k → (head_row k x < 13) × (head_place k x < 256)
kind_head false x h = (omega arith, h)
kind_head true x h = (omega (arith, div-add-mod' x 256), mod-lt x (lit< tt))

-- the link to the last rule that is the rule at i lies inside
pub head_inside : (k : Bool) {old t : List (List ℕ)} {a i end x : ℕ} → Loop k old t a i → end ≡ begins_at k old (a + 1) → i < end
    → x ≡ entry_at k t i → (head_row k x < 13) × (head_place k x < 256)
head_inside k {x = x} w e h q = kind_head k x (kind_low k w e h q)

pub kind_more : (k : Bool) {old t : List (List ℕ)} {a i end x : ℕ} → Loop k old t a i → end ≡ begins_at k old (a + 1) → i < end
    → x ≡ entry_at k t i → Loop k old (stored_by k t i a x) a (i + 1)
kind_more false w e h q = record { is = word_more w.is e h q }
kind_more true w e h q = rw q record { is = pair_more w.is e h refl refl }

-- ---- all rules

link_start : {t : List (List ℕ)} → Unlinked t → LinkedTo t (word_from t 0) (pair_from t 0)
link_start {t} u = record {
  table = u.table;
  long = u.long;
  by_word =
      rw u.table.word_first
      record { heads = u.no_words; nexts = λ i h. absurd (omega arith); owners = λ a i h l k z. absurd (omega arith) };
  by_pair =
      rw u.table.pair_first
      record { heads = u.no_pairs; nexts = λ i h. absurd (omega arith); owners = λ a i h l k z. absurd (omega arith) };
}

-- before the nonterminal a; `old` is the table before the first
pub record LinkLoop (old t : List (List ℕ)) (a : ℕ) : Type 0 where
  pub reached : a ≤ count_in old
  pub linked : LinkedTo t (word_from t a) (pair_from t a)
  pub beside : Beside old t

pub loop_start : {t : List (List ℕ)} → Unlinked t → LinkLoop t t 0
loop_start {t} u = record { reached = omega arith; linked = link_start u; beside = beside_none t }

module _ {old t : List (List ℕ)} {a : ℕ} (w : LinkLoop old t a) where
  pub links_words : {n : ℕ} → n ≡ count_in old → a < n → LinksWords t a
  links_words e h = record { inside = rw (begin_kept old t w.beside 129) (omega arith); linked = w.linked }

  module _ {mid : List (List ℕ)} (m : LinkedMoreAs t mid (word_from t (a + 1)) (pair_from t a)) where
    pub links_pairs : {n : ℕ} → n ≡ count_in old → a < n → LinksPairs mid a
    links_pairs e h =
        let b = beside_beside w.beside m.beside in
        record {
          inside = rw (begin_kept old mid b 129) (omega arith);
          linked = rw (begin_kept t mid m.beside (a + 1), begin_kept t mid m.beside (64 + a)) m.linked;
        }

    pub loop_next : {new : List (List ℕ)} {n : ℕ} → n ≡ count_in old → a < n → LinkedMoreAs mid new (word_from mid (a + 1)) (pair_from mid (a + 1))
        → LinkLoop old new (a + 1)
    loop_next {new} e h k = record {
      reached = omega arith;
      linked = rw (begin_kept mid new k.beside (a + 1), begin_kept mid new k.beside (64 + (a + 1))) k.linked;
      beside = beside_beside w.beside (beside_beside m.beside k.beside);
    }

  pub loop_end : {n : ℕ} → n ≡ count_in old → n ≤ a → LinkedAs old t
  loop_end e h =
      let c : a ≡ count_in t = omega (arith, begin_kept old t w.beside 129, w.reached) in
      let l = rw c at w.linked in
      record {
        long = w.beside.long;
        table = l.table;
        linked = record { long = l.long; by_word = l.by_word; by_pair = l.by_pair };
        rules_kept = w.beside.low;
        rest_kept = w.beside.high;
      }
