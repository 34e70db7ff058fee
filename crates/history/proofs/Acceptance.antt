-- What each test of *Check diary* says of the bytes, and what an accepted history is known to have.
-- Assumes nothing.
use mathlib.Core.Path.{◌≡◌}
use mathlib.Core.Bool.{false, not, ◌||◌}
use mathlib.Core.List.{List}
use Prim.Native.Nat.{ℕ, ◌+◌, ◌-◌, ◌*◌, ◌%◌, ◌≤◌}
use borrow.Author.Tests.{ltb-false, eqb-true, le-ltb, not-false}
use native.Mathlib.Omega.{arith}
use lib.ListN.{length, get_or, drop, length-drop}
use lib.Seq.{length-take-le}
use lib.Dec.{ltb, leb, eqb, lit<}
use Rattle.lists.specs.Searched.{some_to, times}
use Rattle.lists.proofs.Tests.{within_facts, or_left, or_right, to_at}
use Rattle.answers.specs.Answer.{first_that_applies}
use Rattle.answers.specs.Length.{bad_length}
use Rattle.answers.proofs.Refusals.{row_clear}
use Rattle.history.specs.Layout.{records_of, head_of, record_at, next_of, length_of, record_words}
use Rattle.history.specs.Chain.{numbers}
use Rattle.history.specs.Refusals.{bad_size, some_nonzero, misfit, bad_record, next_above, bad_link, bad_chain, Accepted}
use Rattle.history.specs.Inner.Checks.{Sized}

-- ---- 11: the size

module _ (h : List ℕ) where
  -- the other parts passed, the room decides
  pub size_room : 4 ≤ length h → records_of h ≤ 1000 → ltb (length h) (4 + 20 * records_of h) ≡ bad_size h
  unfolding bad_size
  size_room l m = rw (le-ltb (length h) 4 l, le-ltb 1000 (records_of h) m)

  pub size_facts : bad_size h ≡ false → Sized h (records_of h)
  unfolding bad_size
  size_facts e =
      let few = ltb 1000 (records_of h) in
      let room = ltb (length h) (4 + 20 * records_of h) in
      let r = or_right (ltb (length h) 4) (few || room) e in
      record {
        count = cc;
        few = ltb-false 1000 (records_of h) (or_left few room r);
        size = ltb-false (length h) (4 + 20 * records_of h) (or_right few room r);
      }

-- ---- 12: the layout of a record

-- a record that passes has no more than sixteen words
pub few_words : (h : List ℕ) (at : ℕ) → misfit h at ≡ false → get_or h (at + 2) 0 ≤ 16
unfolding misfit bad_length
few_words h at e =
    let n = get_or h (at + 2) 0 in
    let rest = leb n (get_or h (at + 3) 0 % 16) || some_nonzero h (at + 4 + n) (16 - n) in
    (within_facts 1 16 n (or_left (bad_length n) rest e)).1

-- ---- 13 and 14

pub head_below : (h : List ℕ) → head_of h ≤ records_of h → bad_link h ≡ some_to (next_above h) (records_of h)
unfolding bad_link
head_below h l = rw (le-ltb (records_of h) (head_of h) l)

-- the links, where 13 doesn't apply
pub link_head : (h : List ℕ) → bad_link h ≡ false → head_of h ≤ records_of h
unfolding bad_link
link_head h e = ltb-false (records_of h) (head_of h) (or_left (ltb (records_of h) (head_of h)) (some_to (next_above h) (records_of h)) e)

pub link_next : (h : List ℕ) → bad_link h ≡ false → (r : ℕ) → 1 ≤ r → r ≤ records_of h → next_of h r ≤ records_of h
unfolding bad_link
link_next h e r l m =
    ltb-false (records_of h) (next_of h r)
    (to_at (next_above h) (records_of h) r (or_right (ltb (records_of h) (head_of h)) (some_to (next_above h) (records_of h)) e) l m)

-- each record once, where 14 doesn't apply
pub each_once : (h : List ℕ) → bad_chain h ≡ false → (r : ℕ) → 1 ≤ r → r ≤ records_of h → times r (numbers h) ≡ 1
unfolding bad_chain
each_once h e r l m =
    eqb-true (times r (numbers h)) 1 (not-false _ (to_at (λ q. not (eqb (times q (numbers h)) 1)) (records_of h) r e l m))

-- ---- what an accepted history is known to have

pub record Known (h : List ℕ) : Type 0 where
  pub sized : Sized h (records_of h)
  pub fit : (r : ℕ) → 1 ≤ r → r ≤ records_of h → misfit h (record_at r) ≡ false
  pub head : head_of h ≤ records_of h
  pub nexts : (r : ℕ) → 1 ≤ r → r ≤ records_of h → next_of h r ≤ records_of h
  pub once : (r : ℕ) → 1 ≤ r → r ≤ records_of h → times r (numbers h) ≡ 1

-- none of the tests applies to an accepted history
pub record Clear (h : List ℕ) : Type 0 where
  pub size : bad_size h ≡ false
  pub records : bad_record h ≡ false
  pub links : bad_link h ≡ false
  pub chain : bad_chain h ≡ false

pub clear : (h : List ℕ) → Accepted h → Clear h
clear h ok =
    let c₁ = row_clear 11 _ (bad_size h) (lit< tt) ok in
    let c₂ = row_clear 12 _ (bad_record h) (lit< tt) c₁.1 in
    let c₃ = row_clear 13 _ (bad_link h) (lit< tt) c₂.1 in
    let c₄ = row_clear 14 _ (bad_chain h) (lit< tt) c₃.1 in
    record { size = c₁.0; records = c₂.0; links = c₃.0; chain = c₄.0 }

-- and the other way round
pub accept : (h : List ℕ) → Clear h → Accepted h
unfolding first_that_applies
accept h c = rw (c.size, c.records, c.links, c.chain)

pub known : (h : List ℕ) → Accepted h → Known h
unfolding bad_record
known h ok =
    let c = clear h ok in
    record {
      sized = size_facts h c.size;
      fit = λ r l m. to_at (λ q. misfit h (record_at q)) (records_of h) r c.records l m;
      head = link_head h c.links;
      nexts = link_next h c.links;
      once = each_once h c.chain;
    }

-- ---- the words of a record

-- they end inside the bytes
pub words_inside : (h : List ℕ) → Accepted h → (r : ℕ) → 1 ≤ r → r ≤ records_of h → (length_of h r ≤ 16) × (record_at r + 4 + length_of h r ≤ length h)
words_inside h ok r l m =
    let k = known h ok in
    let f = few_words h (record_at r) (k.fit r l m) in
    (f, omega (arith, f, k.sized.size))

pub words_length : (h : List ℕ) → Accepted h → (r : ℕ) → 1 ≤ r → r ≤ records_of h → length (record_words h r) ≡ length_of h r
unfolding record_words
words_length h ok r l m =
    length-take-le (length_of h r) (drop (record_at r + 4) h) (omega (arith, length-drop (record_at r + 4) h, (words_inside h ok r l m).1))
