-- What one more log does. With the sentence of draw q heard as well, the unheard list loses the entries that have it; as it has one derivation, that is
-- entry q alone. Demand 3 holds with either history, so the draws are read off the two lists: below q the entries are the same, and from q on each is the
-- next one of before. Rounds of draw 0 so take the list from its front.
-- Assumes nothing.
use mathlib.Core.Path.{◌≡◌, refl, sym, ap, subst, ◌∙◌}
use mathlib.Core.Logic.{◌≢◌, inl, inr}
use mathlib.Core.Bool.{Bool, true, false, true≢false, cond, not, ◌&&◌, ◌||◌}
use mathlib.Core.List.Memᴰ
use mathlib.Core.List.{List, [], ◌∷◌, ◌++◌, map}
use Prim.Native.Nat.{ℕ, zero, suc, ◌+◌, ◌*◌, ◌≤◌, ◌<◌}
use native.Mathlib.Omega.{arith}
use native.Mathlib.Decide.{dec_le}
use borrow.Author.Tests.{le-ltb, lt-leb, eq-eqb, ne_eqb}
use lib.ListN.{length, take, drop, replicate, length-map, length-append, length-replicate}
use lib.Dec.{ltb, leb}
use lib.Seq.{take_at, split_at}
use Rattle.lists.specs.Joined.{◌∈◌}
use Rattle.lists.specs.Ordered.{none, more, Distinct}
use Rattle.lists.specs.Linked.{met_from}
use Rattle.lists.specs.Searched.{some_below, same, keep}
use Rattle.lists.proofs.Members.{get_or_∈}
use Rattle.lists.proofs.Places.{without_length, without_below, without_from}
use Rattle.lists.proofs.Orders.{pairwise_at}
use Rattle.lists.proofs.Tests.{or_cases, same_eq, same_ne, same_refl}
use Rattle.lists.proofs.Strikes.{keep_keep, keep_ext, keep_but, keep_many, keep_length}
use Rattle.answers.specs.Answer.{Answer, Row, first_that_applies, given, refused}
use Rattle.answers.specs.Length.{bad_length}
use Rattle.answers.specs.Voice.{bad_voice}
use Rattle.answers.proofs.Refusals.{row_passed, rows_pass, rows_clear, answer_number, answer_accepted}
use Rattle.grammar.specs.Layout.{start}
use Rattle.grammar.specs.Chains.{rest}
use Rattle.grammar.specs.Trees.{Tree, leaf, node, sentence}
use Rattle.grammar.specs.FullList.{trees_to, trees}
use Rattle.grammar.proofs.Order.{before_irrefl}
use Rattle.counting.specs.Needed.{whole}
use Rattle.counting.specs.Refusals.{most}
use Rattle.ranking.specs.Answers.{full_list, readings_of}
use Rattle.ranking.specs.Demand2.{Derivation, OneDerivation}
use Rattle.ranking.proofs.Demand2.{listed_total, one_derivation}
use Rattle.history.specs.Layout.{two_at, records_of, record_words}
use Rattle.history.specs.Chain.{numbers_from}
use Rattle.history.specs.Refusals as history
use Rattle.history.specs.Heard.{makes_heard, heard}
use Rattle.history.specs.Playback.{Playback, playback, bad_played}
use Rattle.history.specs.Writing.{appended}
use Rattle.history.specs.Answers.{no_room, append_rows, append_of}
use Rattle.history.specs.Logged.{Logged}
use Rattle.history.proofs.Appended.{long, logs, logged}
use Rattle.sampling.specs.Pattern.{blank, bad_pattern}
use Rattle.sampling.specs.Question.{Question, plainly, matching}
use Rattle.sampling.specs.Unheard.{Entry, entries_from, suits, outside, unheard, total_for, heard_of, left_of, ambiguous}
use Rattle.sampling.specs.Answers.{remaining_rows, drawn, remaining_to, draw_to}
use Rattle.sampling.specs.Demand3.{Single, Premises, Worded, Shown, shown, as_shown, Demand3}
use Rattle.sampling.proofs.Barred.{entry, no_entry, heard_left, left_length}
use Rattle.sampling.proofs.Premises.{length_within, heard_single, pass_premises, premises}
use Rattle.sampling.proofs.Listed.{entry_at, draw_from, from_beyond, from_accepted, from_passed, from_short}
use Rattle.sampling.proofs.Demand3.{draw_is, draw_accepted, draw_shown, entry_long, demand_3}
use Rattle.sampling.specs.Examples.{F}
use Rattle.sampling.proofs.Examples.{F_accepted, F_fits, premised}
use Rattle.pumpfennel.specs.OneMore.{log_of, roomy, Met, Round, SameRoom, AsBefore, OneMore, Rounds, stop, next, after_all, InOrder}

-- ---- two draws

module _ (n left : ℕ) {x y : Answer} where
  -- both refused, by the same number
  both_refused : (k : ℕ) (out out' : List ℕ) → 0 < k → x ≡ refused k 2 out → y ≡ refused k 2 out' → AsBefore n left x y
  both_refused k out out' h e f =
      let no : x.refusal ≡ 0 → ⊥ = λ z. omega (arith, ap (λ (b : Answer). b.refusal) e) in
      record {
        refusal = ap (λ (b : Answer). b.refusal) f ∙ sym (ap (λ (b : Answer). b.refusal) e);
        figures = λ z. absurd (no z);
        words = λ z. absurd (no z);
      }

  -- both given, the same derivation number and the same sentence
  both_given : (d : ℕ) (s rest rest' : List ℕ) → length s ≡ n → x ≡ given (suc left ∷ d ∷ []) (s ++ rest) → y ≡ given (left ∷ d ∷ []) (s ++ rest') → AsBefore n left x y
  both_given d s rest rest' l e f =
      record {
        refusal = ap (λ (b : Answer). b.refusal) f ∙ sym (ap (λ (b : Answer). b.refusal) e);
        figures = λ z. (d, ap (λ (b : Answer). b.figures) e, ap (λ (b : Answer). b.figures) f);
        words = λ z.
            ap (λ (b : Answer). take n b.buffer) f
            ∙ take_at s rest' n l
            ∙ sym (ap (λ (b : Answer). take n b.buffer) e ∙ take_at s rest n l);
      }

-- draw i of a list and draw j of one that has an entry less, where both are the same entry or both past the end
module _ (n i j : ℕ) (out out' : List ℕ) (l l' : List Entry) (fewer : length l ≡ suc (length l')) (inside : i < length l → j < length l')
    (outside : length l ≤ i → length l' ≤ j) (alike : entry_at l' j ≡ entry_at l i) (words : i < length l → length (sentence (entry_at l i).tree) ≡ n)
    (room : SameRoom n out out') where
  -- there is the entry, and room for its sentence in both buffers or in neither
  accepted : i < length l → n ≤ length out → AsBefore n (length l') (draw_from n i out l) (draw_from n j out' l')
  accepted k r =
      both_given n (length l') (entry_at l i).number (sentence (entry_at l i).tree) (drop n out) (drop n out') (words k)
      (from_accepted n i out l (from_passed n i out l k r)
      ∙ ap (λ (m : ℕ). given (m ∷ (entry_at l i).number ∷ []) (sentence (entry_at l i).tree ++ drop n out)) fewer)
      (from_accepted n j out' l' (from_passed n j out' l' (inside k) (room.0 r))
      ∙ ap (λ (e : Entry). given (length l' ∷ e.number ∷ []) (sentence e.tree ++ drop n out')) alike)

  short : i < length l → length out < n → AsBefore n (length l') (draw_from n i out l) (draw_from n j out' l')
  short k r =
      let no : length out' < n = elim (dec_le n (length out')) [
        | yes m ↦ absurd (omega (arith, room.1 m))
        | no m ↦ omega arith
      ] in
      both_refused n (length l') 20 out out' (omega arith) (from_short n i out l k r) (from_short n j out' l' (inside k) no)

  as_before : AsBefore n (length l') (draw_from n i out l) (draw_from n j out' l')
  as_before =
      elim (dec_le (length l) i) [
        | yes b ↦ both_refused n (length l') 16 out out' (omega arith) (from_beyond n i out l b) (from_beyond n j out' l' (outside b))
        | no b ↦
            elim (dec_le n (length out)) [
              | yes r ↦ accepted (omega arith) r
              | no r ↦ short (omega arith) (omega arith)
            ]
      ]

-- ---- what an accepted draw says

module _ (g h : List ℕ) (a : Question) (q : ℕ) (out : List ℕ) (ok : (draw_to g h a q out).refusal ≡ 0) where
  asked : Premises g h a × Worded g a
  unfolding draw_to
  asked =
      pass_premises g h a
      (rows_clear (remaining_rows g h a) ((leb (left_of g h a) q, 16) ∷ (ltb (length out) a.length, 20) ∷ []) refl (sym (answer_number _ _ _ _) ∙ ok)).0

  abbrev three : Demand3 g h a
  three = demand_3 g h a asked.0 asked.1

  inside : q < length (unheard g h a)
  inside =
      elim (dec_le (length (unheard g h a)) q) [
        | yes b ↦ absurd (omega (arith, ok, ap (λ (b : Answer). b.refusal) (three.beyond q out b)))
        | no b ↦ omega arith
      ]

  room : a.length ≤ length out
  room =
      elim (dec_le a.length (length out)) [
        | yes l ↦ l
        | no l ↦ absurd (omega (
          arith,
          ok,
          ap (λ (b : Answer). b.refusal)
              (draw_is g h a asked.0 asked.1 q out ∙ from_short a.length q out (unheard g h a) inside (omega arith)),
        ))
      ]

  -- it gives entry q
  shows : shown a.length (draw_to g h a q out) ≡ as_shown (drawn g h a q)
  shows = draw_shown g h a asked.0 asked.1 q out inside room

-- what is heard and what is left make the whole
heard_rest : (g h : List ℕ) (a : Question) → Premises g h a → heard_of g h a + length (unheard g h a) ≡ total_for g a
heard_rest g h a p =
    let clear = (heard_single g h a p.diary).1 p.single in
    omega (arith, heard_left g h a p.diary clear, left_length g h a p.diary clear)

-- so 2^64 - 1 is never below left
unheard_few : (g h : List ℕ) (a : Question) → Premises g h a → length (unheard g h a) ≤ most
unfolding total_for
unheard_few g h a p =
    omega (
      arith,
      heard_rest g h a p,
      keep_many (suits a) (full_list g a.length),
      keep_length (suits a) (full_list g a.length),
      listed_total g a.length,
      p.counts (start g) a.length whole,
    )

-- ---- the log of a sentence of the length: only 19 can apply

only_room : (g h : List ℕ) (a : Question) (s : List ℕ) → Premises g h a → length s ≡ a.length → (log_of h a s).refusal ≡ cond (no_room h) 19 0
unfolding append_of first_that_applies
only_room g h a s p l =
    let diary : List Row = history.history_rows h ++ ((no_room h, 19) ∷ []) in
    let played : List Row = (bad_played (playback s a.voice 0), 23) ∷ diary in
    answer_number (first_that_applies (append_rows h (playback s a.voice 0))) (suc (records_of h) ∷ []) h (appended h (playback s a.voice 0))
    ∙ row_passed 9 ((bad_voice a.voice, 22) ∷ played) ((length_within (length s)).1 (rw l p.some, rw l p.short))
    ∙ row_passed 22 played (le-ltb 15 a.voice p.voiced)
    ∙ row_passed 23 diary (lt-leb (length s) 0 (omega (arith, p.some)))
    ∙ rows_pass (history.history_rows h) ((no_room h, 19) ∷ []) refl p.diary

-- ---- one more sentence is heard

module _ (g h : List ℕ) (a : Question) (q : ℕ) (x : Shown) (r : Round g h a q x) where
  abbrev base : Premises g h a
  base = (asked g h a q r.out r.drawn).0

  abbrev worded : Worded g a
  worded = (asked g h a q r.out r.drawn).1

  abbrev at_q : q < length (unheard g h a)
  at_q = inside g h a q r.out r.drawn

  abbrev logs_it : Playback
  logs_it = playback x.words a.voice 0

  -- the history's bytes then
  abbrev then : List ℕ
  then = appended h logs_it

  leaves : (log_of h a x.words).buffer ≡ then
  unfolding append_of
  leaves =
      ap (λ (b : Answer). b.buffer)
      (answer_accepted (suc (records_of h) ∷ []) h then (sym (answer_number (first_that_applies (append_rows h logs_it)) (suc (records_of h) ∷ []) h then) ∙ r.logged))

  log : Logged h logs_it
  log = logged h logs_it r.logged

  heard_then : (s : List ℕ) → heard then a.voice s ≡ (same x.words s || heard h a.voice s)
  heard_then s = log.after a.voice s ∙ rw (eq-eqb a.voice a.voice refl)

  -- the sentence is that of entry q
  given_is : as_shown (drawn g h a q) ≡ x
  given_is = sym (shows g h a q r.out r.drawn) ∙ r.gives

  words_are : sentence (drawn g h a q).tree ≡ x.words
  words_are = ap (λ (y : Shown). y.words) given_is

  words_long : length x.words ≡ a.length
  words_long = sym (ap length words_are) ∙ entry_long g h a q at_q

  -- the premises hold then too
  one_alone : Single g x.words
  one_alone t u dt du st su = let one = r.single.1 in one.alone t dt st ∙ sym (one.alone u du su)

  single_then : (s : List ℕ) → length s ≡ a.length → heard then a.voice s ≡ true → Single g s
  single_then s l e =
      elim (or_cases (same x.words s) (heard h a.voice s) (sym (heard_then s) ∙ e)) [
        | inl f ↦ rw (← same_eq x.words s f) one_alone
        | inr f ↦ base.single s l f
      ]

  base_then : Premises g then a
  base_then = record {
    bank = base.bank;
    some = base.some;
    short = base.short;
    voiced = base.voiced;
    counts = base.counts;
    diary = log.accepted;
    single = single_then;
  }

  -- an entry with the sentence is entry q
  tree_is : (i : ℕ) → i < length (unheard g h a) → sentence (drawn g h a i).tree ≡ x.words → (drawn g h a i).tree ≡ r.single.0
  tree_is i k e =
      let m = ((demand_3 g h a base worded).entries (drawn g h a i)).0 (get_or_∈ (unheard g h a) i (entry no_entry) k) in
      r.single.1.alone (drawn g h a i).tree (rw words_long m.0.derivation) e

  other_words : (i : ℕ) → i < length (unheard g h a) → i ≢ q → sentence (drawn g h a i).tree ≡ x.words → ⊥
  other_words i k n e =
      let same = tree_is i k e ∙ sym (tree_is q at_q words_are) in
      let sorted = (demand_3 g h a base worded).ordered in
      elim (dec_le i q) [
        | yes l ↦ before_irrefl (pairwise_at _ (unheard g h a) i q (entry no_entry) sorted (omega arith) at_q) same
        | no l ↦ before_irrefl (pairwise_at _ (unheard g h a) q i (entry no_entry) sorted (omega arith) k) (sym same)
      ]

  -- the entry has another sentence
  abbrev other : Entry → Bool
  other e = not (same x.words (sentence e.tree))

  unheard_then : unheard g then a ≡ keep other (unheard g h a)
  unfolding unheard
  unheard_then =
      keep_ext (λ (e : Entry). suits a e.tree && outside then a.voice e.tree) (λ (e : Entry). (suits a e.tree && outside h a.voice e.tree) && other e)
      (entries_from 0 (full_list g a.length))
      (λ e m. ap (λ (b : Bool). suits a e.tree && not b) (heard_then (sentence e.tree)) ∙ apart (suits a e.tree) (same x.words (sentence e.tree)) (heard h a.voice (sentence e.tree)))
      ∙ sym (keep_keep other (λ (e : Entry). suits a e.tree && outside h a.voice e.tree) (entries_from 0 (full_list g a.length)))
    where
      apart : (f s k : Bool) → (f && not (s || k)) ≡ ((f && not k) && not s)
      apart true true true = refl
      apart true true false = refl
      apart true false true = refl
      apart true false false = refl
      apart false s k = refl

  -- the unheard list loses entry q
  loses : unheard g then a ≡ take q (unheard g h a) ++ drop (suc q) (unheard g h a)
  loses =
      unheard_then
      ∙ keep_but other (unheard g h a) q (entry no_entry) at_q itself
      (λ i k n. ap not (same_ne x.words (sentence (drawn g h a i).tree) (λ e. other_words i k n (sym e))))
    where
      itself : other (drawn g h a q) ≡ false
      itself = rw (words_are, same_refl x.words)

  -- so left falls by one, and heard rises by one
  fewer : length (unheard g h a) ≡ suc (length (unheard g then a))
  fewer = without_length (unheard g h a) q at_q ∙ ap (λ (l : List Entry). suc (length l)) (sym loses)

  heard_more : heard_of g then a ≡ suc (heard_of g h a)
  heard_more = omega (arith, heard_rest g h a base, heard_rest g then a base_then, fewer)

  below_same : (j : ℕ) → j < q → drawn g then a j ≡ drawn g h a j
  below_same j k = ap (λ (l : List Entry). entry_at l j) loses ∙ without_below (unheard g h a) q at_q j (entry no_entry) k

  from_next : (j : ℕ) → q ≤ j → drawn g then a j ≡ drawn g h a (suc j)
  from_next j k = ap (λ (l : List Entry). entry_at l j) loses ∙ without_from (unheard g h a) q at_q j (entry no_entry) k

  -- a draw before and one after, by their entries
  moved : {i : ℕ} (j : ℕ) → (i < length (unheard g h a) → j < length (unheard g then a)) → (length (unheard g h a) ≤ i → length (unheard g then a) ≤ j)
      → drawn g then a j ≡ drawn g h a i → (out out' : List ℕ) → SameRoom a.length out out'
      → AsBefore a.length (length (unheard g then a)) (draw_to g h a i out) (draw_to g then a j out')
  moved {i = i} j inside outside alike out out' room =
      rw (draw_is g h a base worded i out, draw_is g then a base_then worded j out')
      (as_before a.length i j out out' (unheard g h a) (unheard g then a) fewer inside outside alike (entry_long g h a i) room)

  one_more_then : OneMore g h then a q
  one_more_then = record {
    total = total_for g a;
    heard = heard_of g h a;
    left = length (unheard g then a);
    was = (demand_3 g h a base worded).left ∙ rw fewer;
    is = (demand_3 g then a base_then worded).left ∙ rw heard_more;
    below = λ j out out' k. moved j (λ l. omega (arith, fewer, at_q)) (λ l. omega (arith, at_q)) (rw (below_same j k)) out out';
    from = λ j out out' k. moved j (λ l. omega (arith, fewer)) (λ l. omega (arith, fewer)) (rw (from_next j k)) out out';
    last = λ out. (
      (demand_3 g h a base worded).beyond most out (unheard_few g h a base),
      (demand_3 g then a base_then worded).beyond most out (omega (arith, fewer, unheard_few g h a base)),
    );
  }

-- the theorem, of the buffer that *Log* leaves
pub one_more : (g h : List ℕ) (a : Question) (q : ℕ) (x : Shown) → Round g h a q x → OneMore g h (log_of h a x.words).buffer a q
one_more g h a q x r = rw (leaves g h a q x r) (one_more_then g h a q x r)

-- of the log of what a draw gave
pub only_19 : (g h : List ℕ) (a : Question) (q : ℕ) (out : List ℕ) → (draw_to g h a q out).refusal ≡ 0
    → (log_of h a (shown a.length (draw_to g h a q out)).words).refusal ≡ cond (no_room h) 19 0
only_19 g h a q out ok =
    only_room g h a (shown a.length (draw_to g h a q out)).words (asked g h a q out ok).0
    (ap (λ (y : Shown). length y.words) (shows g h a q out ok) ∙ entry_long g h a q (inside g h a q out ok))

-- ---- rounds of draw 0

module _ (g h : List ℕ) (a : Question) (x : Shown) (r : Round g h a 0 x) where
  -- the list's first entry is what was given, and the rest is the list then
  front_is : unheard g h a ≡ drawn g h a 0 ∷ unheard g (then g h a 0 x r) a
  front_is =
      split_at (unheard g h a) 0 (entry no_entry) (at_q g h a 0 x r)
      ∙ ap (λ (l : List Entry). drawn g h a 0 ∷ l) (sym (loses g h a 0 x r))

  front_given : map as_shown (unheard g h a) ≡ x ∷ map as_shown (unheard g (log_of h a x.words).buffer a)
  front_given =
      ap (map as_shown) front_is
      ∙ rw (given_is g h a 0 x r, leaves g h a 0 x r)

  base_next : Premises g (log_of h a x.words).buffer a
  base_next = rw (leaves g h a 0 x r) (base_then g h a 0 x r)

  heard_next : heard_of g (log_of h a x.words).buffer a ≡ suc (heard_of g h a)
  heard_next = rw (leaves g h a 0 x r) (heard_more g h a 0 x r)

  now_heard : heard (log_of h a x.words).buffer a.voice x.words ≡ true
  now_heard = rw (leaves g h a 0 x r, heard_then g h a 0 x r x.words, same_refl x.words) refl

-- what rounds leave
record Told (g h : List ℕ) (a : Question) (l : List Shown) : Type 0 where
  pub base : Premises g (after_all h a l) a
  pub list : map as_shown (unheard g h a) ≡ l ++ map as_shown (unheard g (after_all h a l) a)
  pub heard : heard_of g (after_all h a l) a ≡ length l + heard_of g h a

module _ (g : List ℕ) (a : Question) (worded : Worded g a) where
  told : {h : List ℕ} {l : List Shown} → Premises g h a → Rounds g a h l → Told g h a l
  told {h = h} p stop = record { base = p; list = refl; heard = omega arith }
  told {h = h} {l = x ∷ l} p (next r rest) =
      let ih = told (base_next g h a x r) rest in
      record {
        base = ih.base;
        list = front_given g h a x r ∙ ap (λ (m : List Shown). x ∷ m) ih.list;
        heard = omega (arith, ih.heard, heard_next g h a x r);
      }

  -- what comes later is unheard still
  unheard_yet : {h : List ℕ} {l : List Shown} → Premises g h a → Rounds g a h l → (y : Shown) → y ∈ l → heard h a.voice y.words ≡ false
  unheard_yet {h = h} {l = l} p rounds y m =
      let t = told p rounds in
      let listed : y ∈ map as_shown (unheard g h a) = rw t.list (Memᴰ.append_left (map as_shown (unheard g (after_all h a l) a)) m) in
      let e = Memᴰ.of_map as_shown (unheard g h a) listed in
      rw (← e.2) (((demand_3 g h a p worded).entries e.0).0 e.1).2

  once_each : {h : List ℕ} {l : List Shown} → Premises g h a → Rounds g a h l → Distinct (map (λ (x : Shown). x.words) l)
  once_each p stop = none
  once_each {h = h} {l = x ∷ l} p (next r rest) =
      more
      (λ s m e.
      let y = Memᴰ.of_map (λ (x : Shown). x.words) l m in
      let same : x.words ≡ y.0.words = e ∙ sym y.2 in
      true≢false (sym (now_heard g h a x r) ∙ ap (heard (log_of h a x.words).buffer a.voice) same ∙ unheard_yet (base_next g h a x r) rest y.0 y.1))
      (once_each (base_next g h a x r) rest)

  ordered : {h : List ℕ} {l : List Shown} → Premises g h a → Rounds g a h l → InOrder g h a l
  ordered {h = h} {l = l} p rounds =
      let t = told p rounds in
      let rest = unheard g (after_all h a l) a in
      let n : length (unheard g h a) ≡ length l + length rest
      = sym (length-map (unheard g h a) as_shown) ∙ ap length t.list ∙ length-append l (map as_shown rest) ∙ ap (λ (k : ℕ). length l + k) (length-map rest as_shown) in
      record {
        total = total_for g a;
        heard = heard_of g h a;
        left = length rest;
        was = (demand_3 g h a p worded).left ∙ rw n;
        is = (demand_3 g (after_all h a l) a t.base worded).left ∙ rw t.heard;
        list = t.list;
        once = once_each p rounds;
      }

pub in_order : (g h : List ℕ) (a : Question) (l : List Shown) → (remaining_to g h a).refusal ≡ 0 → Rounds g a h l → InOrder g h a l
in_order g h a l ok = let p = (premises g h a).1 ok in ordered g a p.1 p.0

-- ---- rounds that there are

free_room : (h : List ℕ) → records_of h < 1000 → 4 + 20 * suc (records_of h) ≤ length h → no_room h ≡ false
unfolding no_room
free_room h few size = rw (ne_eqb (records_of h) 1000 (λ e. omega arith)) (le-ltb (length h) (4 + 20 * suc (records_of h)) size)

module _ (g h : List ℕ) (a : Question) (p : Premises g h a) (worded : Worded g a) (q : ℕ) (k : q < length (unheard g h a)) where
  round_there : ((t : Tree) × OneDerivation g (sentence (drawn g h a q).tree) t) → no_room h ≡ false → Round g h a q (as_shown (drawn g h a q))
  round_there single free =
      let out : List ℕ = replicate a.length 0 in
      let r : a.length ≤ length out = omega (arith, length-replicate {A = ℕ} a.length 0) in
      record {
        out = out;
        drawn = ap (λ (b : Answer). b.refusal) (draw_accepted g h a p worded q out k r);
        gives = draw_shown g h a p worded q out k r;
        single = single;
        logged = only_room g h a (sentence (drawn g h a q).tree) p (entry_long g h a q k) ∙ rw free;
      }

  alone_there : Single g (sentence (drawn g h a q).tree) → OneDerivation g (sentence (drawn g h a q).tree) (drawn g h a q).tree
  alone_there single =
      let t = (drawn g h a q).tree in
      let d : Derivation g (length (sentence t)) t
      = rw (entry_long g h a q k) (((demand_3 g h a p worded).entries (drawn g h a q)).0 (get_or_∈ (unheard g h a) q (entry no_entry) k)).0.derivation in
      record { derivation = d; says = refl; alone = λ u du su. single u t du d su refl }

-- where no sentence of the length has two derivations, rounds go on as long as something is left and there is room
module _ (g : List ℕ) (a : Question) (worded : Worded g a) (single : (s : List ℕ) → length s ≡ a.length → Single g s) where
  rounds_there : (k : ℕ) (h : List ℕ) → Premises g h a → k ≤ length (unheard g h a) → records_of h + k ≤ 1000 → 4 + 20 * (records_of h + k) ≤ length h
      → Rounds g a h (map as_shown (take k (unheard g h a)))
  rounds_there zero h p few records size = stop
  rounds_there (suc k) h p few records size =
      let inside : 0 < length (unheard g h a) = omega arith in
      let x = as_shown (drawn g h a 0) in
      let one = alone_there g h a p worded 0 inside (single (sentence (drawn g h a 0).tree) (entry_long g h a 0 inside)) in
      let r = round_there g h a p worded 0 inside ((drawn g h a 0).tree, one) (free_room h (omega arith) (omega arith)) in
      let log = log g h a 0 x r in
      let h' = then g h a 0 x r in
      let rest : Rounds g a h' (map as_shown (take k (unheard g h' a)))
      = rounds_there k h' (base_then g h a 0 x r) (omega (arith, fewer g h a 0 x r)) (omega (arith, log.count))
      (omega (arith, log.count, long h (logs_it g h a 0 x r) (logs h (logs_it g h a 0 x r) r.logged))) in
      subst (λ (l : List Entry). Rounds g a h (map as_shown (take (suc k) l))) (sym (front_is g h a x r)) (next r (rw (leaves g h a 0 x r) rest))

pub goes_on : (g h : List ℕ) (a : Question) (k : ℕ) → (remaining_to g h a).refusal ≡ 0 → ((s : List ℕ) → length s ≡ a.length → Single g s)
    → k ≤ length (unheard g h a) → records_of h + k ≤ 1000 → 4 + 20 * (records_of h + k) ≤ length h → Rounds g a h (map as_shown (take k (unheard g h a)))
goes_on g h a k ok single = let p = (premises g h a).1 ok in rounds_there g a p.1 single k h p.0

-- ---- an instance: F with the diary of 0 1

roomy_accepted : history.Accepted roomy
unfolding first_that_applies history.bad_size history.misfit history.bad_record history.bad_link history.bad_chain bad_length some_below two_at numbers_from met_from
roomy_accepted = refl

roomy_free : no_room roomy ≡ false
unfolding no_room two_at
roomy_free = refl

-- a question of two words in voice 0, by what is computed of it
met_at : (a : Question) (q : ℕ) (l : List Entry) → a.length ≡ 2 → a.voice ≡ 0 → ambiguous F roomy a ≡ false → Worded F a → unheard F roomy a ≡ l
    → q < length l → readings_of F (sentence (entry_at l q).tree) ≡ 1 → Round F roomy a q (as_shown (entry_at l q))
met_at a q l n v clear worded u inside one =
    let p = premised F roomy a F_accepted (omega (arith, n)) (omega (arith, n)) (omega (arith, v)) (rw n (F_fits 2 (omega arith) (omega arith))) roomy_accepted clear in
    let e : drawn F roomy a q ≡ entry_at l q = ap (λ (l : List Entry). entry_at l q) u in
    rw (← e) (round_there F roomy a p worded q (rw u inside) (_, one_derivation F (sentence (drawn F roomy a q).tree) (rw e one)) roomy_free)

-- the sentences 1 0 and 1 1
abbrev ten : Entry
ten = record { number = 2; tree = node 0 (leaf 1 1) (leaf 0 0) }

abbrev eleven : Entry
eleven = record { number = 3; tree = node 0 (leaf 1 1) (leaf 1 1) }

pub met : Met
unfolding bad_pattern ambiguous unheard heard makes_heard some_below two_at record_words numbers_from trees trees_to met_from rest
met = record {
  plain = met_at (plainly 2 0) 1 (record { number = 0; tree = node 0 (leaf 0 0) (leaf 0 0) } ∷ ten ∷ eleven ∷ []) refl refl refl refl refl (omega arith) refl;
  matched = met_at (matching (blank ∷ 1 ∷ []) 0) 0 (eleven ∷ []) refl refl refl refl refl (omega arith) refl;
}
