-- Demand 3. Where its premises hold, *Left* isn't refused and left is the length of the unheard list; so what *Draw* answers is read off
-- that list: entry q, or refused 16 past its end. Two histories that bar the same sentences of a length strike the same places.
-- Assumes nothing.
use mathlib.Core.Path.{◌≡◌, refl, sym, ap, ◌∙◌}
use mathlib.Core.Logic.{◌≢◌}
use mathlib.Core.Bool.{Bool, true, false, not, ◌&&◌}
use mathlib.Core.List.Memᴰ
use mathlib.Core.List.{List, [], ◌∷◌, ◌++◌, map}
use Prim.Native.Nat.{ℕ, suc, ◌+◌, ◌≤◌, ◌<◌}
use native.Mathlib.Omega.{arith}
use native.Mathlib.Decide.{dec_le}
use lib.ListN.{length, get_or, take, drop, length-map, get_or-map}
use lib.Seq.{take_at, drop_at}
use lib.Dec.{ltb, leb}
use borrow.Author.Tests.{not-true}
use Rattle.lists.specs.Joined.{◌∈◌, At}
use Rattle.lists.specs.Ordered.{Pairwise, none, more, Distinct, Exactly}
use Rattle.lists.specs.Searched.{keep}
use Rattle.lists.specs.Inner.Struck.{numbered}
use Rattle.lists.proofs.Members.{get_or_∈, ∈_place, At_get_or}
use Rattle.lists.proofs.Places.{map_up_from}
use Rattle.lists.proofs.Orders.{pairwise_one, distinct_place, exactly_unique}
use Rattle.lists.proofs.Struck.{∈_numbered}
use Rattle.lists.proofs.Tests.{and_left, and_right, both_ways, both_fail}
use Rattle.lists.proofs.Strikes.{keep_∈, ∈_keep, keep_map, keep_ext, keep_pairwise, exactly_many, struck_ext}
use Rattle.answers.specs.Answer.{Answer, first_that_applies, given, refused, answer_of}
use Rattle.answers.proofs.Refusals.{rows_stop, rows_tail, rows_pass, answer_accepted, answer_refused}
use Rattle.grammar.specs.Layout.{start}
use Rattle.grammar.specs.Chains.{chain}
use Rattle.grammar.specs.Trees.{Tree, leaf, sentence, Before}
use Rattle.grammar.proofs.Enumeration.{sound, complete}
use Rattle.grammar.proofs.Order as order
use Rattle.ranking.specs.Answers.{full_list}
use Rattle.ranking.specs.Demand2.{Derivation, HasNumber, OneDerivation}
use Rattle.ranking.proofs.Demand2.{at_has, one_derivation, one_read}
use Rattle.history.specs.Refusals as history
use Rattle.history.specs.Heard.{heard}
use Rattle.sampling.specs.Pattern.{matches}
use Rattle.sampling.specs.Question.{Question}
use Rattle.sampling.specs.Unheard.{Entry, entries_from, outside, suits, unheard, total_for, heard_of, left_of, ambiguous}
use Rattle.sampling.specs.Inner.Collect.{fitting_at, barred}
use Rattle.sampling.specs.Answers.{asked_rows, remaining_rows, drawn, remaining_to, draw_to}
use Rattle.sampling.specs.Demand3.{Single, Premises, Worded, shown, as_shown, Demand3, Derivable, Once, SameBarred, Alike}
use Rattle.sampling.proofs.Barred.{listed_length, entry, no_entry, fitting_∈, free, unheard_is, heard_length, heard_exactly, heard_left, left_length}
use Rattle.sampling.proofs.Listed.{draw_from, from_beyond, from_accepted, from_refusal, from_passed, from_short}
use Rattle.sampling.proofs.Answering.{draw_unheard}
use Rattle.sampling.proofs.Premises.{heard_single, premises_pass, pass_premises}

-- ---- the entries of the unheard list

pub entries_∈ : (d : ℕ) (l : List Tree) {e : Entry} → e ∈ entries_from d l → e.tree ∈ l
entries_∈ d [] {e = e} x' = elim x' [ ]
entries_∈ d (t ∷ l) (Memᴰ.head f) = Memᴰ.head (ap (λ (e : Entry). e.tree) f)
entries_∈ d (t ∷ l) (Memᴰ.tail m) = Memᴰ.tail (entries_∈ (suc d) l m)

entries_trees : (d : ℕ) (l : List Tree) → map (λ (e : Entry). e.tree) (entries_from d l) ≡ l
entries_trees d [] = refl
entries_trees d (t ∷ l) = ap (λ (r : List Tree). t ∷ r) (entries_trees (suc d) l)

entries_ordered : (d : ℕ) (l : List Tree) → Pairwise Before l → Pairwise (λ (e f : Entry). Before e.tree f.tree) (entries_from d l)
entries_ordered d [] none = none
entries_ordered d (t ∷ l) (more h s) = more (λ e m. h e.tree (entries_∈ (suc d) l m)) (entries_ordered (suc d) l s)

module _ (g h : List ℕ) (a : Question) where
  -- the tree is to be drawn
  abbrev wanted : Tree → Bool
  wanted t = suits a t && outside h a.voice t

  -- the trees that are left of the full list
  abbrev unstruck : List Tree
  unstruck = keep wanted (full_list g a.length)

  unstruck_once : Distinct unstruck
  unstruck_once = keep_pairwise ◌≢◌ wanted (full_list g a.length) (order.distinct (chain g) (start g) a.length)

  -- the entries' trees are these
  trees_are : map (λ (e : Entry). e.tree) (unheard g h a) ≡ unstruck
  unfolding unheard
  trees_are =
      sym (keep_map (λ (e : Entry). e.tree) wanted (entries_from 0 (full_list g a.length)))
      ∙ ap (keep wanted) (entries_trees 0 (full_list g a.length))

  unstruck_length : length unstruck ≡ length (unheard g h a)
  unstruck_length = ap length (sym trees_are) ∙ length-map (unheard g h a) (λ (e : Entry). e.tree)

  entry_tree : (q : ℕ) → (drawn g h a q).tree ≡ get_or unstruck q (leaf 0 0)
  entry_tree q = sym (get_or-map (λ (e : Entry). e.tree) (unheard g h a) q (entry no_entry)) ∙ ap (λ (l : List Tree). get_or l q (leaf 0 0)) trees_are

  -- each is listed, and its sentence fits and is unheard
  entry_left : (q : ℕ) → q < length (unheard g h a)
      → ((drawn g h a q).tree ∈ full_list g a.length) × (suits a (drawn g h a q).tree ≡ true) × (heard h a.voice (sentence (drawn g h a q).tree) ≡ false)
  entry_left q k =
      let t = get_or unstruck q (leaf 0 0) in
      let m = keep_∈ wanted (full_list g a.length) t (get_or_∈ unstruck q (leaf 0 0) (omega (arith, unstruck_length))) in
      rw (entry_tree q)
      (m.0, and_left (suits a t) (outside h a.voice t) m.1, not-true (heard h a.voice (sentence t)) (and_right (suits a t) (outside h a.voice t) m.1))

  pub entry_long : (q : ℕ) → q < length (unheard g h a) → length (sentence (drawn g h a q).tree) ≡ a.length
  entry_long q k = listed_length g a.length (drawn g h a q).tree (entry_left q k).0

  -- an entry is a derivation with its number
  abbrev Has : Entry → Type 0
  Has e = HasNumber g a.length e.tree e.number × (suits a e.tree ≡ true) × (heard h a.voice (sentence e.tree) ≡ false)

  entry_has : (e : Entry) → e ∈ unheard g h a → Has e
  entry_has e m =
      let q = Memᴰ.of_map entry (keep (free g h a) (fitting_at g a)) (rw (unheard_is g h a) at m) in
      let k = keep_∈ (free g h a) (fitting_at g a) q.0 q.1 in
      let f = fitting_∈ g a q.0 k.0 in
      rw (← q.2) (at_has g a.length q.0.0 q.0.1 f.0, f.2, not-true (heard h a.voice (sentence q.0.1)) k.1)

  has_entry : (e : Entry) → Has e → e ∈ unheard g h a
  has_entry e p =
      let i = ∈_place (full_list g a.length) (complete (chain g) p.0.derivation) in
      let d : 0 + i.0 ≡ e.number = omega (arith, exactly_unique (at_has g a.length i.0 e.tree i.2).before p.0.before) in
      let m : (e.number, e.tree) ∈ numbered 0 (full_list g a.length) = rw d at (∈_numbered 0 (full_list g a.length) i.0 e.tree i.2) in
      rw (unheard_is g h a)
      (Memᴰ.map entry (∈_keep (free g h a) (fitting_at g a) (e.number, e.tree)
      (∈_keep (λ (e : ℕ × Tree). suits a e.1) (numbered 0 (full_list g a.length)) (e.number, e.tree) m p.1) (ap not p.2)))

  -- the entries stand in the order of their trees
  unheard_ordered : Pairwise (λ (e f : Entry). Before e.tree f.tree) (unheard g h a)
  unfolding unheard
  unheard_ordered =
      keep_pairwise (λ (e f : Entry). Before e.tree f.tree) (λ (e : Entry). wanted e.tree) (entries_from 0 (full_list g a.length))
      (entries_ordered 0 (full_list g a.length) (order.sorted (chain g) (start g) a.length))

-- ---- the derivations that fit

total_exactly : (g : List ℕ) (a : Question) → Exactly (total_for g a) (λ t. Derivation g a.length t × (suits a t ≡ true))
unfolding total_for
total_exactly g a =
    let e = exactly_many (suits a) (full_list g a.length) (order.distinct (chain g) (start g) a.length) in
    record {
      listed = e.listed;
      many = e.many;
      once = e.once;
      all = λ t. (
        λ p. (e.all t).0 (complete (chain g) p.0, p.1),
        λ m. let q = (e.all t).1 m in (sound (chain g) (start g) a.length t q.0, q.1),
      );
    }

-- ---- the heard sentences that have one derivation

module _ (g h : List ℕ) (a : Question) (diary : history.Accepted h) (clear : ambiguous g h a ≡ false) where
  heard_read : Exactly (heard_of g h a)
      (λ s. (length s ≡ a.length) × (matches a.pattern s ≡ true) × (heard h a.voice s ≡ true) × ((t : Tree) × OneDerivation g s t))
  heard_read =
      let e = heard_exactly g h a diary clear in
      record {
        listed = e.listed;
        many = e.many;
        once = e.once;
        all = λ s. (
          λ p. (e.all s).0 (p.0, p.1, p.2, one_read g s p.3.0 p.3.1),
          λ m. let q = (e.all s).1 m in (q.0, q.1, q.2, (_, one_derivation g s q.3)),
        );
      }

-- ---- demand 3

module _ (g h : List ℕ) (a : Question) (p : Premises g h a) (fitted : Worded g a) where
  clear : ambiguous g h a ≡ false
  clear = (heard_single g h a p.diary).1 p.single

  passed : first_that_applies (remaining_rows g h a) ≡ 0
  passed = premises_pass g h a p fitted

  left_is : left_of g h a ≡ length (unheard g h a)
  left_is = left_length g h a p.diary clear

  remaining_is : remaining_to g h a ≡ given (total_for g a ∷ heard_of g h a ∷ length (unheard g h a) ∷ []) []
  unfolding remaining_to
  remaining_is =
      answer_accepted (total_for g a ∷ heard_of g h a ∷ left_of g h a ∷ []) [] [] passed
      ∙ ap (λ (m : ℕ). given (total_for g a ∷ heard_of g h a ∷ m ∷ []) []) left_is

  pub draw_is : (q : ℕ) (out : List ℕ) → draw_to g h a q out ≡ draw_from a.length q out (unheard g h a)
  draw_is q out = draw_unheard g h a q out passed left_is

  pub draw_accepted : (q : ℕ) (out : List ℕ) → q < length (unheard g h a) → a.length ≤ length out
      → draw_to g h a q out ≡ given (length (unheard g h a) ∷ (drawn g h a q).number ∷ []) (sentence (drawn g h a q).tree ++ drop a.length out)
  draw_accepted q out k l = draw_is q out ∙ from_accepted a.length q out (unheard g h a) (from_passed a.length q out (unheard g h a) k l)

  draw_figures : (q : ℕ) (out : List ℕ) → (draw_to g h a q out).refusal ≡ 0 → (d : ℕ) × ((draw_to g h a q out).figures ≡ length (unheard g h a) ∷ d ∷ [])
  draw_figures q out ok =
      let e = sym (from_refusal a.length q out (unheard g h a)) ∙ ap (λ (x : Answer). x.refusal) (sym (draw_is q out)) ∙ ok in
      ((drawn g h a q).number, ap (λ (x : Answer). x.figures) (draw_is q out ∙ from_accepted a.length q out (unheard g h a) e))

  -- the words that a draw writes
  draw_words : (q : ℕ) (out : List ℕ) → q < length (unheard g h a) → a.length ≤ length out → take a.length (draw_to g h a q out).buffer ≡ sentence (drawn g h a q).tree
  draw_words q out k l =
      ap (λ (x : Answer). take a.length x.buffer) (draw_accepted q out k l)
      ∙ take_at (sentence (drawn g h a q).tree) (drop a.length out) a.length (entry_long g h a q k)

  pub draw_shown : (q : ℕ) (out : List ℕ) → q < length (unheard g h a) → a.length ≤ length out → shown a.length (draw_to g h a q out) ≡ as_shown (drawn g h a q)
  draw_shown q out k l = rw (draw_words q out k l, draw_accepted q out k l)

  draw_kept : (q : ℕ) (out : List ℕ) → drop a.length (draw_to g h a q out).buffer ≡ drop a.length out
  draw_kept q out =
      elim (dec_le (length (unheard g h a)) q) [
        | yes b ↦ ap (λ (x : Answer). drop a.length x.buffer) (draw_is q out ∙ from_beyond a.length q out (unheard g h a) b)
        | no b ↦
            elim (dec_le a.length (length out)) [
              | yes l ↦
                  ap (λ (x : Answer). drop a.length x.buffer) (draw_accepted q out (omega arith) l)
                  ∙ drop_at (sentence (drawn g h a q).tree) (drop a.length out) a.length (entry_long g h a q (omega arith))
              | no l ↦ ap (λ (x : Answer). drop a.length x.buffer) (draw_is q out ∙ from_short a.length q out (unheard g h a) (omega arith) (omega arith))
            ]
      ]

  pub demand_3 : Demand3 g h a
  demand_3 =
      record {
        entries = λ e. (entry_has g h a e, has_entry g h a e);
        ordered = unheard_ordered g h a;
        total_are = total_exactly g a;
        heard_are = heard_read g h a p.diary clear;
        heard_few = omega (arith, heard_left g h a p.diary clear);
        left = remaining_is;
        figures = draw_figures;
        accepted = λ q out k l. ap (λ (x : Answer). x.refusal) (draw_accepted q out k l);
        draws = λ out l. map_up_from (λ q. shown a.length (draw_to g h a q (out q))) as_shown 0 (unheard g h a) (entry no_entry)
            (λ q k. let e : 0 + q ≡ q = omega arith in rw e (draw_shown q (out q) k (l q)));
        kept = draw_kept;
        beyond = λ q out b. draw_is q out ∙ from_beyond a.length q out (unheard g h a) b;
      }

  -- ---- sentences that come once

  module _ (single : (s : List ℕ) → length s ≡ a.length → Single g s) (out : ℕ → List ℕ) (long : (q : ℕ) → a.length ≤ length (out q)) where
    once_each : (s : List ℕ) → length s ≡ a.length → Derivable g s → matches a.pattern s ≡ true → heard h a.voice s ≡ false
        → Exactly 1 (λ q. (q < length (unheard g h a)) × (take a.length (draw_to g h a q (out q)).buffer ≡ s))
    once_each s e (t, (d, says)) fit u =
        record {
          listed = place.0 ∷ [];
          many = refl;
          once = pairwise_one ◌≢◌ place.0;
          all = λ q. (λ r. Memᴰ.head (only q r.0 r.1), λ m. rw (Memᴰ.eq_of_singleton m) (inside, here));
        }
      where
        place : (i : ℕ) × (i < length (unstruck g h a)) × At (unstruck g h a) i t
        place =
            ∈_place (unstruck g h a)
            (∈_keep (wanted g h a) (full_list g a.length) t (rw e at (complete (chain g) d))
            (rw (says, fit, u)))

        is : get_or (unstruck g h a) place.0 (leaf 0 0) ≡ t
        is = At_get_or (unstruck g h a) place.0 t (leaf 0 0) place.2

        inside : place.0 < length (unheard g h a)
        inside = omega (arith, place.1, unstruck_length g h a)

        here : take a.length (draw_to g h a place.0 (out place.0)).buffer ≡ s
        here =
            draw_words place.0 (out place.0) inside (long place.0)
            ∙ ap sentence (entry_tree g h a place.0 ∙ is)
            ∙ says

        only : (q : ℕ) → q < length (unheard g h a) → take a.length (draw_to g h a q (out q)).buffer ≡ s → q ≡ place.0
        only q k w =
            let said : sentence (drawn g h a q).tree ≡ s = sym (draw_words q (out q) k (long q)) ∙ w in
            let same = single s e (drawn g h a q).tree t (rw e (sound (chain g) (start g) a.length (drawn g h a q).tree (entry_left g h a q k).0)) d said says in
            distinct_place (unstruck g h a) q place.0 (leaf 0 0) (unstruck_once g h a)
            (omega (arith, unstruck_length g h a)) place.1 (sym (entry_tree g h a q) ∙ same ∙ sym is)

    once_other : (q : ℕ) → q < length (unheard g h a)
        → (s : List ℕ) × (take a.length (draw_to g h a q (out q)).buffer ≡ s) × (length s ≡ a.length) × Derivable g s × (matches a.pattern s ≡ true)
        × (heard h a.voice s ≡ false)
    once_other q k =
        let t = (drawn g h a q).tree in
        let l = entry_long g h a q k in (
          sentence t,
          draw_words q (out q) k (long q),
          l,
          (t, (rw l (sound (chain g) (start g) a.length t (entry_left g h a q k).0), refl)),
          (entry_left g h a q k).1,
          (entry_left g h a q k).2,
        )

    pub once : Once g h a out
    once = record { each = once_each; other = once_other }

-- ---- a refusal of *Left* is one of *Draw* too

module _ (g h : List ℕ) (a : Question) (some : 0 < first_that_applies (remaining_rows g h a)) where
  left_refused : remaining_to g h a ≡ refused (first_that_applies (remaining_rows g h a)) 3 []
  unfolding remaining_to
  left_refused =
      answer_refused (first_that_applies (remaining_rows g h a)) (total_for g a ∷ heard_of g h a ∷ left_of g h a ∷ []) [] [] some

  pub draw_refused : (q : ℕ) (out : List ℕ) → draw_to g h a q out ≡ refused (first_that_applies (remaining_rows g h a)) 2 out
  unfolding draw_to
  draw_refused q out =
      ap (λ (r : ℕ). answer_of r (left_of g h a ∷ (drawn g h a q).number ∷ []) out (sentence (drawn g h a q).tree ++ drop a.length out))
      (rows_stop (remaining_rows g h a) ((leb (left_of g h a) q, 16) ∷ (ltb (length out) a.length, 20) ∷ []) some)
      ∙ answer_refused (first_that_applies (remaining_rows g h a)) (left_of g h a ∷ (drawn g h a q).number ∷ []) out
      (sentence (drawn g h a q).tree ++ drop a.length out) some

-- ---- two histories

module _ (g h h' : List ℕ) (a : Question) (bars : SameBarred g h h' a) where
  outside_same : (t : Tree) → t ∈ full_list g a.length → outside h a.voice t ≡ outside h' a.voice t
  outside_same t m =
      let l = listed_length g a.length t m in
      let d : Derivable g (sentence t) = (t, (rw l (sound (chain g) (start g) a.length t m), refl)) in
      ap not (both_ways (heard h a.voice (sentence t)) (heard h' a.voice (sentence t)) (λ e. ((bars (sentence t) l).0 (e, d)).0) (λ e. ((bars (sentence t) l).1 (e, d)).0))

  barred_same : barred g h a ≡ barred g h' a
  barred_same = struck_ext (free g h a) (free g h' a) (fitting_at g a) (λ e m. outside_same e.1 (fitting_∈ g a e m).1)

  pub unheard_same : unheard g h a ≡ unheard g h' a
  unfolding unheard
  unheard_same =
      keep_ext (λ (e : Entry). wanted g h a e.tree) (λ (e : Entry). wanted g h' a e.tree) (entries_from 0 (full_list g a.length))
      (λ e m. ap (λ (b : Bool). suits a e.tree && b) (outside_same e.tree (entries_∈ 0 (full_list g a.length) m)))

  -- what is heard in the second is single if what is heard in the first is: where it has no derivation there is nothing to show
  singles : ((s : List ℕ) → length s ≡ a.length → heard h a.voice s ≡ true → Single g s) → (s : List ℕ) → length s ≡ a.length → heard h' a.voice s ≡ true → Single g s
  singles f s l e t u dt du st su = f s l ((bars s l).1 (e, (t, (dt, st)))).0 t u dt du st su

module _ (g h h' : List ℕ) (a : Question) (diary : history.Accepted h) (diary' : history.Accepted h') (bars : SameBarred g h h' a) where
  back : SameBarred g h' h a
  back s l = ((bars s l).1, (bars s l).0)

  -- line 15 applies to both or to neither
  pub ambiguous_same : ambiguous g h a ≡ ambiguous g h' a
  ambiguous_same =
      let c = heard_single g h a diary in
      let b = heard_single g h' a diary' in
      both_fail (ambiguous g h a) (ambiguous g h' a)
      (λ e. b.1 (singles g h h' a bars (c.0 e))) (λ e. c.1 (singles g h' h a back (b.0 e)))

  -- and so the same line applies
  refusal_same : first_that_applies (remaining_rows g h a) ≡ first_that_applies (remaining_rows g h' a)
  refusal_same =
      rows_tail (asked_rows g a) (history.history_rows h ++ ((ambiguous g h a, 15) ∷ [])) (history.history_rows h' ++ ((ambiguous g h' a, 15) ∷ []))
      (rows_pass (history.history_rows h) ((ambiguous g h a, 15) ∷ []) refl diary
      ∙ ap (λ (b : Bool). first_that_applies ((b, 15) ∷ [])) ambiguous_same
      ∙ sym (rows_pass (history.history_rows h') ((ambiguous g h' a, 15) ∷ []) refl diary'))

  -- none: both are as demand 3 says
  module _ (none : first_that_applies (remaining_rows g h a) ≡ 0) where
    abbrev first : Premises g h a × Worded g a
    first = pass_premises g h a none

    abbrev second : Premises g h' a × Worded g a
    second = pass_premises g h' a (sym refusal_same ∙ none)

    heard_same : heard_of g h a ≡ heard_of g h' a
    heard_same =
        heard_length g h a diary (clear g h a first.0 first.1)
        ∙ ap length (barred_same g h h' a bars)
        ∙ sym (heard_length g h' a diary' (clear g h' a second.0 second.1))

    passed_alike : Alike g h h' a
    passed_alike =
        record {
          left = remaining_is g h a first.0 first.1 ∙ rw (heard_same, unheard_same g h h' a bars) (sym (remaining_is g h' a second.0 second.1));
          draw = λ q out. draw_is g h a first.0 first.1 q out ∙ ap (draw_from a.length q out) (unheard_same g h h' a bars) ∙ sym (draw_is g h' a second.0 second.1 q out);
        }

  -- one: it refuses both calls, for either history
  module _ (some : 0 < first_that_applies (remaining_rows g h a)) where
    refused_alike : Alike g h h' a
    refused_alike = record {
      left = left_refused g h a some ∙ ap (λ (r : ℕ). refused r 3 []) refusal_same ∙ sym (left_refused g h' a (rw (← refusal_same) some));
      draw = λ q out. draw_refused g h a some q out ∙ ap (λ (r : ℕ). refused r 2 out) refusal_same ∙ sym (draw_refused g h' a (rw (← refusal_same) some) q out);
    }

  pub alike : Alike g h h' a
  alike =
      elim (dec_le 1 (first_that_applies (remaining_rows g h a))) [
        | yes l ↦ refused_alike l
        | no l ↦ passed_alike (omega arith)
      ]
