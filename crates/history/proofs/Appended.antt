-- What a log does to a history's meaning: the bytes after it are an accepted history of K + 1 records, whose sentences are the new one, if it was
-- played in full, and then the old ones in their order. So the new sentence is heard then, and what was heard still is.
-- The argument: the bytes of the old records are as they were, so their fields are; the chain is the new record and then the old chain.
-- Assumes nothing.
use mathlib.Core.Path.{◌≡◌, refl, sym, ap, ◌∙◌}
use mathlib.Core.Bool.{Bool, true, false, not, cond, ◌&&◌, ◌||◌}
use mathlib.Core.List.{List, [], ◌∷◌, map}
use Prim.Native.Nat.{ℕ, suc, ◌+◌, ◌-◌, ◌*◌, ◌/◌, ◌%◌, ◌≤◌, ◌<◌}
use native.Mathlib.Omega.{arith}
use native.Mathlib.Nat.{div-add-mod'}
use native.Mathlib.Decide.{dec_le}
use borrow.Author.Tests.{ltb-false, leb-false, eqb-false, le-ltb, lt-leb, eq-eqb}
use lib.ListN.{length, get_or, take, drop, length-drop, get_or-eq_default}
use lib.Dec.{ltb, eqb, lit<}
use lib.Seq.{ext_get_or, get_or-take, get_or-drop, length-take-le}
use Rattle.lists.specs.Searched.{some_of, same, keep}
use Rattle.lists.specs.Linked.{Walk, goes}
use Rattle.lists.proofs.Sums.{map_ext}
use Rattle.lists.proofs.Linked.{walk_met, walk_more}
use Rattle.lists.proofs.Strikes.{keep_∈, keep_ext}
use Rattle.lists.proofs.Tests.{within_facts, within_both, or_left, or_right, or_true, below_within, below_clear, to_clear, same_refl}
use Rattle.answers.specs.Answer.{first_that_applies}
use Rattle.answers.specs.Length.{bad_length}
use Rattle.answers.specs.Voice.{bad_voice}
use Rattle.answers.proofs.Refusals.{row_clear, rows_clear, answer_number}
use Rattle.history.specs.Layout.{two_at, records_of, head_of, record_at, next_of, length_of, fourth_of, voice_of, played_of, record_words}
use Rattle.history.specs.Chain.{numbers_from, numbers}
use Rattle.history.specs.Refusals.{bad_size, misfit, bad_record, next_above, bad_link, bad_chain, history_rows, Accepted}
use Rattle.history.specs.Heard.{makes_heard, sentences_in, heard}
use Rattle.history.specs.Playback.{Playback, bad_played, heard_in}
use Rattle.history.specs.Writing.{overwritten, two_bytes, record_bytes, fourth_byte, appended}
use Rattle.history.specs.Answers.{no_room, append_rows, append_of}
use Rattle.history.specs.Logged.{Logged}
use Rattle.history.proofs.Acceptance.{size_room, head_below, known, accept, words_inside, words_length}
use Rattle.history.proofs.Chain.{numbers_inside, chain_length, chained, heard_sentences}
use Rattle.history.proofs.Writing.{record_word, record_length, put_length, put_before, put_in, put_after}

-- what an accepted log has at hand
pub record Logs (h : List ℕ) (p : Playback) : Type 0 where
  pub accepted : Accepted h
  pub some : 1 ≤ length p.words
  pub short : length p.words ≤ 16
  pub fewer : p.played < length p.words
  pub few : records_of h < 1000
  pub room : 4 + 20 * suc (records_of h) ≤ length h

-- a field of two bytes, from what they are
two_bytes_lem : (h : List ℕ) (i x : ℕ) → get_or h i 0 ≡ x % 256 → get_or h (i + 1) 0 ≡ x / 256 → two_at h i ≡ x
unfolding two_at
two_bytes_lem h i x e f = rw (e, f) (omega (arith, div-add-mod' x 256))

-- the parts of the fourth byte
fourth_low : (p : Playback) → p.played < 16 → fourth_byte p % 16 ≡ p.played
fourth_low p l = omega arith

fourth_high : (p : Playback) → p.played < 16 → fourth_byte p / 16 ≡ p.voice
fourth_high p l = omega arith

-- a part of a list, from its entries
part_is : (l s : List ℕ) (at : ℕ) → at + length s ≤ length l → ((i : ℕ) → i < length s → get_or l (at + i) 0 ≡ get_or s i 0) → take (length s) (drop at l) ≡ s
part_is l s at m f =
    let n = length-take-le (length s) (drop at l) (omega (arith, length-drop at l)) in
    ext_get_or 0 (take (length s) (drop at l)) s n
    (λ i k. get_or-take (length s) (drop at l) i 0 (omega (arith, n)) ∙ get_or-drop at l i 0 ∙ f i (omega (arith, n)))

module _ (h : List ℕ) (p : Playback) (log : Logs h p) where
  -- ---- byte by byte

  abbrev K : ℕ
  K = records_of h

  abbrev new : ℕ
  new = suc (records_of h)

  -- with the record, and then with K
  abbrev first : List ℕ
  first = overwritten h (record_at new) (record_bytes (head_of h) (fourth_byte p) p.words)

  abbrev second : List ℕ
  second = overwritten first 0 (two_bytes new)

  record_there : length (record_bytes (head_of h) (fourth_byte p) p.words) ≡ 20
  record_there = record_length (head_of h) (fourth_byte p) p.words log.short

  first_long : length first ≡ length h
  first_long = put_length h (record_at new) (record_bytes (head_of h) (fourth_byte p) p.words) (omega (arith, log.room, record_there))

  second_long : length second ≡ length h
  second_long = put_length first 0 (two_bytes new) (omega (arith, first_long, log.room)) ∙ first_long

  pub long : length (appended h p) ≡ length h
  unfolding appended
  long = put_length second 2 (two_bytes new) (omega (arith, second_long, log.room)) ∙ second_long

  -- past the first four bytes only the record counts
  past : (i : ℕ) → 4 ≤ i → get_or (appended h p) i 0 ≡ get_or first i 0
  unfolding appended
  past i l =
      put_after second 2 (two_bytes new) (omega (arith, second_long, log.room)) i (omega arith)
      ∙ put_after first 0 (two_bytes new) (omega (arith, first_long, log.room)) i (omega arith)

  old_byte : (i : ℕ) → 4 ≤ i → i < record_at new → get_or (appended h p) i 0 ≡ get_or h i 0
  old_byte i l m =
      past i l ∙ put_before h (record_at new) (record_bytes (head_of h) (fourth_byte p) p.words) (omega (arith, log.room, record_there)) i m

  new_byte : (i : ℕ) → i < 20 → get_or (appended h p) (record_at new + i) 0 ≡ get_or (record_bytes (head_of h) (fourth_byte p) p.words) i 0
  new_byte i l =
      past (record_at new + i) (omega arith)
      ∙ put_in h (record_at new) (record_bytes (head_of h) (fourth_byte p) p.words) (omega (arith, log.room, record_there)) i (omega (arith, record_there))

  -- ---- the fields

  count : records_of (appended h p) ≡ new
  unfolding appended
  count =
      let a = put_before second 2 (two_bytes new) (omega (arith, second_long, log.room)) in
      let b = put_in first 0 (two_bytes new) (omega (arith, first_long, log.room)) in
      two_bytes_lem (appended h p) 0 new (a 0 (omega arith) ∙ b 0 (omega arith)) (a 1 (omega arith) ∙ b 1 (omega arith))

  head : head_of (appended h p) ≡ new
  unfolding appended
  head =
      let b = put_in second 2 (two_bytes new) (omega (arith, second_long, log.room)) in
      two_bytes_lem (appended h p) 2 new (b 0 (omega arith)) (b 1 (omega arith))

  old_next : (r : ℕ) → 1 ≤ r → r ≤ K → next_of (appended h p) r ≡ next_of h r
  unfolding two_at
  old_next r l m = rw (old_byte (record_at r) (omega arith) (omega arith), old_byte (record_at r + 1) (omega arith) (omega arith))

  new_next : next_of (appended h p) new ≡ head_of h
  unfolding record_bytes
  new_next =
      let e : record_at new ≡ record_at new + 0 = omega arith in
      two_bytes_lem (appended h p) (record_at new) (head_of h) (ap (λ (k : ℕ). get_or (appended h p) k 0) e ∙ new_byte 0 (omega arith)) (new_byte 1 (omega arith))

  -- ---- the records

  old_fits : (r : ℕ) → 1 ≤ r → r ≤ K → misfit (appended h p) (record_at r) ≡ misfit h (record_at r)
  unfolding misfit
  old_fits r l m =
      let n = get_or h (record_at r + 2) 0 in
      rw (
        old_byte (record_at r + 2) (omega arith) (omega arith),
        old_byte (record_at r + 3) (omega arith) (omega arith),
        below_within (λ i. not (eqb (get_or (appended h p) (record_at r + 4 + n + i) 0) 0)) (λ i. not (eqb (get_or h (record_at r + 4 + n + i) 0) 0))
            (16 - n) (λ i k. ap (λ (b : ℕ). not (eqb b 0)) (old_byte (record_at r + 4 + n + i) (omega arith) (omega arith))),
      )

  -- the word at i of the new record, and past the sentence 0
  new_word : (i : ℕ) → i < 16 → get_or (appended h p) (record_at new + 4 + i) 0 ≡ get_or p.words i 0
  new_word i l =
      let e : record_at new + 4 + i ≡ record_at new + (4 + i) = omega arith in
      let f : 4 + i - 4 ≡ i = omega arith in
      ap (λ (k : ℕ). get_or (appended h p) k 0) e
      ∙ new_byte (4 + i) (omega arith)
      ∙ record_word (head_of h) (fourth_byte p) p.words (4 + i) (omega arith)
      ∙ ap (λ (k : ℕ). get_or p.words k 0) f

  new_length : length_of (appended h p) new ≡ length p.words
  unfolding record_bytes
  new_length = new_byte 2 (omega arith)

  new_fourth : fourth_of (appended h p) new ≡ fourth_byte p
  unfolding record_bytes
  new_fourth = new_byte 3 (omega arith)

  new_played : played_of (appended h p) new ≡ p.played
  new_played = ap (λ (x : ℕ). x % 16) new_fourth ∙ fourth_low p (omega (arith, log.fewer, log.short))

  new_voice : voice_of (appended h p) new ≡ p.voice
  new_voice = ap (λ (x : ℕ). x / 16) new_fourth ∙ fourth_high p (omega (arith, log.fewer, log.short))

  new_fits : misfit (appended h p) (record_at new) ≡ false
  unfolding misfit bad_length
  new_fits =
      let n = length p.words in
      rw (
        new_length,
        within_both 1 16 n log.some log.short,
        new_played,
        lt-leb n p.played log.fewer,
        below_clear (λ i. not (eqb (get_or (appended h p) (record_at new + 4 + n + i) 0) 0)) (16 - n)
            (λ i l.
            let e : record_at new + 4 + n + i ≡ record_at new + 4 + (n + i) = omega arith in
            ap not
            (eq-eqb (get_or (appended h p) (record_at new + 4 + n + i) 0) 0
            (ap (λ (k : ℕ). get_or (appended h p) k 0) e ∙ new_word (n + i) (omega arith) ∙ get_or-eq_default p.words 0 {n = n + i} (omega arith)))),
      )

  -- ---- none of 11 to 14 applies

  sized : bad_size (appended h p) ≡ false
  sized =
      sym (size_room (appended h p) (omega (arith, long, log.room)) (omega (arith, count, log.few)))
      ∙ le-ltb (length (appended h p)) (4 + 20 * records_of (appended h p)) (omega (arith, long, count, log.room))

  -- a fact of each record up to K + 1, from that of the old ones and that of the new one
  each : (P : ℕ → Type 0) → ((r : ℕ) → 1 ≤ r → r ≤ K → P r) → P new → (r : ℕ) → 1 ≤ r → r ≤ records_of (appended h p) → P r
  each P old now r l m =
      elim (dec_le r K) [
        | yes k ↦ old r l k
        | no n ↦ let e : new ≡ r = omega (arith, count) in rw (← e) now
      ]

  fit : bad_record (appended h p) ≡ false
  unfolding bad_record
  fit =
      to_clear (λ r. misfit (appended h p) (record_at r)) (records_of (appended h p))
      (each (λ r. misfit (appended h p) (record_at r) ≡ false) (λ r l m. old_fits r l m ∙ (known h log.accepted).fit r l m) new_fits)

  linked : bad_link (appended h p) ≡ false
  linked =
      let k = known h log.accepted in
      head_below (appended h p) (omega (arith, head, count))
      ∙ to_clear (next_above (appended h p)) (records_of (appended h p))
      (each (λ r. next_above (appended h p) r ≡ false)
      (λ r l m. le-ltb (records_of (appended h p)) (next_of (appended h p) r) (omega (arith, old_next r l m, k.nexts r l m, count)))
      (le-ltb (records_of (appended h p)) (next_of (appended h p) new) (omega (arith, new_next, k.head, count))))

  -- the chain: the new record, then the old chain
  walk : Walk (next_of (appended h p)) (records_of (appended h p)) (head_of (appended h p)) (new ∷ numbers h)
  walk =
      let old = walk_more (next_of h) (next_of (appended h p)) K (records_of (appended h p)) (omega (arith, count)) old_next (chained h log.accepted).over in
      rw head (goes {r = new} {l = numbers h} (omega arith) (omega (arith, count)) (rw new_next old))

  pub chain : numbers (appended h p) ≡ new ∷ numbers h
  unfolding numbers_from
  chain =
      walk_met (next_of (appended h p)) (records_of (appended h p)) walk (records_of (appended h p) + 1) (omega (arith, (chained h log.accepted).many, count))

  chained_still : bad_chain (appended h p) ≡ false
  chained_still =
      chain_length (appended h p) linked
      ∙ ap not (eq-eqb (length (numbers (appended h p))) (records_of (appended h p)) (omega (arith, ap length chain, (chained h log.accepted).many, count)))

  pub accepted : Accepted (appended h p)
  accepted = accept (appended h p) (record { size = sized; records = fit; links = linked; chain = chained_still })

  -- ---- the sentences

  old_words : (r : ℕ) → 1 ≤ r → r ≤ K → record_words (appended h p) r ≡ record_words h r
  unfolding record_words
  old_words r l m =
      let n = words_length h log.accepted r l m in
      let f = words_inside h log.accepted r l m in
      let e : length_of (appended h p) r ≡ length (record_words h r) = old_byte (record_at r + 2) (omega arith) (omega arith) ∙ sym n in
      rw e
      (part_is (appended h p) (record_words h r) (record_at r + 4) (omega (arith, long, n, f.1))
      (λ i j.
      old_byte (record_at r + 4 + i) (omega arith) (omega (arith, n, f.0))
      ∙ sym (get_or-take (length_of h r) (drop (record_at r + 4) h) i 0 (omega (arith, n)) ∙ get_or-drop (record_at r + 4) h i 0)))

  new_words : record_words (appended h p) new ≡ p.words
  unfolding record_words
  new_words =
      rw new_length
      (part_is (appended h p) p.words (record_at new + 4) (omega (arith, long, log.room, log.short)) (λ i l. new_word i (omega (arith, log.short))))

  -- ---- in a voice

  old_makes : (v r : ℕ) → 1 ≤ r → r ≤ K → makes_heard (appended h p) v r ≡ makes_heard h v r
  unfolding makes_heard
  old_makes v r l m = rw (old_byte (record_at r + 3) (omega arith) (omega arith))

  new_makes : (v : ℕ) → makes_heard (appended h p) v new ≡ heard_in p v
  unfolding makes_heard
  new_makes v = rw (new_voice, new_played)

  -- the old records that make heard, as they were
  old_told : (v : ℕ) → map (record_words (appended h p)) (keep (makes_heard (appended h p) v) (numbers h)) ≡ sentences_in h v
  old_told v =
      ap (map (record_words (appended h p)))
      (keep_ext (makes_heard (appended h p) v) (makes_heard h v) (numbers h) (λ r m. let q = numbers_inside h (head_of h) m in old_makes v r q.0 q.1))
      ∙ map_ext (record_words (appended h p)) (record_words h) (keep (makes_heard h v) (numbers h))
      (λ r m. let q = numbers_inside h (head_of h) (keep_∈ (makes_heard h v) (numbers h) r m).0 in old_words r q.0 q.1)

  told : (v : ℕ) → sentences_in (appended h p) v ≡ cond (heard_in p v) (p.words ∷ sentences_in h v) (sentences_in h v)
  told v =
      ap (λ (l : List ℕ). map (record_words (appended h p)) (keep (makes_heard (appended h p) v) l)) chain
      ∙ rw (new_makes v) (go (heard_in p v))
    where
      rest : List ℕ
      rest = keep (makes_heard (appended h p) v) (numbers h)

      go : (b : Bool) → map (record_words (appended h p)) (cond b (new ∷ rest) rest) ≡ cond b (p.words ∷ sentences_in h v) (sentences_in h v)
      go true = rw (new_words, old_told v)
      go false = old_told v

  heard_after : (v : ℕ) (s : List ℕ) → heard (appended h p) v s ≡ ((heard_in p v && same p.words s) || heard h v s)
  heard_after v s =
      heard_sentences (appended h p) accepted v s
      ∙ ap (some_of (λ t. same t s)) (told v)
      ∙ go (heard_in p v)
    where
      go : (b : Bool) → some_of (λ t. same t s) (cond b (p.words ∷ sentences_in h v) (sentences_in h v)) ≡ ((b && same p.words s) || heard h v s)
      go true = ap (λ (b : Bool). same p.words s || b) (sym (heard_sentences h log.accepted v s))
      go false = sym (heard_sentences h log.accepted v s)

-- ---- the law

-- a log that isn't refused has what it needs
pub logs : (h : List ℕ) (p : Playback) → (append_of h p).refusal ≡ 0 → Logs h p
unfolding append_of bad_length no_room
logs h p e =
    let none = sym (answer_number (first_that_applies (append_rows h p)) (suc (records_of h) ∷ []) h (appended h p)) ∙ e in
    let a = row_clear 9 _ (bad_length (length p.words)) (lit< tt) none in
    let d = row_clear 22 _ (bad_voice p.voice) (lit< tt) a.1 in
    let f = row_clear 23 _ (bad_played p) (lit< tt) d.1 in
    let b = rows_clear (history_rows h) ((no_room h, 19) ∷ []) refl f.1 in
    let full = eqb (records_of h) 1000 in
    let close = ltb (length h) (4 + 20 * suc (records_of h)) in
    let c = (row_clear 19 [] (no_room h) (lit< tt) b.1).0 in
    let l = within_facts 1 16 (length p.words) a.0 in
    record {
      accepted = b.0;
      some = l.0;
      short = l.1;
      fewer = leb-false (length p.words) p.played f.0;
      few = below (records_of h) (known h b.0).sized.few (eqb-false (records_of h) 1000 (or_left full close c));
      room = ltb-false (length h) (4 + 20 * suc (records_of h)) (or_right full close c);
    }
  where
    below : (k : ℕ) → k ≤ 1000 → (k ≡ 1000 → ⊥) → k < 1000
    below k l n = omega arith

pub logged : (h : List ℕ) (p : Playback) → (append_of h p).refusal ≡ 0 → Logged h p
logged h p e =
    let log = logs h p e in
    let after = heard_after h p log in
    record {
      accepted = accepted h p log;
      count = count h p log;
      tells = rw (new_words h p log, new_voice h p log, new_played h p log);
      chain = chain h p log;
      kept = λ r i l m k. old_byte h p log (record_at r + i) (omega arith) (omega arith);
      sentences = told h p log;
      after = after;
      new = λ full. after p.voice p.words ∙ rw (eq-eqb p.voice p.voice refl, eq-eqb p.played 0 full, same_refl p.words);
      still = λ v s t. after v s ∙ or_true (heard_in p v && same p.words s) (heard h v s) t;
    }
