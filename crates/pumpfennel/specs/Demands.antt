-- The three demands and the examples P1 to P10, as one statement about the calls' definitions. Each call of src/lib.rt promises that it
-- answers just what its definition says, and requires nothing; that no call faults or runs on is proved of the code itself.
-- Assumes nothing: these are definitions.
use Rattle.std.specs.Prelude.{◌≡◌, ◌↔◌, ◌≢◌, true, false, cond, List, [], ◌∷◌, map, ℕ, ◌+◌, ◌*◌, ◌≤◌, ◌<◌, length, take, replicate}
use Rattle.answers.specs.Answer.{Row, Answer, first_that_applies}
use Rattle.grammar.specs.Refusals as grammar
use Rattle.grammar.specs.Refusals.{grammar_rows}
use Rattle.grammar.specs.Answers.{check_grammar}
use Rattle.counting.specs.Refusals.{Ten, prepared_rows}
use Rattle.counting.specs.Answers.{count_of}
use Rattle.history.specs.Layout.{records_of}
use Rattle.history.specs.Refusals as history
use Rattle.history.specs.Refusals.{history_rows}
use Rattle.history.specs.Answers.{check_history, no_room, append_rows, append_of}
use Rattle.history.specs.Heard.{heard}
use Rattle.history.specs.Playback.{Playback}
use Rattle.history.specs.Writing.{appended}
use Rattle.history.specs.Logged.{Logged}
use Rattle.ranking.specs.Answers.{total_of, unrank_rows, unrank_of, rank_rows, rank_of}
use Rattle.ranking.specs.Demand2.{Demand2}
use Rattle.sampling.specs.Question.{Question, plainly}
use Rattle.sampling.specs.Unheard.{unheard, Fifteen}
use Rattle.sampling.specs.Answers.{remaining_rows, remaining_to, remaining_matching, draw_rows, draw_to}
use Rattle.sampling.specs.Blanks.{AllBlank, NoBlank, Full, Unpatterned}
use Rattle.sampling.specs.Demand3.{Single, Premises, Worded, Shown, shown, as_shown, Demand3, Once, SameBarred, Alike}
use Rattle.sampling.specs.Examples.{Examples, Matched, F, G, heard01, heard_twice, heard_in_five, broken_off}
use Rattle.weighing.specs.Weights.{TwentyFive}
use Rattle.weighing.specs.Weighted.{draw_weighted_rows, draw_weighted, Holding, NotRefused, Weighted, AllOnes, Instance}
use Rattle.matrix.specs.Table.{table}
use Rattle.pumpfennel.specs.Former.{FormerVoices, FormerPlaybacks, FormerNumbers, FormerAnswers}
use Rattle.pumpfennel.specs.OneMore.{log_of, Round, OneMore, Rounds, InOrder, Met}

-- ---- demand 1: "The first fitting refusal of its list is returned, every figure zero, every lent buffer unchanged."

-- an answer by a list of refusals, with so many figures and a lent buffer
pub record Refuses (rows : List Row) (count : ℕ) (before : List ℕ) (a : Answer) : Type 0 where
  pub first : a.refusal ≡ first_that_applies rows
  pub figures : 0 < a.refusal → a.figures ≡ replicate count 0
  pub buffer : 0 < a.refusal → a.buffer ≡ before

pub record Demand1 : Type 0 where
  pub check_bank : (g : List ℕ) → Refuses (grammar_rows g) 2 [] (check_grammar g)
  pub check_diary : (h : List ℕ) → Refuses (history_rows h) 1 [] (check_history h)
  pub count : (g : List ℕ) (n : ℕ) → Refuses (prepared_rows g n) 1 [] (count_of g n)
  pub give : (g : List ℕ) (n d : ℕ) (out : List ℕ) → Refuses (unrank_rows g n d out) 1 out (unrank_of g n d out)
  pub number : (g s : List ℕ) → Refuses (rank_rows g s) 3 [] (rank_of g s)
  pub left : (g h : List ℕ) (a : Question) → Refuses (remaining_rows g h a) 3 [] (remaining_to g h a)
  pub draw : (g h : List ℕ) (a : Question) (q : ℕ) (out : List ℕ) → Refuses (draw_rows g h a q out) 2 out (draw_to g h a q out)
  pub draw_weighted_lem : (g h : List ℕ) (n v : ℕ) (weights : List ℕ) (t : ℕ) (out : List ℕ)
      → Refuses (draw_weighted_rows g h n v weights t out) 2 out (draw_weighted g h n v weights t out)
  pub log : (h : List ℕ) (p : Playback) → Refuses (append_rows h p) 1 h (append_of h p)

-- ---- the house matrix bank: "It has 100,000 sentences of length 5 and none of another length."

pub record House : Type 0 where
  pub accepted : grammar.Accepted table
  pub five : total_of table 5 ≡ 100000
  pub others : (m : ℕ) → m ≢ 5 → total_of table m ≡ 0
  -- no two derivations have one sentence: so these are sentences, and not only derivations
  pub single : (s : List ℕ) → Single table s

-- ---- all of them

pub record Demands : Type 0 where
  pub one : Demand1
  pub two : (g : List ℕ) → Demand2 g
  pub three : (g h : List ℕ) (a : Question) → Premises g h a → Worded g a → Demand3 g h a
  -- where no sentence of the length has two derivations, each unheard derivable sentence that fits comes exactly once
  pub once : (g h : List ℕ) (a : Question) → Premises g h a → Worded g a → ((s : List ℕ) → length s ≡ a.length → Single g s)
      → (out : ℕ → List ℕ) → ((q : ℕ) → a.length ≤ length (out q)) → Once g h a out
  -- "For two such diaries that bar the same sentences of length n, *Left* gives the same figures. For every q, *Draw* gives the same": that they are
  -- accepted suffices, with every grammar and length, refusals included
  pub alike : (g h h' : List ℕ) (a : Question) → history.Accepted h → history.Accepted h' → SameBarred g h h' a → Alike g h h' a
  -- the premises, with that 21 doesn't apply, are no more than that *Left* isn't refused
  pub premises : (g h : List ℕ) (a : Question) → ((Premises g h a × Worded g a) ↔ ((remaining_to g h a).refusal ≡ 0))
  -- without a pattern T, heard and the unheard list are document 01's. "A pattern of blanks only must agree with the plain draw. For a pattern without
  -- blanks, left is how many derivations that sentence has, or 0 if it is heard." (document 02, U1)
  pub unpatterned : (g h : List ℕ) (n v : ℕ) → Unpatterned g h n v
  pub all_blank : (g h : List ℕ) (n v : ℕ) → AllBlank g h n v
  pub no_blank : (g h pattern : List ℕ) (v : ℕ) → Full pattern → (remaining_matching g h pattern v).refusal ≡ 0 → NoBlank g h pattern v
  -- "Every unheard derivation must own exactly its weight in tickets. All weights 1 means the plain draw." (document 02, U7) What is supposed is no more
  -- than that the call isn't refused, but by 16 or 20; histories that bar the same sentences have the same tickets; 25 is about needed pairs
  pub weighted : (g h : List ℕ) (n v : ℕ) (weights : List ℕ) → Holding g h n v weights → Weighted g h n v weights
  pub holding : (g h : List ℕ) (n v : ℕ) (weights : List ℕ) (t : ℕ) (out : List ℕ) → Holding g h n v weights ↔ NotRefused (draw_weighted g h n v weights t out)
  pub weighted_alike : (g h h' : List ℕ) (n v : ℕ) (weights : List ℕ) → history.Accepted h → history.Accepted h' → SameBarred g h h' (plainly n v)
      → (t : ℕ) (out : List ℕ) → draw_weighted g h n v weights t out ≡ draw_weighted g h' n v weights t out
  pub all_ones : (g h : List ℕ) (n v : ℕ) → AllOnes g h n v
  pub twenty_five : (g : List ℕ) (n : ℕ) (weights : List ℕ) → TwentyFive g n weights
  -- what an accepted *Log* does to the history's meaning: the sentence, if it was played in full, is heard in its voice then, and what was heard in any
  -- voice still is. One that was broken off leaves every answer of *Left* and *Draw* as it was (document 02, U5), by tickets too.
  pub logged : (h : List ℕ) (p : Playback) → (append_of h p).refusal ≡ 0 → Logged h p
  pub broken_off_lem : (h : List ℕ) (p : Playback) → (append_of h p).refusal ≡ 0 → p.played ≢ 0 → (g : List ℕ) (a : Question) → Alike g (appended h p) h a
  pub weighted_broken_off : (h : List ℕ) (p : Playback) → (append_of h p).refusal ≡ 0 → p.played ≢ 0
      → (g : List ℕ) (n v : ℕ) (weights : List ℕ) (t : ℕ) (out : List ℕ) → draw_weighted g (appended h p) n v weights t out ≡ draw_weighted g h n v weights t out
  -- "Suppose draw q gives a sentence with just one derivation, and that sentence is logged in the same voice, played in full. If the log is accepted, left
  -- falls by one", and every draw is as before or as the next one was (document 02, U14). Only 19 can refuse that log.
  pub one_more : (g h : List ℕ) (a : Question) (q : ℕ) (x : Shown) → Round g h a q x → OneMore g h (log_of h a x.words).buffer a q
  pub only_19 : (g h : List ℕ) (a : Question) (q : ℕ) (out : List ℕ) → (draw_to g h a q out).refusal ≡ 0
      → (log_of h a (shown a.length (draw_to g h a q out)).words).refusal ≡ cond (no_room h) 19 0
  -- so draw 0, logged and drawn again, gives the unheard list in order, each sentence once; where no sentence of the length has two derivations this goes
  -- on as long as something is left and there is room
  pub in_order : (g h : List ℕ) (a : Question) (l : List Shown) → (remaining_to g h a).refusal ≡ 0 → Rounds g a h l → InOrder g h a l
  pub goes_on : (g h : List ℕ) (a : Question) (k : ℕ) → (remaining_to g h a).refusal ≡ 0 → ((s : List ℕ) → length s ≡ a.length → Single g s)
      → k ≤ length (unheard g h a) → records_of h + k ≤ 1000 → 4 + 20 * (records_of h + k) ≤ length h → Rounds g a h (map as_shown (take k (unheard g h a)))
  -- "Old diaries read as voice 0" (document 02, U4)
  pub voices : FormerVoices
  -- a history without a record that was broken off has its former answers (document 02, U5)
  pub playbacks : FormerPlaybacks
  -- "10 applies exactly if the count of a needed pair is above 2^64 - 1", and "Every call that did not return 10 has its former answer" (document 02, U2)
  pub ten : (g : List ℕ) (n : ℕ) → Ten g n
  pub former : FormerAnswers
  -- "A sentence with one derivation has its former number", and "Refusal 15 is returned for the same diaries, by way of the new figure" (document 02, U6)
  pub numbers : FormerNumbers
  pub fifteen : (g h : List ℕ) (a : Question) → (count_of g a.length).refusal ≡ 0 → history.Accepted h → Fifteen g h a
  -- there is such a grammar, history and length, one with a record in another voice, one with a sentence of two derivations broken off, which isn't
  -- heard, one with a pattern and one with weights; there are draws that U14 speaks of; there are two histories that bar the same; and the house bank is as document 01
  -- says, so that with every accepted history and in every voice each of its unheard sentences comes exactly once
  pub instance : Premises F heard01 (plainly 2 0)
  pub voiced : Premises F heard_in_five (plainly 2 5) × (heard heard_in_five 5 (0 ∷ 1 ∷ []) ≡ true)
  pub broken : Premises G broken_off (plainly 3 0) × (heard broken_off 0 (0 ∷ 0 ∷ 0 ∷ []) ≡ false)
  pub matched : Matched
  pub weighed : Instance
  pub met : Met
  pub logged_twice : history.Accepted heard01 × history.Accepted heard_twice × SameBarred F heard01 heard_twice (plainly 2 0)
  pub house : House
  pub house_once : (h : List ℕ) (v : ℕ) → history.Accepted h → v ≤ 15 → (out : ℕ → List ℕ) → ((q : ℕ) → 5 ≤ length (out q)) → Once table h (plainly 5 v) out
  -- P1 to P10
  pub examples : Examples
