-- The draw by weights. Demand 3's premises, and what 24 and 25 leave of the weights, hold exactly where none of the lines before 16 applies; then the
-- answer is read off the ticket list: the owner of ticket t, or refused 16 past its end. Two histories that bar the same sentences of the length leave
-- the same tickets and meet the same refusal. Where all weights are 1, 24 and 25 change no refusal, and the ticket list is the unheard list.
-- Assumes nothing.
use mathlib.Core.Path.{◌≡◌, refl, sym, ap, ◌∙◌}
use mathlib.Core.Logic.{◌↔◌, ◌⊎◌, inl, inr}
use mathlib.Core.Bool.{Bool, true, false}
use mathlib.Core.List.{List, [], ◌∷◌, ◌++◌}
use Prim.Native.Nat.{ℕ, ◌+◌, ◌≤◌, ◌<◌}
use native.Mathlib.Omega.{arith}
use native.Mathlib.Decide.{dec_le, ℕ_discrete}
use lib.ListN.{length, drop}
use lib.Seq.{take_at, drop_at}
use lib.Dec.{ltb, leb}
use Rattle.lists.specs.Joined.{◌∈◌, At}
use Rattle.lists.specs.Ordered.{Distinct}
use Rattle.lists.proofs.Members.{get_or_∈, ∈_place, At_∈}
use Rattle.lists.proofs.Orders.{pairwise_distinct}
use Rattle.lists.proofs.Places.{map_up_from}
use Rattle.lists.proofs.Owners.{tickets_plain}
use Rattle.lists.proofs.Struck.{tickets_ext}
use Rattle.answers.specs.Answer.{Answer, Row, first_that_applies, given, refused, answer_of}
use Rattle.answers.specs.Length.{bad_length}
use Rattle.answers.specs.Voice.{bad_voice}
use Rattle.answers.proofs.Refusals.{row_passed, row_clear, rows_stop, rows_pass, rows_clear, rows_tail, rows_lack, answer_refused}
use Rattle.grammar.specs.Layout.{words}
use Rattle.grammar.specs.Chains.{chain}
use Rattle.grammar.specs.Refusals.{grammar_rows}
use Rattle.grammar.specs.Trees.{sentence, Before}
use Rattle.grammar.proofs.Enumeration.{sentence_size, derives_size}
use Rattle.grammar.proofs.Order.{before_irrefl}
use Rattle.counting.specs.Refusals.{too_large}
use Rattle.ranking.specs.Demand2.{HasNumber}
use Rattle.history.specs.Refusals as history
use Rattle.history.specs.Heard.{heard}
use Rattle.sampling.specs.Pattern.{bad_pattern}
use Rattle.sampling.specs.Question.{plainly}
use Rattle.sampling.specs.Unheard.{Entry, unheard, ambiguous}
use Rattle.sampling.specs.Answers.{asked_rows, remaining_rows}
use Rattle.sampling.specs.Demand3.{Premises, Worded, shown, as_shown, Demand3, SameBarred}
use Rattle.sampling.proofs.Barred.{entry, no_entry}
use Rattle.sampling.proofs.Listed.{entry_at, last_rows, draw_from, from_beyond, from_accepted, from_refusal, from_passed, from_short}
use Rattle.sampling.proofs.Premises.{premises_pass, pass_premises}
use Rattle.sampling.proofs.Demand3.{demand_3, draw_is, draw_refused, unheard_same, ambiguous_same}
use Rattle.weighing.specs.Weights.{weighs, bad_weights, too_heavy, tickets_of}
use Rattle.weighing.specs.Weighted.{weighed_rows, weighted_rows, owner_of, draw_weighted, Weighty, Holding, NotRefused, Weighted, AllOnes}
use Rattle.weighing.proofs.Tickets.{tickets_∈, ordered_at, first_at, own_tickets}
use Rattle.weighing.proofs.Weighing.{weighty_good, weighty_light, left_weighty, derived_some, derived_one, ones, ones_weighty}

-- ---- the lines before 16

-- 24 and 25
abbrev new_rows : (g : List ℕ) (n : ℕ) (weights : List ℕ) → List Row
new_rows g n weights = (bad_weights (words g) weights, 24) ∷ (too_heavy g n weights, 25) ∷ []

-- 11 to 15
abbrev later_rows : (g h : List ℕ) (n v : ℕ) → List Row
later_rows g h n v = history.history_rows h ++ ((ambiguous g h (plainly n v), 15) ∷ [])

-- there is no pattern, so 21 doesn't apply
worded : (g : List ℕ) (n v : ℕ) → Worded g (plainly n v)
unfolding bad_pattern
worded g n v = refl

module _ (g h : List ℕ) (n v : ℕ) (weights : List ℕ) where
  -- where 24 and 25 don't apply, what does is what applies to *Left*
  weighty_rows : Weighty g n weights → first_that_applies (weighted_rows g h n v weights) ≡ first_that_applies (remaining_rows g h (plainly n v))
  weighty_rows w =
      let later = later_rows g h n v in
      rows_tail (asked_rows g (plainly n v)) (new_rows g n weights ++ later) later
      (row_passed 24 ((too_heavy g n weights, 25) ∷ later) (weighty_good g n weights w) ∙ row_passed 25 later (weighty_light g n weights w))

  pub holding_pass : Holding g h n v weights → first_that_applies (weighted_rows g h n v weights) ≡ 0
  holding_pass p = weighty_rows p.1 ∙ premises_pass g h (plainly n v) p.0 (worded g n v)

  pass_holding : first_that_applies (weighted_rows g h n v weights) ≡ 0 → Holding g h n v weights
  pass_holding e =
      let later = later_rows g h n v in
      let b = rows_clear (asked_rows g (plainly n v)) (new_rows g n weights ++ later) refl e in
      let c = row_clear 24 ((too_heavy g n weights, 25) ∷ later) (bad_weights (words g) weights) (omega arith) b.1 in
      let d = row_clear 25 later (too_heavy g n weights) (omega arith) c.1 in (
        (pass_premises g h (plainly n v) (rows_pass (asked_rows g (plainly n v)) later refl b.0 ∙ d.1)).0,
        left_weighty g n weights c.0 d.0,
      )

-- ---- what is answered

-- of 16 and 20, one applies or none
last_cases : (b c : Bool) → let r = first_that_applies ((b, 16) ∷ (c, 20) ∷ []) in (r ≡ 0) ⊎ ((r ≡ 16) ⊎ (r ≡ 20))
unfolding first_that_applies
last_cases true c = inr (inl refl)
last_cases false true = inr (inr refl)
last_cases false false = inl refl

module _ (g h : List ℕ) (n v : ℕ) (weights : List ℕ) (t : ℕ) (out : List ℕ) where
  abbrev tickets : List Entry
  tickets = tickets_of g h n v weights

  -- no earlier line applies: the answer is read off the ticket list
  pub drawn_from : first_that_applies (weighted_rows g h n v weights) ≡ 0 → draw_weighted g h n v weights t out ≡ draw_from n t out tickets
  unfolding draw_weighted
  drawn_from e =
      ap (λ (r : ℕ). answer_of r (length tickets ∷ (owner_of g h n v weights t).number ∷ []) out (sentence (owner_of g h n v weights t).tree ++ drop n out))
      (rows_pass (weighted_rows g h n v weights) (last_rows n t out tickets) refl e)

  -- one applies: it refuses
  pub drawn_refused : 0 < first_that_applies (weighted_rows g h n v weights)
      → draw_weighted g h n v weights t out ≡ refused (first_that_applies (weighted_rows g h n v weights)) 2 out
  unfolding draw_weighted
  drawn_refused some =
      let figures = length tickets ∷ (owner_of g h n v weights t).number ∷ [] in
      let after = sentence (owner_of g h n v weights t).tree ++ drop n out in
      ap (λ (r : ℕ). answer_of r figures out after) (rows_stop (weighted_rows g h n v weights) (last_rows n t out tickets) some)
      ∙ answer_refused (first_that_applies (weighted_rows g h n v weights)) figures out after some

  holding_drawn : Holding g h n v weights → NotRefused (draw_weighted g h n v weights t out)
  holding_drawn p =
      let e = ap (λ (x : Answer). x.refusal) (drawn_from (holding_pass g h n v weights p)) ∙ from_refusal n t out tickets in
      rw e (last_cases (leb (length tickets) t) (ltb (length out) n))

  -- no earlier line has the number 16 or 20
  drawn_holding : NotRefused (draw_weighted g h n v weights t out) → Holding g h n v weights
  drawn_holding q =
      let rows = weighted_rows g h n v weights in
      elim (ℕ_discrete (first_that_applies rows) 0) [
        | yes e ↦ pass_holding g h n v weights e
        | no e ↦
            let r = ap (λ (x : Answer). x.refusal) (drawn_refused (omega arith)) in
            elim q [
              | inl z ↦ absurd (e (sym r ∙ z))
              | inr (inl z) ↦ absurd (rows_lack 16 rows (omega arith) refl (sym r ∙ z))
              | inr (inr z) ↦ absurd (rows_lack 20 rows (omega arith) refl (sym r ∙ z))
            ]
      ]

  pub holding : Holding g h n v weights ↔ NotRefused (draw_weighted g h n v weights t out)
  holding = (holding_drawn, drawn_holding)

-- ---- the tickets' owners

-- what an entry weighs
abbrev weighed : (weights : List ℕ) → Entry → ℕ
weighed weights e = weighs weights (sentence e.tree)

module _ (g h : List ℕ) (n v : ℕ) (weights : List ℕ) (p : Holding g h n v weights) where
  abbrev list : List Entry
  list = unheard g h (plainly n v)

  abbrev plain : Demand3 g h (plainly n v)
  plain = demand_3 g h (plainly n v) p.0 (worded g n v)

  -- no entry stands twice
  unheard_once : Distinct list
  unheard_once =
      pairwise_distinct (λ (e f : Entry). Before e.tree f.tree) (λ e f b z. before_irrefl b (ap (λ (x : Entry). x.tree) z)) list plain.ordered

  -- what stands in the ticket list is an unheard derivation
  ticket_has : (e : Entry) → e ∈ tickets_of g h n v weights → HasNumber g n e.tree e.number × (heard h v (sentence e.tree) ≡ false)
  unfolding tickets_of
  ticket_has e m = let q = (plain.entries e).0 (tickets_∈ (weighed weights) list m) in (q.0, q.2)

  -- and each owns what it weighs
  has_tickets : (e : Entry) → HasNumber g n e.tree e.number → heard h v (sentence e.tree) ≡ false
      → (first : ℕ) × (1 ≤ weighed weights e) × ((t : ℕ) → At (tickets_of g h n v weights) t e ↔ ((first ≤ t) × (t < first + weighed weights e)))
  unfolding tickets_of
  has_tickets e has un =
      let i = ∈_place list ((plain.entries e).1 (has, refl, un)) in (
        first_at (weighed weights) list i.0,
        derived_some g p.0.bank weights p.1 has.derivation,
        own_tickets (weighed weights) list unheard_once e i.0 i.2,
      )

  tickets_order : (t u : ℕ) (e f : Entry) → At (tickets_of g h n v weights) t e → At (tickets_of g h n v weights) u f → t < u → (e ≡ f) ⊎ Before e.tree f.tree
  unfolding tickets_of
  tickets_order = ordered_at (weighed weights) (λ (e f : Entry). Before e.tree f.tree) list plain.ordered

  -- ---- the call, ticket by ticket

  module _ (t : ℕ) (out : List ℕ) where
    abbrev owner : Entry
    owner = entry_at (tickets_of g h n v weights) t

    -- the owner's sentence has the length
    owner_long : t < length (tickets_of g h n v weights) → length (sentence owner.tree) ≡ n
    owner_long k =
        sentence_size owner.tree
        ∙ derives_size (chain g) (ticket_has owner (get_or_∈ (tickets_of g h n v weights) t (entry no_entry) k)).0.derivation

    drawn_is : draw_weighted g h n v weights t out ≡ draw_from n t out (tickets_of g h n v weights)
    drawn_is = drawn_from g h n v weights t out (holding_pass g h n v weights p)

    drawn_accepted : t < length (tickets_of g h n v weights) → n ≤ length out
        → draw_weighted g h n v weights t out ≡ given (length (tickets_of g h n v weights) ∷ owner.number ∷ []) (sentence owner.tree ++ drop n out)
    drawn_accepted k l = drawn_is ∙ from_accepted n t out (tickets_of g h n v weights) (from_passed n t out (tickets_of g h n v weights) k l)

    drawn_figures : (draw_weighted g h n v weights t out).refusal ≡ 0
        → (d : ℕ) × ((draw_weighted g h n v weights t out).figures ≡ length (tickets_of g h n v weights) ∷ d ∷ [])
    drawn_figures ok =
        let e = sym (from_refusal n t out (tickets_of g h n v weights)) ∙ ap (λ (x : Answer). x.refusal) (sym drawn_is) ∙ ok in
        (owner.number, ap (λ (x : Answer). x.figures) (drawn_is ∙ from_accepted n t out (tickets_of g h n v weights) e))

    drawn_shown : t < length (tickets_of g h n v weights) → n ≤ length out → shown n (draw_weighted g h n v weights t out) ≡ as_shown owner
    drawn_shown k l = rw (drawn_accepted k l, take_at (sentence owner.tree) (drop n out) n (owner_long k))

    drawn_kept : drop n (draw_weighted g h n v weights t out).buffer ≡ drop n out
    drawn_kept =
        elim (dec_le (length (tickets_of g h n v weights)) t) [
          | yes b ↦ ap (λ (x : Answer). drop n x.buffer) (drawn_is ∙ from_beyond n t out (tickets_of g h n v weights) b)
          | no b ↦
              elim (dec_le n (length out)) [
                | yes l ↦
                    ap (λ (x : Answer). drop n x.buffer) (drawn_accepted (omega arith) l)
                    ∙ drop_at (sentence owner.tree) (drop n out) n (owner_long (omega arith))
                | no l ↦ ap (λ (x : Answer). drop n x.buffer) (drawn_is ∙ from_short n t out (tickets_of g h n v weights) (omega arith) (omega arith))
              ]
        ]

  pub weighted : Weighted g h n v weights
  weighted =
      record {
        owners = λ t e a. ticket_has e (At_∈ (tickets_of g h n v weights) t a);
        owned = has_tickets;
        ordered = tickets_order;
        figures = drawn_figures;
        accepted = λ t out k l. ap (λ (x : Answer). x.refusal) (drawn_accepted t out k l);
        draws = λ out l. map_up_from (λ t. shown n (draw_weighted g h n v weights t (out t))) as_shown 0 (tickets_of g h n v weights) (entry no_entry)
            (λ t k. let e : 0 + t ≡ t = omega arith in rw e (drawn_shown t (out t) k (l t)));
        kept = drawn_kept;
        beyond = λ t out b. drawn_is t out ∙ from_beyond n t out (tickets_of g h n v weights) b;
      }

-- ---- two histories

module _ (g h h' : List ℕ) (n v : ℕ) (weights : List ℕ) (diary : history.Accepted h) (diary' : history.Accepted h') (bars : SameBarred g h h' (plainly n v)) where
  tickets_same : tickets_of g h n v weights ≡ tickets_of g h' n v weights
  unfolding tickets_of
  tickets_same = rw (unheard_same g h h' (plainly n v) bars)

  -- 15 applies to both or to neither, so the same line does, whatever follows
  rows_same : (rows : List Row) → first_that_applies (weighted_rows g h n v weights ++ rows) ≡ first_that_applies (weighted_rows g h' n v weights ++ rows)
  rows_same rows =
      let after : Bool → List Row = λ b. (b, 15) ∷ rows in
      let b = ambiguous g h (plainly n v) in
      let b' = ambiguous g h' (plainly n v) in
      rows_tail (weighed_rows g n v weights) (history.history_rows h ++ after b) (history.history_rows h' ++ after b')
      (rows_pass (history.history_rows h) (after b) refl diary
      ∙ ap (λ (c : Bool). first_that_applies (after c)) (ambiguous_same g h h' (plainly n v) diary diary' bars)
      ∙ sym (rows_pass (history.history_rows h') (after b') refl diary'))

  pub weighted_alike : (t : ℕ) (out : List ℕ) → draw_weighted g h n v weights t out ≡ draw_weighted g h' n v weights t out
  unfolding draw_weighted
  weighted_alike t out = rw (tickets_same, rows_same (last_rows n t out (tickets_of g h' n v weights)))

-- ---- all weights 1

module _ (g h : List ℕ) (n v : ℕ) where
  -- the tickets are the unheard list
  ones_tickets : Premises g h (plainly n v) → tickets_of g h n v (ones g) ≡ unheard g h (plainly n v)
  unfolding tickets_of
  ones_tickets p =
      let all = unheard g h (plainly n v) in
      tickets_ext (weighed (ones g)) (λ (e : Entry). 1) all
      (λ e m. derived_one g p.bank (((demand_3 g h (plainly n v) p (worded g n v)).entries e).0 m).0.derivation)
      ∙ tickets_plain all

  -- where none of the lines 1 to 10 and 22 applies, neither do 24 and 25
  asked_weighty : first_that_applies (asked_rows g (plainly n v)) ≡ 0 → Weighty g n (ones g)
  asked_weighty e =
      let last : List Row = (bad_pattern (words g) [], 21) ∷ [] in
      let rest : List Row = (bad_voice v, 22) ∷ (too_large g n, 10) ∷ last in
      let b = rows_clear (grammar_rows g) ((bad_length n, 9) ∷ rest) refl e in
      let c = row_clear 9 rest (bad_length n) (omega arith) b.1 in
      let d = row_clear 22 ((too_large g n, 10) ∷ last) (bad_voice v) (omega arith) c.1 in
      ones_weighty g b.0 n (row_clear 10 last (too_large g n) (omega arith) d.1).0

  -- so before 16 the same line applies as to the plain draw
  ones_rows : first_that_applies (weighted_rows g h n v (ones g)) ≡ first_that_applies (remaining_rows g h (plainly n v))
  ones_rows =
      let rows = asked_rows g (plainly n v) in
      let later = later_rows g h n v in
      elim (ℕ_discrete (first_that_applies rows) 0) [
        | yes e ↦ weighty_rows g h n v (ones g) (asked_weighty e)
        | no e ↦ rows_stop rows (new_rows g n (ones g) ++ later) (omega arith) ∙ sym (rows_stop rows later (omega arith))
      ]

  pub all_ones : AllOnes g h n v
  all_ones t out =
      elim (ℕ_discrete (first_that_applies (remaining_rows g h (plainly n v))) 0) [
        | yes e ↦
            let p = (pass_premises g h (plainly n v) e).0 in
            drawn_from g h n v (ones g) t out (ones_rows ∙ e)
            ∙ ap (draw_from n t out) (ones_tickets p)
            ∙ sym (draw_is g h (plainly n v) p (worded g n v) t out)
        | no e ↦
            drawn_refused g h n v (ones g) t out (omega (arith, ones_rows))
            ∙ ap (λ (r : ℕ). refused r 2 out) ones_rows
            ∙ sym (draw_refused g h (plainly n v) (omega arith) t out)
      ]
