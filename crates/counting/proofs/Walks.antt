-- The walk over a nonterminal's sentences: a single word, a rule and a left length, two halves.
-- Assumes nothing.
use mathlib.Core.Path.{◌≡◌, sym, ◌∙◌}
use mathlib.Core.List.{List, [], ◌∷◌, ◌++◌}
use Prim.Native.Nat.{ℕ, ◌+◌, ◌*◌, ◌-◌, ◌/◌, ◌%◌, ◌≤◌, ◌<◌}
use native.Mathlib.Omega.{arith}
use native.Mathlib.Nat.{mod-lt, mul-le-mul_right}
use Rattle.lists.specs.Joined.{sum_over, combine}
use Rattle.lists.proofs.Sums.{sum_combine}
use Rattle.grammar.specs.Chains.{Rule, words_of}
use Rattle.counting.specs.Totals.{total}
use Rattle.counting.specs.Inner.Sentences.{sentences, weight}
use Rattle.counting.proofs.Sentences.{sentences_one, sentence_length}
use Rattle.counting.proofs.Counts.{weight_append, total_sum}
use Rattle.lists.specs.Inner.Tickets.{Owns, Product}
use Rattle.counting.specs.Inner.Owned.{OwnedAs, halves_total, InHalves, HalvesAs, ChosenAs}
use Rattle.lists.proofs.Owners.{owns_inside, owns_map, owns_ext}
use Rattle.lists.proofs.Parts.{part_owns, part_total, part_size}
use Rattle.lists.proofs.Products.{product_some, product_left, product_right, product_owns, product_weight, product_measure}

module _ (rules : ℕ → List Rule) where
  -- ---- two halves

  -- a sentence weighs the product of what its halves weigh
  pub halves_product : (v : ℕ → ℕ → ℕ) (B C p m k : ℕ)
      → Product ◌++◌ (weight v p) (weight v p) (weight v (p + k)) (sentences rules B k) (sentences rules C (m - k))
  halves_product v B C p m k = record { each = λ x i y j. rw (← sentence_length rules B k x i) (weight_append v p x y) }

  pub halves_total_lem : (v : ℕ → ℕ → ℕ) (B C p m k : ℕ) → sum_over (weight v p) (combine ◌++◌ (sentences rules B k) (sentences rules C (m - k)))
      ≡ total rules v p B k * total rules v (p + k) C (m - k)
  halves_total_lem v B C p m k =
      sum_combine ◌++◌ (weight v p) (weight v p) (weight v (p + k)) (sentences rules B k) (sentences rules C (m - k)) (halves_product v B C p m k).each
      ∙ rw (total_sum rules v p B k, total_sum rules v (p + k) C (m - k))

module _ {rules : ℕ → List Rule} {v u : ℕ → ℕ → ℕ} where
  -- ---- a single word

  pub owned_word : {A p t w n o : ℕ} → Owns (v p) (u p) (words_of (rules A)) t w n o → OwnedAs rules v u A p 1 t (w ∷ []) n (u p w) (v p w) o
  owned_word {A} {p} {w = w} r = record {
    owns = rw (sentences_one rules A)
        (owns_map (λ w. w ∷ []) (owns_ext (λ w. v p w * 1) (λ w. u p w * 1) (λ w m. omega arith) (λ w m. omega arith) r));
    measure_is = omega arith;
    weighs_is = omega arith;
  }

-- ---- an owner's tickets

module _ {rules : ℕ → List Rule} {v u : ℕ → ℕ → ℕ} {A p m t : ℕ} {words : List ℕ} {place measure weighs offset : ℕ} (r : OwnedAs rules v u A p m t words place measure weighs offset) where
  pub owned_some : offset < weighs
  owned_some = omega (arith, r.owns.own, r.weighs_is)

  pub owned_weighs : weighs ≤ total rules v p A m
  owned_weighs = omega (arith, owns_inside r.owns, r.owns.own, r.owns.ticket, r.weighs_is, total_sum rules v p A m)

-- ---- two halves: the quotient by the right half's total is the left half's ticket; what is left, by the left half's weight, the right half's

module _ {rules : ℕ → List Rule} {v : ℕ → ℕ → ℕ} {B C p m k rest : ℕ} (h : InHalves rules v B C p m k rest) where
  pub right_some : 0 < total rules v (p + k) C (m - k)
  right_some = product_some (total rules v p B k) (total rules v (p + k) C (m - k)) rest h.inside

  pub left_ticket : rest / total rules v (p + k) C (m - k) < total rules v p B k
  left_ticket = product_left (total rules v p B k) (total rules v (p + k) C (m - k)) rest h.inside

  module _ {u : ℕ → ℕ → ℕ} {words : List ℕ} {n measure w o : ℕ} (l : OwnedAs rules v u B p k (rest / total rules v (p + k) C (m - k)) words n measure w o) where
    -- what is left of the ticket
    abbrev pub right_rest : ℕ
    right_rest = o * total rules v (p + k) C (m - k) + rest % total rules v (p + k) C (m - k)

    pub rest_room : right_rest < halves_total rules v B C p m k
    rest_room =
        omega (
          arith,
          mod-lt rest right_some,
          mul-le-mul_right (total rules v (p + k) C (m - k)) (owned_some l),
          mul-le-mul_right (total rules v (p + k) C (m - k)) (owned_weighs l),
        )

    pub right_ticket : right_rest / w < total rules v (p + k) C (m - k)
    right_ticket = rw l.weighs_is (product_right l.owns (total rules v (p + k) C (m - k)) rest right_some)

    pub halves_owned : {words' : List ℕ} {n' measure' w' o' : ℕ} → OwnedAs rules v u C (p + k) (m - k) (right_rest / w) words' n' measure' w' o'
        → HalvesAs rules v u B C p m k rest (words ++ words') (n * total rules u (p + k) C (m - k) + measure * n') (measure * measure') (w * w') (o' * w + right_rest % w)
    halves_owned {words'} r =
        let hv = halves_product rules v B C p m k in
        let hu = halves_product rules u B C p m k in
        let ev = total_sum rules v (p + k) C (m - k) in
        let eu = total_sum rules u (p + k) C (m - k) in
        let a = rw ev at l.owns in
        let b = rw (l.weighs_is, ev) at r.owns in
        record {
          owns = rw (l.weighs_is, l.measure_is, ev, eu) (product_owns hv hu rest a b);
          measure_is = rw (l.measure_is, r.measure_is) (sym (product_measure hv hu rest a b));
          weighs_is = rw (l.weighs_is, r.weighs_is) (sym (product_weight hv hu rest a b));
        }

-- ---- the whole: what is chosen, and its halves

module _ {rules : ℕ → List Rule} {v u : ℕ → ℕ → ℕ} {A p m t B C k before rest : ℕ} (c : ChosenAs rules v u A p m t B C k before rest) where
  pub chosen_inside : InHalves rules v B C p m k rest
  chosen_inside = record { inside = omega (arith, c.part.inside, halves_total_lem rules v B C p m k) }

  -- room for the halves' tickets and measure
  pub chosen_tickets : halves_total rules v B C p m k ≤ total rules v p A m
  chosen_tickets = omega (arith, part_total c.part, halves_total_lem rules v B C p m k, total_sum rules v p A m)

  pub chosen_room : before + halves_total rules u B C p m k ≤ total rules u p A m
  chosen_room = omega (arith, part_size c.part, halves_total_lem rules u B C p m k, total_sum rules u p A m)

  pub chosen_owned : {words : List ℕ} {n measure w o : ℕ} → HalvesAs rules v u B C p m k rest words n measure w o
      → OwnedAs rules v u A p m t words (before + n) measure w o
  chosen_owned r = record { owns = part_owns c.part r.owns; measure_is = r.measure_is; weighs_is = r.weighs_is }
