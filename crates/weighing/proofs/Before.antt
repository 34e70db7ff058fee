-- What the words before each word weigh, place after place: at the places below i it is there, and the sum so far is what the words of a before i weigh. No
-- place lies with two nonterminals.
-- Assumes nothing.
use mathlib.Core.Path.{◌≡◌, sym, ap, ◌∙◌}
use mathlib.Core.List.{List, [], ◌∷◌}
use Prim.Native.Nat.{ℕ, suc, ◌+◌, ◌*◌, ◌-◌, ◌≤◌, ◌<◌}
use native.Mathlib.Omega.{arith}
use native.Mathlib.Decide.{ℕ_discrete}
use lib.ListN.{length, get_or, set, take, length-set}
use lib.Seq.{take-suc}
use Rattle.lists.specs.Joined.{sum_over}
use Rattle.lists.specs.Inner.Tables.{entry, put, Wide}
use Rattle.lists.proofs.Sums.{sum_append}
use Rattle.lists.proofs.Tables.{put_same, put_row, put_other_row, put_beside, wide_put}
use Rattle.grammar.specs.Inner.Rules.{word_at, word_from, count_in, words_in}
use Rattle.grammar.proofs.Ruling.{word_count_lem, word_here, word_below, one_holder}
use Rattle.counting.specs.Inner.Letters.{weighed, by_letter, before_at}
use Rattle.counting.proofs.Lettered.{summed_by}
use Rattle.weighing.specs.Inner.Tables.{SumsUp, SummedUpAs}

-- ---- a number in two bytes

abbrev noted : (rules : List (List ℕ)) (i low high : ℕ) → List (List ℕ)
noted rules i low high = put (put rules 14 i low) 15 i high

module _ {rules : List (List ℕ)} (long : 16 ≤ length rules) (wide : Wide rules 256) (i low high : ℕ) where
  -- the low byte first
  abbrev half : List (List ℕ)
  half = put rules 14 i low

  half_long : 15 < length half
  half_long = omega (arith, length-set rules 14 (set (get_or rules 14 []) i low))

  noted_here : i < 256 → before_at (noted rules i low high) i ≡ low + 256 * high
  noted_here h =
      omega (
        arith,
        put_other_row half 15 i high 14 i (λ e. omega arith),
        put_same rules 14 i low (omega arith) (omega (arith, wide.row 14 (omega arith))),
        put_same half 15 i high half_long (omega (arith, (wide_put rules 256 14 i low wide).row 15 half_long)),
      )

  noted_beside : (k : ℕ) → (k ≡ i → ⊥) → before_at (noted rules i low high) k ≡ before_at rules k
  noted_beside k n =
      omega (
        arith,
        put_other_row half 15 i high 14 k (λ e. omega arith),
        put_beside rules 14 i low k (omega arith) n,
        put_beside half 15 i high k half_long n,
        put_other_row rules 14 i low 15 k (λ e. omega arith),
      )

-- ---- place after place

pub record SummingUp (before now : List (List ℕ)) (a i sum : ℕ) : Type 0 where
  pub low : a ≤ count_in before
  pub from : word_from before a ≤ i
  pub to : a < count_in before → i ≤ word_from before (a + 1)
  pub light : sum ≤ 255 * i
  pub so_far : sum ≡ sum_over (entry before 13) (take (i - word_from before a) (words_in before a))
  pub here : (b j : ℕ) → b < count_in before → j < length (words_in before b) → word_from before b + j < i
      → before_at now (word_from before b + j) ≡ sum_over (entry before 13) (take j (words_in before b))
  pub long : length now ≡ length before
  pub wide : Wide now 256
  pub others : (r : ℕ) → (r ≡ 14 → ⊥) → (r ≡ 15 → ⊥) → get_or now r [] ≡ get_or before r []

module _ {before : List (List ℕ)} (s : SumsUp before) where
  -- the places of a nonterminal's words
  word_to : (b j : ℕ) → b < count_in before → j < length (words_in before b) → word_from before b + j < word_from before (b + 1)
  word_to b j l h = omega (arith, word_count_lem before b)

  module _ {now : List (List ℕ)} {a i sum : ℕ} (w : SummingUp before now a i sum) where
    same : (r k : ℕ) → r < 14 → entry now r k ≡ entry before r k
    same r k h = ap (λ (l : List ℕ). get_or l k 0) (w.others r (λ e. omega arith) (λ e. omega arith))

    summing_long : 16 ≤ length now
    summing_long = omega (arith, w.long, s.long)

    -- where each nonterminal's words begin is as before
    pub summing_from : (b : ℕ) → word_from now b ≡ word_from before b
    summing_from b = same 3 b (omega arith)

    pub summing_end : count_in before ≤ a → SummedUpAs before now
    summing_end h =
        let e : a ≡ count_in before = omega (arith, w.low) in
        record {
          summed = summed_by before summing_long (λ r l. w.others r (λ e. omega arith) (λ e. omega arith)) (w.others 13 (λ e. omega arith) (λ e. omega arith))
              (λ b j l k. w.here b j l k (omega (arith, word_below s.table b (word_from before b + j) l (word_to b j l k), ap (word_from before) e, w.from)));
          long = w.long;
          wide = w.wide;
          others = w.others;
        }

    module _ (l : a < count_in before) where
      pub summing_low : i ≤ 255
      summing_low = omega (arith, w.to l, s.table.word_low (a + 1) (omega arith))

      -- at one
      module _ (inside : i < word_from before (a + 1)) {x y : ℕ} (word_is : x ≡ word_at now i) (weight_is : y ≡ by_letter now weighed x) (small : y ≤ 255) where
        abbrev j : ℕ
        j = i - word_from before a

        j_low : j < length (words_in before a)
        j_low = omega (arith, inside, w.from, word_count_lem before a)

        weighs : y ≡ entry before 13 (get_or (words_in before a) j 0)
        weighs =
            let back : word_from before a + j ≡ i = omega (arith, w.from) in
            let word : get_or (words_in before a) j 0 ≡ x = word_here before a j (omega (arith, j_low, word_count_lem before a)) ∙ ap (word_at before) back ∙ sym (word_is ∙ same 0 i (omega arith)) in
            weight_is ∙ same 13 x (omega arith) ∙ ap (entry before 13) (sym word)

        more : sum + y ≡ sum_over (entry before 13) (take (suc j) (words_in before a))
        more =
            omega (
              arith,
              w.so_far,
              weighs,
              ap (sum_over (entry before 13)) (take-suc (words_in before a) j 0 j_low),
              sum_append (entry before 13) (take j (words_in before a)) (get_or (words_in before a) j 0 ∷ []),
            )

        -- in two bytes
        module _ (low high : ℕ) (bytes : low + 256 * high ≡ sum) where
          -- the sum so far stands at i, and i is no other's
          here_too : (b k : ℕ) → b < count_in before → k < length (words_in before b) → word_from before b + k < i + 1
              → before_at (noted now i low high) (word_from before b + k) ≡ sum_over (entry before 13) (take k (words_in before b))
          here_too b k m h u =
              elim (ℕ_discrete (word_from before b + k) i) [
                | yes e ↦
                    let q : a ≡ b = one_holder (word_from before) s.table.word_rises l m w.from inside (omega arith) (omega (arith, word_to b k m h)) in
                    let z : j ≡ k = omega (arith, ap (word_from before) q) in
                    ap (before_at (noted now i low high)) e
                    ∙ noted_here summing_long w.wide i low high (omega (arith, summing_low))
                    ∙ bytes
                    ∙ w.so_far
                    ∙ ap (λ c. sum_over (entry before 13) (take c (words_in before a))) z
                    ∙ ap (λ c. sum_over (entry before 13) (take k (words_in before c))) q
                | no e ↦ noted_beside summing_long w.wide i low high (word_from before b + k) e ∙ w.here b k m h (omega arith)
              ]

          pub summing_word : SummingUp before (noted now i low high) a (i + 1) (sum + y)
          summing_word =
              let t = put now 14 i low in
              let next : suc j ≡ i + 1 - word_from before a = omega (arith, w.from) in
              record {
                low = w.low;
                from = omega (arith, w.from);
                to = λ m. omega (arith, inside);
                light = omega (arith, w.light);
                so_far = rw next at more;
                here = here_too;
                long = length-set t 15 (set (get_or t 15 []) i high) ∙ length-set now 14 (set (get_or now 14 []) i low) ∙ w.long;
                wide = wide_put t 256 15 i high (wide_put now 256 14 i low w.wide);
                others = λ r p q. put_row t 15 i high r q ∙ put_row now 14 i low r p ∙ w.others r p q;
              }
