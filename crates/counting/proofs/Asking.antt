-- What is asked for: the needed pairs, of a table of rules. With a nonterminal and a length the halves of its pair rules are asked for. A total of what
-- has no derivation is 0.
-- Assumes nothing.
use mathlib.Core.Path.{◌≡◌, refl, sym, ap, ◌∙◌}
use mathlib.Core.List.{List, [], ◌∷◌}
use Prim.Native.Nat.{ℕ, ◌+◌, ◌≤◌, ◌<◌}
use native.Mathlib.Omega.{arith}
use lib.ListN.{length, get_or}
use Rattle.lists.specs.Joined.{◌∈◌, sum_over}
use Rattle.grammar.specs.Chains.{Rule}
use Rattle.grammar.specs.Inner.Rules.{start_in, count_in, pairs_in, ruled, Ruled}
use Rattle.lists.specs.Inner.Tables.{Wide, CopiedAs}
use Rattle.lists.proofs.Tables.{copied_wide}
use Rattle.grammar.proofs.Ruling.{pairs_ruled, pair_inside}
use Rattle.grammar.proofs.Kept.{ruled_same, ruled_kept}
use Rattle.counting.specs.Totals.{total, T}
use Rattle.counting.specs.Needed.{Needed, whole}
use Rattle.counting.specs.Inner.Sentences.{sentences, weight}
use Rattle.counting.specs.Inner.Counted.{Asked, Counted}
use Rattle.counting.proofs.Needed.{needed_some, needed_short, needed_inside, needed_halves}
use Rattle.counting.proofs.Counts.{total_sum, T_sentences}

-- what is needed is asked for
pub asked_of : {rules : List (List ℕ)} {n A m : ℕ} → Ruled rules → 1 ≤ n → Needed (ruled rules) (start_in rules) n A m → Asked rules n A m
asked_of {rules} t h a = record {
  needed = a;
  inside = needed_inside (count_in rules) t.starts (λ B x l i. pair_inside t B x l (rw (pairs_ruled rules B) at i)) a;
  some = needed_some h a;
  short = needed_short a;
}

-- and so is the start symbol at the whole length
pub asked_whole : {rules : List (List ℕ)} {n : ℕ} → Ruled rules → 1 ≤ n → Asked rules n (start_in rules) n
asked_whole t h = asked_of t h whole

-- with a nonterminal and a length, the halves of its pair rules at every shorter length
module _ {rules : List (List ℕ)} {n A m : ℕ} (t : Ruled rules) (a : Asked rules n A m) (x : ℕ × ℕ) (i : x ∈ pairs_in rules A) (k : ℕ) (h : 1 ≤ k) (l : k < m) where
  asked_halves : Needed (ruled rules) (start_in rules) n x.0 k × Needed (ruled rules) (start_in rules) n x.1 k
  asked_halves = needed_halves a.needed x (rw (← pairs_ruled rules A) at i) k h l

  pub asked_left : Asked rules n x.0 k
  asked_left = asked_of t (omega (arith, a.short)) asked_halves.0

  pub asked_right : Asked rules n x.1 k
  asked_right = asked_of t (omega (arith, a.short)) asked_halves.1

none_sum : {X : Type 0} (f : X → ℕ) (l : List X) → length l ≡ 0 → sum_over f l ≡ 0
none_sum f [] e = refl
none_sum f (x ∷ l) e = absurd (omega arith)

-- where there is no derivation every total is 0
pub total_dead : (rules : ℕ → List Rule) (v : ℕ → ℕ → ℕ) (p A m : ℕ) → T rules A m ≡ 0 → total rules v p A m ≡ 0
total_dead rules v p A m e =
    total_sum rules v p A m ∙ none_sum (weight v p) (sentences rules A m) (sym (T_sentences rules A m) ∙ e)

-- ---- other tables with the same counts

-- the rows up to n are what the counts of the length n are read from
pub counted_rows : {rules from after : List (List ℕ)} {n : ℕ} → Counted rules from n → 17 ≤ length after → Wide after 32
    → ((r : ℕ) → r ≤ n → get_or after r [] ≡ get_or from r []) → Counted rules after n
counted_rows c long wide same = record {
  table = c.table;
  some = c.some;
  short = c.short;
  long = long;
  wide = wide;
  right = λ A m a. ap (λ (l : List ℕ). get_or l A 0) (same m a.short) ∙ c.right A m a;
  fits = c.fits;
  longest = λ A m a h. c.longest A m a (rw (same 0 (omega arith)) at h);
  only = λ A m h s l o. c.only A m h s l (rw (same m l) at o);
}

pub counted_copied : {rules from before after : List (List ℕ)} {n : ℕ} → Counted rules from n → 17 ≤ length before → Wide before 32 → CopiedAs (n + 1) from before after
    → Counted rules after n
counted_copied c long wide q =
    counted_rows c (omega (arith, q.long)) (copied_wide (omega (arith, c.short, c.long)) c.wide wide q) (λ r h. q.rows r (omega arith))

-- rules with the same first four rows have the same counts
pub counted_kept : {rules after totals : List (List ℕ)} {n : ℕ} → 4 ≤ length after → Wide after 256 → ((r : ℕ) → r < 4 → get_or after r [] ≡ get_or rules r []) → Counted rules totals n
    → Counted after totals n
counted_kept {rules} {after} {totals} {n} long wide same c =
    let e = ruled_same rules after same in
    let start_is : start_in after ≡ start_in rules = ap (λ (l : List ℕ). get_or l 128 0) (same 3 (omega arith)) in
    let table = ruled_kept long wide same c.table in
    let asked : (A m : ℕ) → Asked after n A m → Asked rules n A m = λ A m a. asked_of c.table c.some (rw (e, start_is) at a.needed) in
    record {
      table = table;
      some = c.some;
      short = c.short;
      long = c.long;
      wide = c.wide;
      right = λ A m a. rw e (c.right A m (asked A m a));
      fits = λ A m a. rw e (c.fits A m (asked A m a));
      longest = λ A m a h. rw e (c.longest A m (asked A m a) h);
      only = λ A m h s l o. asked_of table c.some (rw (e, start_is) (c.only A m h s l o).needed);
    }
