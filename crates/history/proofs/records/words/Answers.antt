-- `words` meets its contract: an accepted history holds its records whole, and no sentence passes the end of its record.
-- Assumes nothing.
use mathlib.Core.Path.{◌≡◌, ap, ◌∙◌}
use mathlib.Core.List.{List}
use Prim.Native.Nat.{ℕ, ◌+◌, ◌-◌}
use native.Mathlib.Omega.{arith}
use lib.ListN.{take, drop}
use Rattle.history.specs.Layout.{record_at, length_of, record_words}
use Rattle.history.proofs.records.words.Goals as goal

words_are : (h : List ℕ) (r : ℕ) {at n : ℕ} → at ≡ record_at r → n ≡ length_of h r → take (at + 4 + n - (at + 4)) (drop (at + 4) h) ≡ record_words h r
unfolding record_words
words_are h r {at} {n} e f =
    let m : at + 4 + n - (at + 4) ≡ length_of h r = omega arith in
    ap (λ (k : ℕ). take k (drop (at + 4) h)) m ∙ ap (λ (i : ℕ). take (length_of h r) (drop (i + 4) h)) e

pub returns : goal.returns
returns c = words_are c.args.h.now c.args.r c.record_at-at.ensures c.length.ensures
