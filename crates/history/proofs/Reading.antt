-- What is read at a number, and that reading from there on tells the chain: at a record's number stand its own words, and the walk goes on at the
-- number after it.
-- Assumes nothing.
use mathlib.Core.Path.{◌≡◌, sym, ap, ◌∙◌}
use mathlib.Core.Bool.{Bool, true, not, cond}
use mathlib.Core.List.{List, [], ◌∷◌}
use Prim.Native.Nat.{ℕ, ◌≤◌}
use borrow.Author.Tests.{le-leb}
use lib.Dec.{leb}
use Rattle.lists.proofs.Tests.{within_facts}
use Rattle.history.specs.Layout.{records_of, next_of, record_words}
use Rattle.history.specs.Chain.{numbers_from}
use Rattle.history.specs.Refusals.{Accepted}
use Rattle.history.specs.Inner.Checks.{Inside}
use Rattle.history.specs.Inner.Reading.{is_record, sentence_at, next_at}
use Rattle.history.proofs.Chain.{numbers_step}

module _ (h : List ℕ) (at : ℕ) where
  -- ---- whether a number is a record's

  pub by_high : 1 ≤ at → leb at (records_of h) ≡ is_record h at
  by_high l = rw (le-leb 1 at l)

  pub inside : is_record h at ≡ true → Inside h at
  inside e = let q = within_facts 1 (records_of h) at (ap not e) in record { low = q.0; high = q.1 }

  -- ---- what stands at a record, and at the end

  pub words_here : is_record h at ≡ true → record_words h at ≡ sentence_at h at
  words_here e = ap (λ (b : Bool). cond b (record_words h at) []) (sym e)

  pub next_here : is_record h at ≡ true → next_of h at ≡ next_at h at
  next_here e = ap (λ (b : Bool). cond b (next_of h at) 0) (sym e)

  -- ---- the chain of an accepted history, read from here on

  module _ (ok : Accepted h) (l : 1 ≤ at) (m : at ≤ records_of h) where
    here : is_record h at ≡ true
    here = sym (by_high l) ∙ le-leb at (records_of h) m

    pub read_words : sentence_at h at ≡ record_words h at
    read_words = sym (words_here here)

    pub read_next : next_at h at ≡ next_of h at
    read_next = sym (next_here here)

    pub read_step : numbers_from h at ≡ at ∷ numbers_from h (next_at h at)
    read_step = numbers_step h ok at l m ∙ ap (λ (r : ℕ). at ∷ numbers_from h r) (next_here here)
