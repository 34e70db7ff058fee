-- What a `?` hands on: the refusal that came.
-- Assumes nothing.
use mathlib.Core.Path.{◌≡◌, ap}
use Rattle.std.specs.Prelude.{Result, Ok, Err, IsErrAnd}
use Rattle.answers.specs.declared.refusal.Refusal.{Refusal}

pub handed_on : {A : Type 0} {r : Result A Refusal} {e : Refusal} → IsErrAnd r (λ y. y ≡ e) → r ≡ Err e
handed_on {r = Ok x} is = elim is [ ]
handed_on {r = Err y} is = ap Err is
