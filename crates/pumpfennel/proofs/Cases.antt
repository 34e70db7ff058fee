-- What a call gives back, once the case of its answer is known: an answer with so many figures, given or refused.
-- Assumes nothing.
use mathlib.Core.Path.{◌≡◌, sym, ap, ◌∙◌}
use mathlib.Core.List.{List, [], ◌∷◌}
use Prim.Native.Nat.{ℕ}
use Rattle.std.specs.Prelude.{Result, Ok, Err}
use Rattle.answers.specs.Answer.{Answer, given, refused}
use Rattle.answers.specs.Inner.Refusals.{refusal_number}
use Rattle.answers.specs.declared.refusal.Refusal.{Refusal}
use Rattle.pumpfennel.specs.Calls.{gives}
use Rattle.pumpfennel.specs.Inner.Says.{figure_says}

-- `a` is answered, and says x; it is the case b, which says these figures, this buffer and the number k; r is returned for k
pub answered : {A : Type 0} (says : A → Answer) (figures buffer : List ℕ) {a b : A} {x : Answer} {r k : ℕ}
    → says a ≡ x → a ≡ b → says b ≡ gives k figures buffer → r ≡ k → gives r figures buffer ≡ x
answered says figures buffer e case shown number =
    ap (λ (r : ℕ). gives r figures buffer) number ∙ sym shown ∙ sym (ap says case) ∙ e

-- what answers one figure says what `figure_says` does
pub one_figure : (says : Result ℕ Refusal → Answer) (out : List ℕ) → ((x : ℕ) → says (Ok x) ≡ given (x ∷ []) out)
    → ((r : Refusal) → says (Err r) ≡ refused (refusal_number r) 1 out) → (a : Result ℕ Refusal) → figure_says a out ≡ says a
one_figure says out ok err (Ok x) = sym (ok x)
one_figure says out ok err (Err r) = sym (err r)
