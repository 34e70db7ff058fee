-- `append` meets its contract: each test that fails moves the refusal on to the next line; past all of them the record is written.
-- Assumes nothing.
use mathlib.Core.Logic.{inl, inr}
use native.Mathlib.Omega.{arith}
use Rattle.history.proofs.Outcome.{log_low, log_high, log_voice, log_played, log_history, log_room, log_accepted, room_full, room_short, room_there, check_accepted, check_refused}
use Rattle.answers.proofs.Numbers.{number_some}
use Rattle.std.proofs.lemmas.Result.{err_from_is_err_and}
use Rattle.history.proofs.append.append.Goals as goal

pub returns-then-sentence-lt1 : goal.returns-then-sentence-lt1
returns-then-sentence-lt1 c = elim c.then-sentence-lt1.either [ inl l ↦ log_low _ _ l | inr l ↦ log_high _ _ l.1 ]

pub returns-then-voice-gt15 : goal.returns-then-voice-gt15
returns-then-voice-gt15 c = log_voice _ _ (omega arith) (omega arith) c.if-voice-gt15.true

pub returns-then-sentence-played : goal.returns-then-sentence-played
returns-then-sentence-played c = log_played _ _ (omega arith) (omega arith) (omega arith) (omega (arith, c.if-sentence-played.true))

pub returns-in_err-k : goal.returns-in_err-k
returns-in_err-k c =
    let p = err_from_is_err_and c.from_residual.result c.from_residual.ensures.1 in
    let r = c.in_err-k.field-0.0 in
    rw (p.1, p.2) (log_history _ _ (omega arith) (omega arith) (omega arith) (omega arith) _ (check_refused _ r c.in_err-k.ensures) (number_some r))

pub returns-then-k-eq1000 : goal.returns-then-k-eq1000
returns-then-k-eq1000 c =
    let k = check_accepted c.args.h.now c.in_ok-k.ensures in
    log_room _ _ (omega arith) (omega arith) (omega arith) (omega arith) k.accepted (room_full _ (omega arith))

pub overflow_add-new : goal.overflow_add-new
overflow_add-new c = let k = check_accepted c.args.h.now c.in_ok-k.ensures in omega arith

pub overflow_mul-new : goal.overflow_mul-new
overflow_mul-new c = let k = check_accepted c.args.h.now c.in_ok-k.ensures in omega arith

pub overflow_add-new-2 : goal.overflow_add-new-2
overflow_add-new-2 c = let k = check_accepted c.args.h.now c.in_ok-k.ensures in omega arith

pub returns-then-h-new : goal.returns-then-h-new
returns-then-h-new c =
    let k = check_accepted c.args.h.now c.in_ok-k.ensures in
    log_room _ _ (omega arith) (omega arith) (omega arith) (omega arith) k.accepted (room_short _ (omega arith))

pub write-requires : goal.write-requires
write-requires c =
    let k = check_accepted c.args.h.now c.in_ok-k.ensures in
    (record { number = omega arith; few = omega arith; size = omega arith }, omega arith, omega arith, omega arith)

pub returns : goal.returns
returns c =
    let k = check_accepted c.args.h.now c.in_ok-k.ensures in
    log_accepted _ _ (omega arith) (omega arith) (omega arith) (omega arith) k.accepted (room_there _ (λ e. omega arith) (omega arith)) (omega arith) c.write.ensures
