use mathlib.Core.Path.{◌≡◌, refl, ap, ◌∙◌}
use Prim.Native.Nat.{zero, ◌<◌}
use native.Mathlib.Omega.{arith}
use lib.ListN.{length, replicate, length-set}
use Rattle.ranking.specs.Inner.Inside.{weighs}
use Rattle.history.proofs.Acceptance.{known}
use Rattle.history.specs.Chain.{numbers_from}
use Rattle.history.specs.Refusals.{Accepted}
use Rattle.sampling.specs.Inner.Collect.{Adds}
use Rattle.sampling.proofs.Collect.{collect_start, collect_end, collect_inside, collect_less, collect_room, collect_unheard, collect_many, collect_none, collect_one, serves_start, added_case, serves_still}
use Rattle.answers.proofs.Results.{handed_on}
use Rattle.std.specs.Prelude.{Some, Ok}
use Rattle.sampling.proofs.heard.Sources.collect.Goals as goal

pub first-at-requires : goal.first-at-requires
first-at-requires c = c.requires.diary

pub loop-at-init : goal.loop-at-init
loop-at-init c =
    let p = c.requires in (
      collect_start _ _ _ _ _ _ _ p.diary p.room c.first-at.ensures,
      serves_start p (replicate 290 zero) refl,
      refl,
      refl,
      refl,
      (λ long. collect_start _ _ _ _ _ _ _ p.diary long c.first-at.ensures),
      refl,
    )

pub after-at-requires : goal.after-at-requires
after-at-requires c =
    let diary : Accepted c.args.h.now = c.requires.diary in
    diary

pub makes_heard-requires : goal.makes_heard-requires
makes_heard-requires c =
    let more : c.loop-at.at ≡ 0 → ⊥ = λ z. omega arith in
    let diary : Accepted c.args.h.now = c.requires.diary in
    (diary, collect_inside c.loop-at.invariant.0 diary more)

pub sentence-s-requires : goal.sentence-s-requires
sentence-s-requires c =
    let diary : Accepted c.args.h.now = c.requires.diary in
    diary

pub find_heard-requires : goal.find_heard-requires
find_heard-requires c = c.loop-at.invariant.1

pub loop-at-smaller-in_default : goal.loop-at-smaller-in_default
loop-at-smaller-in_default c =
    let more : c.loop-at.at ≡ 0 → ⊥ = λ z. omega arith in
    let diary : Accepted c.args.h.now = c.requires.diary in
    let less : length (numbers_from c.args.h.now c.after-at.result)
    < length (numbers_from c.args.h.now c.loop-at.at) = collect_less c.loop-at.invariant.0 diary more c.after-at.ensures in
    less

pub loop-at-preserved-in_default : goal.loop-at-preserved-in_default
loop-at-preserved-in_default c =
    let more : c.loop-at.at ≡ 0 → ⊥ = λ z. omega arith in
    let rows : length c.find_heard.new.totals ≡ length c.args.totals.now = c.find_heard.auto.totals ∙ c.loop-at.invariant.3 in
    let sets : length c.find_heard.new.sets ≡ 290 = c.find_heard.auto.sets ∙ c.loop-at.invariant.2 in
    let diary : Accepted c.args.h.now = c.requires.diary in (
      collect_none c.loop-at.invariant.0 diary more c.makes_heard.ensures c.if-makes_heard.true c.sentence-s.ensures
          (added_case c.requires.planned c.find_heard.ensures (c.in_ok-found.was ∙ ap Ok c.in_default.is)) c.after-at.ensures,
      c.find_heard.ensures.serves,
      sets,
      rows,
      c.loop-at.invariant.4,
      (λ long. collect_none (c.loop-at.invariant.5 long) diary more c.makes_heard.ensures c.if-makes_heard.true c.sentence-s.ensures
          (added_case c.requires.planned c.find_heard.ensures (c.in_ok-found.was ∙ ap Ok c.in_default.is)) c.after-at.ensures),
      c.loop-at.invariant.6,
    )

pub returns-in_err-found : goal.returns-in_err-found
returns-in_err-found c =
    let more : c.loop-at.at ≡ 0 → ⊥ = λ z. omega arith in
    let diary : Accepted c.args.h.now = c.requires.diary in
    let p = c.requires.planned in
    let many = collect_many c.loop-at.invariant.0 diary more c.makes_heard.ensures c.if-makes_heard.true c.sentence-s.ensures _
    (added_case p c.find_heard.ensures c.in_err-found.was) c.loop-at.numbers in
    rw (handed_on c.from_residual.ensures.1) (record { holds = many; ended = λ long. many; still = serves_still p c.find_heard.ensures.serves })

pub offset_bounds-numbers-count : goal.offset_bounds-numbers-count
offset_bounds-numbers-count c =
    let more : c.loop-at.at ≡ 0 → ⊥ = λ z. omega arith in
    let diary : Accepted c.args.h.now = c.requires.diary in
    let room : (c.loop-at.count < 1000) × (c.loop-at.count < length c.loop-at.numbers) = let few = collect_room c.loop-at.invariant.0 diary more in
    (omega (arith, few, (known _ diary).sized.few), omega (arith, few, c.loop-at.invariant.0.long)) in
    omega (arith, room.0)

pub bounds-numbers-count : goal.bounds-numbers-count
bounds-numbers-count c =
    let more : c.loop-at.at ≡ 0 → ⊥ = λ z. omega arith in
    let diary : Accepted c.args.h.now = c.requires.diary in
    let room : (c.loop-at.count < 1000) × (c.loop-at.count < length c.loop-at.numbers) = let few = collect_room c.loop-at.invariant.0 diary more in
    (omega (arith, few, (known _ diary).sized.few), omega (arith, few, c.loop-at.invariant.0.long)) in
    omega (arith, room.1)

pub note-requires : goal.note-requires
note-requires c =
    let adds : Adds c.args.self.now.rules.now (weighs c.args.self.now.rules.now c.args.self.now.measure.now) c.args.question.length c.sentence-s.result.now (Ok (Some c.in-Some.d))
    = added_case c.requires.planned c.find_heard.ensures (c.in_ok-found.was ∙ ap Ok c.in-Some.is) in
    adds.2

pub overflow_add-count : goal.overflow_add-count
overflow_add-count c =
    let more : c.loop-at.at ≡ 0 → ⊥ = λ z. omega arith in
    let diary : Accepted c.args.h.now = c.requires.diary in
    let room : (c.loop-at.count < 1000) × (c.loop-at.count < length c.loop-at.numbers) = let few = collect_room c.loop-at.invariant.0 diary more in
    (omega (arith, few, (known _ diary).sized.few), omega (arith, few, c.loop-at.invariant.0.long)) in
    omega (arith, room.0)

pub loop-at-smaller-in-Some : goal.loop-at-smaller-in-Some
loop-at-smaller-in-Some c =
    let more : c.loop-at.at ≡ 0 → ⊥ = λ z. omega arith in
    let diary : Accepted c.args.h.now = c.requires.diary in
    let less : length (numbers_from c.args.h.now c.after-at.result)
    < length (numbers_from c.args.h.now c.loop-at.at) = collect_less c.loop-at.invariant.0 diary more c.after-at.ensures in
    less

pub loop-at-preserved-in-Some : goal.loop-at-preserved-in-Some
loop-at-preserved-in-Some c =
    let more : c.loop-at.at ≡ 0 → ⊥ = λ z. omega arith in
    let adds : Adds c.args.self.now.rules.now (weighs c.args.self.now.rules.now c.args.self.now.measure.now) c.args.question.length c.sentence-s.result.now (Ok (Some c.in-Some.d))
    = added_case c.requires.planned c.find_heard.ensures (c.in_ok-found.was ∙ ap Ok c.in-Some.is) in
    let rows : length c.find_heard.new.totals ≡ length c.args.totals.now = c.find_heard.auto.totals ∙ c.loop-at.invariant.3 in
    let sets : length c.find_heard.new.sets ≡ 290 = c.find_heard.auto.sets ∙ c.loop-at.invariant.2 in
    let diary : Accepted c.args.h.now = c.requires.diary in (
      collect_one c.loop-at.invariant.0 diary more c.makes_heard.ensures c.if-makes_heard.true c.sentence-s.ensures adds c.after-at.ensures,
      c.find_heard.ensures.serves,
      sets,
      rows,
      length-set c.loop-at.numbers c.loop-at.count _ ∙ c.loop-at.invariant.4,
      (λ long. rw c.note.ensures
          (collect_one (c.loop-at.invariant.5 long) diary more c.makes_heard.ensures c.if-makes_heard.true c.sentence-s.ensures adds c.after-at.ensures)),
      c.note.auto.ends ∙ c.loop-at.invariant.6,
    )

pub loop-at-smaller : goal.loop-at-smaller
loop-at-smaller c =
    let more : c.loop-at.at ≡ 0 → ⊥ = λ z. omega arith in
    let diary : Accepted c.args.h.now = c.requires.diary in
    let less : length (numbers_from c.args.h.now c.after-at.result)
    < length (numbers_from c.args.h.now c.loop-at.at) = collect_less c.loop-at.invariant.0 diary more c.after-at.ensures in
    less

pub loop-at-preserved : goal.loop-at-preserved
loop-at-preserved c =
    let more : c.loop-at.at ≡ 0 → ⊥ = λ z. omega arith in
    let diary : Accepted c.args.h.now = c.requires.diary in
    let i = c.loop-at.invariant in (
      collect_unheard i.0 diary more c.makes_heard.ensures c.if-makes_heard.false c.after-at.ensures,
      i.1,
      i.2,
      i.3,
      i.4,
      (λ long. collect_unheard (i.5 long) diary more c.makes_heard.ensures c.if-makes_heard.false c.after-at.ensures),
      i.6,
    )

pub returns : goal.returns
returns c =
    let diary : Accepted c.args.h.now = c.requires.diary in
    let i = c.loop-at.invariant in
    record {
      holds = collect_end i.0 diary (omega arith);
      ended = λ long. collect_end (i.5 (omega (arith, i.6))) diary (omega arith);
      still = serves_still c.requires.planned i.1;
    }
