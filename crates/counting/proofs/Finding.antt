-- The loops that find the needed pairs. A set with the nonterminals of the pair rules passed; then of the owners passed; then the sets from the whole length
-- down. Below the whole length a nonterminal is needed exactly if it stands in a pair rule of one that is needed at a greater length, so what is
-- needed at a length is what stands in the pair rules of all that were met above it.
-- Assumes nothing.
use mathlib.Core.Path.{◌≡◌, refl, sym, ◌∙◌}
use mathlib.Core.Logic.{◌⊎◌, inl, inr}
use mathlib.Core.Bool.{Bool, true, false, not, ◌&&◌, ◌||◌, false≢true}
use mathlib.Core.List.{List, [], ◌∷◌}
use Prim.Native.Nat.{ℕ, ◌+◌, ◌-◌, ◌≤◌, ◌<◌}
use native.Mathlib.Omega.{arith}
use native.Mathlib.Decide.{ℕ_discrete}
use lib.Dec.{eqb}
use lib.ListN.{set, length-set}
use lib.Seq.{get_or-set_same, get_or-set_other}
use Rattle.lists.proofs.Tests.{and_left}
use Rattle.sets.specs.Inner.Sets.{member, members}
use Rattle.sets.proofs.Loops.{lowest_low, turn_among, turn_out, first_member, none_member, none_out, with_more, with_new, with_only, either_left, either_right, either_cases}
use Rattle.grammar.specs.Inner.Rules.{left_at, right_at, pair_from, start_in}
use Rattle.grammar.proofs.Ruling.{pairs_ruled, pair_listed, pair_place}
use Rattle.counting.specs.Needed.{whole}
use Rattle.counting.specs.Inner.Counted.{Asked}
use Rattle.counting.specs.Inner.Needs.{needs_at, NeedsAs, HalfOf, WithHalvesAs, MemberOf, Owners, Finding, FoundTo, FoundAs}
use Rattle.counting.proofs.Needed.{needed_whole, needed_owner}
use Rattle.counting.proofs.Asking.{asked_of, asked_left, asked_right}

-- ---- the pair rules of one nonterminal

-- those before the place i are passed
pub record HalvesTo (rules : List (List ℕ)) (a before i set : ℕ) : Type 0 where
  pub from : pair_from rules a ≤ i
  pub more : (B : ℕ) → member before B ≡ true → member set B ≡ true
  pub has : (j : ℕ) → pair_from rules a ≤ j → j < i → (member set (left_at rules j) ≡ true) × (member set (right_at rules j) ≡ true)
  pub only : (B : ℕ) → member set B ≡ true → (member before B ≡ true) ⊎ HalfOf rules a B

module _ {rules : List (List ℕ)} {a before : ℕ} where
  pub halves_start : {i : ℕ} → i ≡ pair_from rules a → HalvesTo rules a before i before
  halves_start e = record { from = omega arith; more = λ B h. h; has = λ j l u. absurd (omega arith); only = λ B h. inl h }

  module _ {i set : ℕ} (w : HalvesTo rules a before i set) where
    pub halves_step : (one two : ℕ) {b c : ℕ} → i < pair_from rules (a + 1) → b ≡ left_at rules i → c ≡ right_at rules i
        → ((B : ℕ) → member one B ≡ (member set B || eqb b B)) → ((B : ℕ) → member two B ≡ (member one B || eqb c B)) → HalvesTo rules a before (i + 1) two
    halves_step one two {b} {c} l eb ec first second =
        let listed = pair_listed rules a i w.from l in
        let keeps : (B : ℕ) → member set B ≡ true → member two B ≡ true = λ B h. with_more one c two second B (with_more set b one first B h) in
        record {
          from = omega (arith, w.from);
          more = λ B h. keeps B (w.more B h);
          has = λ j s u.
              elim (ℕ_discrete j i) [
                | yes e ↦ rw e (with_more one c two second _ (with_new set b one first _ (sym eb)), with_new one c two second _ (sym ec))
                | no n ↦ let q = w.has j s (omega arith) in (keeps _ q.0, keeps _ q.1)
              ];
          only = λ B h.
              elim (with_only one c two second B h) [
                | inr e ↦ inr ((left_at rules i, right_at rules i), listed, inr (sym e ∙ ec))
                | inl k ↦
                    elim (with_only set b one first B k) [
                      | inr e ↦ inr ((left_at rules i, right_at rules i), listed, inl (sym e ∙ eb))
                      | inl o ↦ w.only B o
                    ]
              ];
        }

    pub halves_end : pair_from rules (a + 1) ≤ i → WithHalvesAs rules (λ A. A ≡ a) before set
    halves_end l = record {
      more = w.more;
      has = λ A B e q.
          let p = pair_place rules a q.0 (rw e at q.1) in
          let there = w.has p.0 p.1 (omega (arith, p.2)) in
          elim q.2 [
            | inl z ↦ rw (z, ← p.3) there.0
            | inr z ↦ rw (z, ← p.4) there.1
          ];
      only = λ B h m.
          elim (w.only B m) [
            | inl z ↦ inl z
            | inr z ↦ inr (a, refl, z)
          ];
    }

-- ---- the pair rules of all owners

-- those of the owners that aren't in `left` are passed
pub record OwnersTo (rules : List (List ℕ)) (owners before left set : ℕ) : Type 0 where
  pub among : (A : ℕ) → MemberOf left A → MemberOf owners A
  pub more : (B : ℕ) → member before B ≡ true → member set B ≡ true
  pub has : (A B : ℕ) → MemberOf owners A → member left A ≡ false → HalfOf rules A B → member set B ≡ true
  pub only : (B : ℕ) → B < 32 → member set B ≡ true → (member before B ≡ true) ⊎ ((A : ℕ) × MemberOf owners A × HalfOf rules A B)

module _ {rules : List (List ℕ)} {owners before : ℕ} where
  module _ {left set : ℕ} (w : OwnersTo rules owners before left set) where
    pub owners_end : members left ≡ [] → WithHalvesAs rules (MemberOf owners) before set
    owners_end e = record { more = w.more; has = λ A B i. w.has A B i (none_out left A e i.0); only = w.only }

    pub owner_here : {a : ℕ} {l : List ℕ} → members left ≡ a ∷ l → MemberOf owners a
    owner_here {a} {l} t = w.among a (lowest_low left a t, first_member left a l t)

    pub owners_step : (a next after : ℕ) → members left ≡ a ∷ members next → WithHalvesAs rules (λ A. A ≡ a) set after → OwnersTo rules owners before next after
    owners_step a next after t d =
        record {
          among = λ A i. w.among A (i.0, turn_among left a next t A i.0 i.1);
          more = λ B h. d.more B (w.more B h);
          has = λ A B i o q.
              elim (ℕ_discrete A a) [
                | yes e ↦ d.has A B e q
                | no n ↦ d.more B (w.has A B i (turn_out left a next t A i.0 o n) q)
              ];
          only = λ B h m.
              elim (d.only B h m) [
                | inl k ↦ w.only B h k
                | inr q ↦ inr (q.0, rw q.1 (owner_here t), q.2)
              ];
        }

-- ---- length after length, from the whole down

-- the sets of the lengths from m on are found; `here` is that of m; `met` are those that are needed above m, `halves` what stands in their pair rules
pub record FindTo (rules : List (List ℕ)) (n m met halves here : ℕ) (needs : List ℕ) : Type 0 where
  pub some : 1 ≤ m
  pub short : m ≤ n
  pub found : FoundTo rules n m needs
  pub at : here ≡ needs_at needs m
  pub met_all : (A k : ℕ) → A < 32 → m < k → Asked rules n A k → member met A ≡ true
  pub met_only : (A : ℕ) → A < 32 → member met A ≡ true → (k : ℕ) × (m < k) × Asked rules n A k
  pub has : (A B : ℕ) → MemberOf met A → HalfOf rules A B → member halves B ≡ true
  pub only : (B : ℕ) → B < 32 → member halves B ≡ true → (A : ℕ) × MemberOf met A × HalfOf rules A B

module _ {rules : List (List ℕ)} {n : ℕ} {start : List ℕ} (f : Finding rules n start) where
  asked_low : {A m : ℕ} → Asked rules n A m → A < 32
  asked_low a = omega (arith, a.inside, f.table.few)

  -- the start symbol alone is needed at the whole length
  pub find_start : {s none here : ℕ} → members none ≡ [] → s ≡ start_in rules → ((B : ℕ) → member here B ≡ (member none B || eqb s B))
      → FindTo rules n n none none here (set start n here)
  find_start {s} {none} {here} z e w =
      let at : needs_at (set start n here) n ≡ here = get_or-set_same start n here 0 (omega (arith, f.long, f.short)) in
      record {
        some = f.some;
        short = omega arith;
        found = record { long = length-set start n here ∙ f.long; each = λ m l u. let q : m ≡ n = omega arith in rw (q, at) whole_alone };
        at = sym at;
        met_all = λ A k h l a. absurd (omega (arith, a.short));
        met_only = λ A h m. absurd (none_member none A z h m);
        has = λ A B i. absurd (none_member none A z i.0 i.1);
        only = λ B h m. absurd (none_member none B z h m);
      }
    where
      whole_alone : NeedsAs rules n n here
      whole_alone A h = (
        λ m. elim (with_only none s here w A m) [
          | inl k ↦ absurd (none_member none A z h k)
          | inr k ↦ rw (← k, e) (asked_of f.table f.some whole)
        ],
        λ a. with_new none s here w A (needed_whole refl a.needed ∙ sym e),
      )

  module _ {m met halves here : ℕ} {needs : List ℕ} (w : FindTo rules n m met halves here needs) where
    needs_here : NeedsAs rules n m here
    needs_here = rw w.at (w.found.each m (omega arith) w.short)

    module _ (fresh : ℕ) (ef : (B : ℕ) → member fresh B ≡ (member here B && not (member met B))) where
      fresh_here : (A : ℕ) → MemberOf fresh A → member here A ≡ true
      fresh_here A i = and_left (member here A) (not (member met A)) (sym (ef A) ∙ i.1)

      pub find_owners : Owners rules fresh
      find_owners = record { table = f.table; inside = λ A i. ((needs_here A i.0).0 (fresh_here A i)).inside }

      module _ {halves' : ℕ} (met' : ℕ) (d : WithHalvesAs rules (MemberOf fresh) halves halves') (em : (B : ℕ) → member met' B ≡ (member met B || member here B)) where
        all' : (A k : ℕ) → A < 32 → m - 1 < k → Asked rules n A k → member met' A ≡ true
        all' A k h l a =
            elim (ℕ_discrete k m) [
              | yes e ↦ either_right met here met' em A ((needs_here A h).1 (rw e at a))
              | no ne ↦ either_left met here met' em A (w.met_all A k h (omega arith) a)
            ]

        only' : (A : ℕ) → A < 32 → member met' A ≡ true → (k : ℕ) × (m - 1 < k) × Asked rules n A k
        only' A h i =
            elim (either_cases met here met' em A i) [
              | inl q ↦ let r = w.met_only A h q in (r.0, omega (arith, r.1), r.2)
              | inr q ↦ (m, omega (arith, w.some), (needs_here A h).0 q)
            ]

        has' : (A B : ℕ) → MemberOf met' A → HalfOf rules A B → member halves' B ≡ true
        has' A B i q = go (member met A) refl
          where
            go : (b : Bool) → member met A ≡ b → member halves' B ≡ true
            go true e = d.more B (w.has A B (i.0, e) q)
            go false e =
                elim (either_cases met here met' em A i.1) [
                  | inl z ↦ absurd (false≢true (sym e ∙ z))
                  | inr z ↦ d.has A B (i.0, ef A ∙ rw (z, e)) q
                ]

        owner' : (B : ℕ) → B < 32 → member halves' B ≡ true → (A : ℕ) × MemberOf met' A × HalfOf rules A B
        owner' B h i =
            elim (d.only B h i) [
              | inl z ↦ let q = w.only B h z in (q.0, (q.1.0, either_left met here met' em q.0 q.1.1), q.2)
              | inr q ↦ (q.0, (q.1.0, either_right met here met' em q.0 (fresh_here q.0 q.1)), q.2)
            ]

        -- what stands in the pair rules of all that were met is what is needed one length below
        below : 1 < m → NeedsAs rules n (m - 1) halves'
        below more B h = (there, back)
          where
            there : member halves' B ≡ true → Asked rules n B (m - 1)
            there i =
                let q = owner' B h i in
                let r = only' q.0 q.1.0 q.1.1 in
                let x = q.2 in
                elim x.2 [
                  | inl e ↦ rw e (asked_left f.table r.2 x.0 x.1 (m - 1) (omega arith) r.1)
                  | inr e ↦ rw e (asked_right f.table r.2 x.0 x.1 (m - 1) (omega arith) r.1)
                ]

            back : Asked rules n B (m - 1) → member halves' B ≡ true
            back a =
                let q = needed_owner (omega (arith, w.short)) a.needed in
                let o = asked_of f.table f.some q.3 in
                let x = q.4 in
                has' q.0 B (asked_low o, all' q.0 q.1 (asked_low o) q.2 o) (x.0, rw (pairs_ruled rules q.0) at x.1, x.2)

        pub find_step : 1 < m → FindTo rules n (m - 1) met' halves' halves' (set needs (m - 1) halves')
        find_step more =
            let at : needs_at (set needs (m - 1) halves') (m - 1) ≡ halves' = get_or-set_same needs (m - 1) halves' 0 (omega (arith, w.found.long, w.short, f.short)) in
            record {
              some = omega arith;
              short = omega (arith, w.short);
              found = record {
                long = length-set needs (m - 1) halves' ∙ w.found.long;
                each = λ j l u.
                    elim (ℕ_discrete j (m - 1)) [
                      | yes e ↦ rw (e, at) (below more)
                      | no ne ↦ rw (get_or-set_other needs (m - 1) j halves' 0 ne) (w.found.each j (omega arith) u)
                    ];
              };
              at = sym at;
              met_all = all';
              met_only = only';
              has = has';
              only = owner';
            }

    pub find_end : m ≤ 1 → FoundAs rules n needs
    find_end l = let e : m ≡ 1 = omega (arith, w.some) in rw e at w.found
