-- A tree is in the full list exactly if it is a derivation. By induction on the length: a choice names only shorter halves.
-- Assumes nothing.
use mathlib.Core.Path.{◌≡◌, refl, sym}
use mathlib.Core.Logic.{◌↔◌}
use mathlib.Core.List.Memᴰ
use mathlib.Core.List.{List}
use Prim.Native.Nat.{ℕ, zero, suc, ◌+◌, ◌≤◌, ◌<◌}
use native.Mathlib.Omega.{arith}
use lib.ListN.{length, length-append}
use Rattle.lists.specs.Joined.{◌∈◌, concat_map}
use Rattle.lists.proofs.Sums.{concat_ext}
use Rattle.lists.proofs.Members.{∈_concat, concat_∈, ∈_combine, combine_∈}
use Rattle.grammar.specs.Chains.{Rule}
use Rattle.grammar.specs.Trees.{Tree, leaf, node, size, sentence, Derives, by_word, by_pair}
use Rattle.grammar.specs.FullList.{Choice, one, two, expand, choices, trees_to, trees}
use Rattle.grammar.proofs.Choices.{Begins, choice_begins, choice_one, choice_two}

pub sentence_size : (t : Tree) → length (sentence t) ≡ size t
sentence_size (leaf i w) = refl
sentence_size (node i l r) = omega (arith, length-append (sentence l) (sentence r), sentence_size l, sentence_size r)

-- a choice asks only for shorter lists
expand_ext : (rs : List Rule) (i m : ℕ) (f g : ℕ → ℕ → List Tree) (c : Choice) → Begins rs i m c
    → ((A k : ℕ) → k < m → f A k ≡ g A k) → expand f c ≡ expand g c
expand_ext rs i m f g (one i' w) h e = refl
expand_ext rs i m f g (two i' B k C j) h e = rw (e B k (omega arith), e C j (omega arith))

module _ (chain : ℕ → List Rule) where
  -- ---- the depth is met here and nowhere else

  trees_to_deep : (f g A m : ℕ) → m < f → m < g → trees_to chain f A m ≡ trees_to chain g A m
  unfolding trees_to
  trees_to_deep zero g A m h h' = absurd (omega arith)
  trees_to_deep (suc f) zero A m h h' = absurd (omega arith)
  trees_to_deep (suc f) (suc g) A m h h' =
      concat_ext (expand (trees_to chain f)) (expand (trees_to chain g)) (choices chain A m)
      (λ c mem. expand_ext (chain A) 0 m (trees_to chain f) (trees_to chain g) c (choice_begins (chain A) 0 m c mem)
      (λ B k l. trees_to_deep f g B k (omega arith) (omega arith)))

  -- the full list: choice after choice, what begins so
  pub trees_eq : (A m : ℕ) → trees chain A m ≡ concat_map (expand (trees chain)) (choices chain A m)
  unfolding trees trees_to
  trees_eq A m =
      concat_ext (expand (trees_to chain m)) (expand (trees chain)) (choices chain A m)
      (λ c mem. expand_ext (chain A) 0 m (trees_to chain m) (trees chain) c (choice_begins (chain A) 0 m c mem)
      (λ B k l. trees_to_deep m (suc k) B k (omega arith) (omega arith)))

  -- ---- what is listed is a derivation

  sound_choice : (A m : ℕ) (c : Choice) → Begins (chain A) 0 m c
      → ((B k : ℕ) (u : Tree) → k < m → u ∈ trees chain B k → Derives chain B k u)
      → (t : Tree) → t ∈ expand (trees chain) c → Derives chain A m t
  sound_choice A m (one i w) h ih t mem =
      let e : h.0 ≡ i = omega arith in
      rw (Memᴰ.eq_of_singleton mem) (by_word (rw e at h.2) h.3)
  sound_choice A m (two i B k C j) h ih t mem =
      let q = combine_∈ (node i) (trees chain B k) (trees chain C j) mem in
      let e : h.0 ≡ i = omega arith in
      rw (← q.4) (by_pair (rw e at h.2) h.5 (ih B k q.0 (omega arith) q.2) (ih C j q.1 (omega arith) q.3))

  sound_below : (n A m : ℕ) (t : Tree) → m < n → t ∈ trees chain A m → Derives chain A m t
  sound_below zero A m t h mem = absurd (omega arith)
  sound_below (suc n) A m t h mem =
      let q = concat_∈ (expand (trees chain)) (choices chain A m) (rw (trees_eq A m) at mem) in
      sound_choice A m q.0 (choice_begins (chain A) 0 m q.0 q.1)
      (λ B k u l r. sound_below n B k u (omega arith) r) t q.2

  pub sound : (A m : ℕ) (t : Tree) → t ∈ trees chain A m → Derives chain A m t
  sound A m t mem = sound_below (suc m) A m t (omega arith) mem

  -- ---- a derivation is listed

  pub derives_size : {A m : ℕ} {t : Tree} → Derives chain A m t → size t ≡ m
  derives_size (by_word h e) = sym e
  derives_size (by_pair h e a b) = omega (arith, derives_size a, derives_size b)

  pub derives_some : {A m : ℕ} {t : Tree} → Derives chain A m t → 1 ≤ m
  derives_some (by_word h e) = omega arith
  derives_some (by_pair h e a b) = omega (arith, derives_some a)

  pub complete : {A m : ℕ} {t : Tree} → Derives chain A m t → t ∈ trees chain A m
  complete {A} {m} {t} (by_word {i = i} {w = w} h e) =
      rw (e, trees_eq A 1)
      (∈_concat (expand (trees chain)) (one (0 + i) w) (choices chain A 1) (choice_one (chain A) 0 i w h)
      (let z : 0 + i ≡ i = omega arith in rw z (Memᴰ.head refl)))
  complete {A} {m} {t} (by_pair {B = B} {C = C} {k = k} {j = j} {i = i} {l = l} {r = r} h e a b) =
      rw (← e, trees_eq A (k + j))
      (∈_concat (expand (trees chain)) (two (0 + i) B k C j) (choices chain A (k + j))
      (choice_two (chain A) 0 i B C k j h (derives_some a) (derives_some b))
      (let z : 0 + i ≡ i = omega arith in rw z (∈_combine (node i) (trees chain B k) (trees chain C j) (complete a) (complete b))))

  -- the full list holds just the derivations
  pub listed : (A m : ℕ) (t : Tree) → t ∈ trees chain A m ↔ Derives chain A m t
  listed A m t = (sound A m t, complete)
