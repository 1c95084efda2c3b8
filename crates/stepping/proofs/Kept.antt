-- What stands at which index of a list that a test or a function was run over.
use Rattle.std.proofs.Common.{◌≡◌, ℕ, zero, suc, Bool, true, false, cond, List, [], ◌∷◌, map, Some, filter, sym, refl, ap, subst, arith}
use Rattle.std.specs.List.{slice_get}
use Rattle.stepping.proofs.Places.{none_some, some_same, Pairs}

pub map_from : {X Y : Type 0} (f : X → Y) (xs : List X) (k : ℕ) (y : Y) → slice_get (map f xs) k ≡ Some y
    → (x : X) × (slice_get xs k ≡ Some x) × (f x ≡ y)
map_from f [] k y e = none_some y e
map_from f (x ∷ xs) zero y e = (x, refl, some_same (f x) y e)
map_from f (x ∷ xs) (suc k) y e = map_from f xs k y e

pub map_to : {X Y : Type 0} (f : X → Y) (xs : List X) (k : ℕ) (x : X) → slice_get xs k ≡ Some x
    → slice_get (map f xs) k ≡ Some (f x)
map_to f [] k x e = none_some x e
map_to f (y ∷ ys) zero x e = ap (λ z. Some (f z)) (some_same y x e)
map_to f (y ∷ ys) (suc k) x e = map_to f ys k x e

module _ {X : Type 0} (test : X → Bool) where
  abbrev From : List X → X → Type 0
  From xs x = (j : ℕ) × (slice_get xs j ≡ Some x) × (test x ≡ true)

  after : (y : X) (ys : List X) (x : X) → From ys x → From (y ∷ ys) x
  after y ys x h = (suc h.0, h.1, h.2)

  head_from : (y : X) (ys : List X) (x : X) → test y ≡ true
      → ((k : ℕ) → slice_get (filter test ys) k ≡ Some x → From ys x) → (k : ℕ)
      → slice_get (y ∷ filter test ys) k ≡ Some x → From (y ∷ ys) x
  head_from y ys x t more zero e =
      let same = some_same y x e in
      (0, e, subst (λ z. test z ≡ true) same t)
  head_from y ys x t more (suc k) e = after y ys x (more k e)

  pub kept_from : (xs : List X) (k : ℕ) (x : X) → slice_get (filter test xs) k ≡ Some x → From xs x
  kept_from [] k x e = none_some x e
  kept_from (y ∷ ys) k x e =
      (elim (test y) as (λ b. test y ≡ b → slice_get (cond b (y ∷ filter test ys) (filter test ys)) k ≡ Some x → From (y ∷ ys) x) [
        | true ↦ λ t h. head_from y ys x t (λ i q. kept_from ys i x q) k h
        | false ↦ λ t h. after y ys x (kept_from ys k x h)
      ]) refl e

  pub kept_to : (xs : List X) (j : ℕ) (x : X) → slice_get xs j ≡ Some x → test x ≡ true
      → (k : ℕ) × (slice_get (filter test xs) k ≡ Some x)
  kept_to [] j x e t = none_some x e
  kept_to (y ∷ ys) zero x e t =
      let here : test y ≡ true = subst (λ z. test z ≡ true) (sym (some_same y x e)) t in
      (0, rw here e)
  kept_to (y ∷ ys) (suc j) x e t =
      let h = kept_to ys j x e t in
      elim (test y) as (λ b. (k : ℕ) × (slice_get (cond b (y ∷ filter test ys) (filter test ys)) k ≡ Some x)) [
        | true ↦ (suc h.0, h.1)
        | false ↦ h
      ]

  module _ (R : X → X → Type 0) where
    pairs_tail : (x : X) (xs : List X) → Pairs R (x ∷ xs) → Pairs R xs
    pairs_tail x xs h i j y z e f l = h (suc i) (suc j) y z e f (omega arith)

    pairs_head : (x : X) (xs : List X) → ((k : ℕ) (y : X) → slice_get xs k ≡ Some y → R x y) → Pairs R xs
        → Pairs R (x ∷ xs)
    pairs_head x xs first rest i zero y z e f l = absurd (omega arith)
    pairs_head x xs first rest zero (suc j) y z e f l = subst (λ w. R w z) (some_same x y e) (first j z f)
    pairs_head x xs first rest (suc i) (suc j) y z e f l = rest i j y z e f (omega arith)

    pub kept_pairs : (xs : List X) → Pairs R xs → Pairs R (filter test xs)
    kept_pairs [] h = h
    kept_pairs (x ∷ xs) h =
        let more = kept_pairs xs (pairs_tail x xs h) in
        elim (test x) as (λ b. Pairs R (cond b (x ∷ filter test xs) (filter test xs))) [
          | true ↦
              pairs_head x (filter test xs)
              (λ k y e. let it = kept_from xs k y e in h 0 (suc it.0) x y refl it.1 (omega arith))
              more
          | false ↦ more
        ]
