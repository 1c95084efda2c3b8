-- What stands at which index of a list, and of a list that grows at its end.
use Rattle.std.proofs.Common.{◌≡◌, ℕ, zero, suc, ◌<◌, ◌⊎◌, List, [], ◌∷◌, ◌++◌, length, take, Some, None, Option, sym, refl, ap, ◌∙◌, subst, inl, inr, arith}
use Rattle.std.specs.List.{ContainsAt as Has, slice_get}
use Rattle.std.proofs.lemmas.Option.{slice_get-get_or, slice_get_within}

pub none_some : {X : Type 0} (x : X) {G : Type 0} → ◌≡◌ {A = Option X} None (Some x) → G
none_some {X} x {G} e = absurd (let z : ◌≡◌ {A = ℕ} 0 1 = cc in omega arith)

pub some_same : {X : Type 0} (x y : X) → ◌≡◌ {A = Option X} (Some x) (Some y) → x ≡ y
some_same x y e = cc

pub nth_take : {X : Type 0} (n : ℕ) (xs : List X) (k : ℕ) (x : X) → slice_get (take n xs) k ≡ Some x
    → (k < n) × (slice_get xs k ≡ Some x)
nth_take zero xs k x e = none_some x e
nth_take (suc n) [] k x e = none_some x e
nth_take (suc n) (y ∷ ys) zero x e = (omega arith, e)
nth_take (suc n) (y ∷ ys) (suc k) x e = let h = nth_take n ys k x e in let l = h.0 in (omega arith, h.1)

pub nth_has : {X : Type 0} (xs : List X) (x : X) → Has xs x → (k : ℕ) × (slice_get xs k ≡ Some x)
nth_has xs x h = (h.0, subst (λ y. slice_get xs h.0 ≡ Some y) (h.2 x) (slice_get-get_or xs h.0 x h.1))

pub has_nth : {X : Type 0} (xs : List X) (k : ℕ) (x : X) → slice_get xs k ≡ Some x → Has xs x
has_nth xs k x e =
    let l = slice_get_within xs k x e in
    (k, l, λ d. some_same _ x (sym (slice_get-get_or xs k d l) ∙ e))

pub push_cases : {X : Type 0} (xs : List X) (y : X) (k : ℕ) (x : X) → slice_get (xs ++ y ∷ []) k ≡ Some x
    → (slice_get xs k ≡ Some x) ⊎ ((k ≡ length xs) × (y ≡ x))
push_cases [] y zero x e = inr (refl, some_same y x e)
push_cases [] y (suc k) x e = none_some x e
push_cases (z ∷ zs) y zero x e = inl e
push_cases (z ∷ zs) y (suc k) x e =
    elim (push_cases zs y k x e) [ inl h ↦ inl h | inr h ↦ inr (ap suc h.0, h.1) ]

pub push_old : {X : Type 0} (xs : List X) (y : X) (k : ℕ) (x : X) → slice_get xs k ≡ Some x
    → slice_get (xs ++ y ∷ []) k ≡ Some x
push_old [] y k x e = none_some x e
push_old (z ∷ zs) y zero x e = e
push_old (z ∷ zs) y (suc k) x e = push_old zs y k x e

-- a list of one
pub only_same : {X : Type 0} (it : X) (k : ℕ) (x : X) → slice_get (it ∷ []) k ≡ Some x → it ≡ x
only_same it k x e = elim (push_cases [] it k x e) [ inl o ↦ none_some x o | inr o ↦ o.1 ]

pub only_once : {X : Type 0} (it : X) (i j : ℕ) (x y : X) → slice_get (it ∷ []) i ≡ Some x → slice_get (it ∷ []) j ≡ Some y
    → i < j → ⊥
only_once it i j x y a b h =
    let p = slice_get_within (it ∷ []) j y b in
    omega arith

-- R holds of each two elements in their order
abbrev pub Pairs : {X : Type 0} → (X → X → Type 0) → List X → Type 0
Pairs {X} R xs = (i j : ℕ) (x y : X) → slice_get xs i ≡ Some x → slice_get xs j ≡ Some y → i < j → R x y

pub pairs_push : {X : Type 0} (R : X → X → Type 0) (xs : List X) (c : X) → Pairs R xs
    → ((k : ℕ) (x : X) → slice_get xs k ≡ Some x → R x c) → Pairs R (xs ++ c ∷ [])
pairs_push R xs c h last i j x y e f l =
    elim (push_cases xs c j y f) [
      | inl q ↦
          elim (push_cases xs c i x e) [
            | inl p ↦ h i j x y p q l
            | inr p ↦ absurd (let b = slice_get_within xs j y q in omega arith)
          ]
      | inr q ↦
          elim (push_cases xs c i x e) [
            | inl p ↦ subst (R x) q.1 (last i x p)
            | inr p ↦ absurd (omega arith)
          ]
    ]
