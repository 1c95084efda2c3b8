-- Lists whose elements match one another, by how long they are.
use Rattle.std.proofs.Common.{◌≡◌, ℕ, zero, suc, ◌≤◌, List, [], ◌∷◌, length, Some, sym, refl, ap, ◌∙◌, subst, arith}
use Rattle.std.specs.List.{ContainsAt as Has, remove, slice_get}
use Rattle.std.proofs.lemmas.List.Edits.{length-remove}
use Rattle.std.proofs.lemmas.Option.{slice_get_within}
use Rattle.stepping.specs.Number.{Lists}
use Rattle.stepping.proofs.Places.{none_some, some_same, nth_has}

removed_keeps : {X : Type 0} (k j : ℕ) (xs : List X) (x : X) → slice_get xs j ≡ Some x → (k ≡ j → ⊥)
    → (i : ℕ) × (slice_get (remove xs k) i ≡ Some x)
removed_keeps k j [] x e d = none_some x e
removed_keeps zero zero (y ∷ ys) x e d = absurd (d refl)
removed_keeps zero (suc j) (y ∷ ys) x e d = (j, e)
removed_keeps (suc k) zero (y ∷ ys) x e d = (0, e)
removed_keeps (suc k) (suc j) (y ∷ ys) x e d =
    let h = removed_keeps k j ys x e (λ q. d (ap suc q)) in
    (suc h.0, h.1)

-- Where each element of xs has a match in ys, and no two have the same, xs is no longer than ys.
pub matched_le : {X Y : Type 0} (R : X → Y → Type 0) (xs : List X) (ys : List Y)
    → ((i : ℕ) (x : X) → slice_get xs i ≡ Some x → (k : ℕ) × (y : Y) × (slice_get ys k ≡ Some y) × R x y)
    → ((i j : ℕ) (x z : X) (y : Y) → slice_get xs i ≡ Some x → slice_get xs j ≡ Some z → R x y → R z y → i ≡ j)
    → length xs ≤ length ys
matched_le R [] ys f d = omega arith
matched_le {X} {Y} R (x ∷ xs) ys f d =
    let here = f 0 x refl in
    let k = here.0 in
    let y = here.1 in
    let in_ys = slice_get_within ys k y here.2 in
    let shorter = length-remove ys k in_ys in
    let rest : (i : ℕ) (z : X) → slice_get xs i ≡ Some z → (m : ℕ) × (w : Y) × (slice_get (remove ys k) m ≡ Some w) × R z w =
    λ i z e.
    let there = f (suc i) z e in
    let apart : k ≡ there.0 → ⊥ =
    λ q.
    let same : y ≡ there.1 = some_same y there.1 (sym here.2 ∙ (ap (slice_get ys) q ∙ there.2)) in
    let bad = d 0 (suc i) x z there.1 refl e (subst (R x) same here.3) there.3 in
    omega arith in
    let kept = removed_keeps k there.0 ys there.1 there.2 apart in
    (kept.0, there.1, kept.1, there.3) in
    let less =
    matched_le R xs (remove ys k) rest
    (λ i j a b w p q r s. let h = d (suc i) (suc j) a b w p q r s in omega arith) in
    omega arith

-- Two lists of the same, each once, are equally long.
pub lists_length : {X : Type 0} (P : X → Type 0) (xs ys : List X) → Lists P xs → Lists P ys
    → length xs ≡ length ys
lists_length {X} P xs ys a b =
    let one_way : (us vs : List X) → Lists P us → Lists P vs → length us ≤ length vs =
    λ us vs c d.
    matched_le ◌≡◌ us vs
    (λ i x e. let h = d.complete x (c.sound i x e) in (h.0, x, h.1, refl))
    (λ i j x z y e f r s. c.once i j y (e ∙ ap Some r) (f ∙ ap Some s)) in
    let p = one_way xs ys a b in
    let q = one_way ys xs b a in
    omega arith

-- No element stands in the list twice.
abbrev pub Once : List ℕ → Type 0
Once vs = (i j v : ℕ) → slice_get vs i ≡ Some v → slice_get vs j ≡ Some v → i ≡ j

pub once_more : (u : ℕ) (vs : List ℕ) → ((i : ℕ) → slice_get vs i ≡ Some u → ⊥) → Once vs → Once (u ∷ vs)
once_more u vs fresh h zero zero v e f = refl
once_more u vs fresh h zero (suc j) v e f = absurd (fresh j (f ∙ sym e))
once_more u vs fresh h (suc i) zero v e f = absurd (fresh i (e ∙ sym f))
once_more u vs fresh h (suc i) (suc j) v e f = ap suc (h i j v e f)

pub once_le : (us vs : List ℕ) → Once us → ((i v : ℕ) → slice_get us i ≡ Some v → Has vs v) → length us ≤ length vs
once_le us vs once has =
    matched_le ◌≡◌ us vs
    (λ i v e. let s = nth_has vs v (has i v e) in (s.0, v, s.1, refl))
    (λ i j x z y e f r s. once i j y (e ∙ ap Some r) (f ∙ ap Some s))
