-- Lists made part by part, over the numbers from 0 on.
use Rattle.std.proofs.Common.{◌≡◌, ℕ, zero, suc, ◌+◌, ◌*◌, ◌<◌, ◌≤◌, ◌⊎◌, List, [], ◌∷◌, length, sym, ◌∙◌, subst, inl, inr, suc-mul, zero-add, arith, length-append}
use Rattle.std.specs.List.{range_with_len, ContainsAt as Has, flat_map, AllByRecursion as All}
use Rattle.std.proofs.lemmas.List.FromFn.{length-range_with_len, get_or-range_with_len}
use Rattle.std.proofs.ByRecursion.{All-append, has_append_left, has_append_right, has_get_or}

pub all_joined : {X Y : Type 0} (Q : Y → Type 0) (f : X → List Y) (xs : List X) → All (λ x. All Q (f x)) xs
    → All Q (flat_map f xs)
all_joined Q f [] h = tt
all_joined Q f (x ∷ xs) h = All-append Q (f x) (flat_map f xs) h.0 (all_joined Q f xs h.1)

pub all_counting : (P : ℕ → Type 0) (a n : ℕ) → ((p : ℕ) → p < a + n → P p) → All P (range_with_len a n)
all_counting P a zero h = tt
all_counting P a (suc n) h = (h a (omega arith), all_counting P (a + 1) n (λ p l. h p (omega arith)))

has_cases : {X : Type 0} (x : X) (xs : List X) (y : X) → Has (x ∷ xs) y → (x ≡ y) ⊎ Has xs y
has_cases x xs y (zero, l, at) = inl (at x)
has_cases x xs y (suc k, l, at) = inr (k, omega arith, at)

pub has_joined : {X Y : Type 0} (f : X → List Y) (xs : List X) (x : X) (y : Y) → Has xs x → Has (f x) y
    → Has (flat_map f xs) y
has_joined f [] x y (k, l, at) h = absurd (omega arith)
has_joined f (z ∷ zs) x y s h =
    elim (has_cases z zs x s) [
      | inl e ↦ has_append_left (f z) (flat_map f zs) y (subst (λ w. Has (f w) y) (sym e) h)
      | inr t ↦ has_append_right (f z) (flat_map f zs) y (has_joined f zs x y t h)
    ]

pub has_counting : (n p : ℕ) → p < n → Has (range_with_len 0 n) p
has_counting n p l =
    let e = length-range_with_len 0 n in
    subst (Has (range_with_len 0 n)) (get_or-range_with_len 0 n p 0 l ∙ zero-add p) (has_get_or (range_with_len 0 n) p 0 (omega arith))

pub length_joined : {X Y : Type 0} (f : X → List Y) (xs : List X) (most : ℕ) → ((x : X) → length (f x) ≤ most)
    → length (flat_map f xs) ≤ length xs * most
length_joined f [] most h = omega arith
length_joined f (x ∷ xs) most h =
    let a = h x in
    let b = length_joined f xs most h in
    let c = length-append (f x) (flat_map f xs) in
    let d = suc-mul (length xs) most in
    omega arith
