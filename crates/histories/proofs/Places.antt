-- What stands at which index of two lists, one after the other.
use Rattle.std.proofs.Common.{◌≡◌, ℕ, zero, suc, ◌+◌, ◌<◌, List, [], ◌∷◌, ◌++◌, length, Some, refl, ap, ◌∙◌, zero-add, arith}
use Rattle.std.specs.List.{slice_get}
use Rattle.stepping.proofs.Places.{none_some}

pub nth_skip : {X : Type 0} (xs ys : List X) (k : ℕ) → slice_get (xs ++ ys) (length xs + k) ≡ slice_get ys k
nth_skip [] ys k = ap (slice_get ys) (zero-add k)
nth_skip (x ∷ xs) ys k =
    let one : suc (length xs) + k ≡ suc (length xs + k) = omega arith in
    ap (slice_get (x ∷ (xs ++ ys))) one ∙ nth_skip xs ys k

pub nth_left : {X : Type 0} (xs ys : List X) (k : ℕ) (x : X) → slice_get xs k ≡ Some x → slice_get (xs ++ ys) k ≡ Some x
nth_left [] ys k x e = none_some x e
nth_left (y ∷ xs) ys zero x e = e
nth_left (y ∷ xs) ys (suc k) x e = nth_left xs ys k x e

pub nth_end : {X : Type 0} (xs : List X) (x : X) (ys : List X) (n : ℕ) → length xs ≡ n
    → slice_get (xs ++ x ∷ ys) n ≡ Some x
nth_end xs x ys n e =
    let at : n ≡ length xs + 0 = omega arith in
    ap (slice_get (xs ++ x ∷ ys)) at ∙ nth_skip xs (x ∷ ys) 0

pub nth_some : {X : Type 0} (xs : List X) (k : ℕ) → k < length xs → (x : X) × (slice_get xs k ≡ Some x)
nth_some [] k h = absurd (omega arith)
nth_some (x ∷ xs) zero h = (x, refl)
nth_some (x ∷ xs) (suc k) h = nth_some xs k (omega arith)
