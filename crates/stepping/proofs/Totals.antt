-- Sums over the numbers below a number, and a run's length as the sum of how many labels each node has.
use Rattle.std.proofs.Common.{◌≡◌, ℕ, zero, suc, ◌+◌, ◌<◌, List, [], ◌∷◌, map, length, Some, sum, sym, refl, subst, inl, inr, add-one, arith}
use Rattle.std.specs.List.{range_with_len, slice_get}
use Rattle.std.proofs.lemmas.List.FromFn.{sum_by-map-range_with_len_more}
use Rattle.std.proofs.lemmas.Bool.{cases_eq, eq-eqb, ne_eqb}
use Rattle.stepping.specs.declared.Label.{Label}
use Rattle.stepping.specs.Number.{weights_at}

abbrev pub total : ℕ → (ℕ → ℕ) → ℕ
total n f = sum (map f (range_with_len 0 n))

total_suc : (n : ℕ) (f : ℕ → ℕ) → total (suc n) f ≡ total n f + f n
total_suc n f =
    subst
    (λ m. total m f ≡ total n f + f n)
    (add-one n)
    (sum_by-map-range_with_len_more (λ x. x) f 0 n n (omega arith))

pub total_same : (n : ℕ) (f g : ℕ → ℕ) → ((v : ℕ) → v < n → f v ≡ g v) → total n f ≡ total n g
total_same zero f g h = refl
total_same (suc n) f g h =
    let a = total_same n f g (λ v l. h v (omega arith)) in
    let b = h n (omega arith) in
    let c = total_suc n f in
    let d = total_suc n g in
    omega arith

-- one more at one number is one more in all
total_one : (n a : ℕ) (f g : ℕ → ℕ) → a < n → f a ≡ suc (g a) → ((v : ℕ) → (a ≡ v → ⊥) → f v ≡ g v)
    → total n f ≡ suc (total n g)
total_one zero a f g l e h = absurd (omega arith)
total_one (suc n) a f g l e h =
    let c = total_suc n f in
    let d = total_suc n g in
    elim (cases_eq a n) [
      | inl q ↦
          let t = total_same n f g (λ v k. h v (λ s. omega arith)) in
          let u : f n ≡ suc (g n) = subst (λ z. f z ≡ suc (g z)) q e in
          omega arith
      | inr q ↦
          let t = total_one n a f g (omega arith) e h in
          let u = h n q in
          omega arith
    ]

total_zero : (n : ℕ) → total n (λ v. 0) ≡ 0
total_zero zero = refl
total_zero (suc n) =
    let h = total_zero n in
    let s = total_suc n (λ v. 0) in
    omega arith

pub length_total : {W : Type 0} (n : ℕ) (run : List (Label W))
    → ((k : ℕ) (l : Label W) → slice_get run k ≡ Some l → l.node < n)
    → length run ≡ total n (λ v. length (weights_at v run))
length_total n [] h = sym (total_zero n)
length_total n (l ∷ ls) h =
    let more = length_total n ls (λ k m e. h (suc k) m e) in
    let one =
    total_one n l.node
    (λ v. length (weights_at v (l ∷ ls)))
    (λ v. length (weights_at v ls))
    (h 0 l refl)
    (rw (eq-eqb l.node l.node refl) refl)
    (λ v d. rw (ne_eqb l.node v d) refl) in
    omega arith
