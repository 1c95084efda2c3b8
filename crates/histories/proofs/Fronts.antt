-- Of the weights that a property holds of there is no more than one front.
use Rattle.std.proofs.Common.{◌≡◌, ℕ, zero, suc, T, List, [], ◌∷◌, Some, sym, refl, ap, ◌∙◌, subst, inl, inr, arith}
use Rattle.std.proofs.lemmas.Option.{slice_get_within}
use Rattle.std.specs.List.{slice_get}
use Rattle.std.proofs.lemmas.Bool.{cases_order, cases_eq}
use Rattle.weights.specs.Algebra.{Algebra, Laws}
use Rattle.stepping.proofs.Places.{none_some, some_same, Pairs}
use Rattle.histories.specs.Promise.{Front}
use Rattle.histories.proofs.Places.{nth_some}

module _ (A : Algebra) (laws : Laws A) where
  abbrev In : List A.Weight → A.Weight → Type 0
  In ws x = (i : ℕ) × (slice_get ws i ≡ Some x)

  abbrev Before : A.Weight → A.Weight → Type 0
  Before x y = T (A.before x y)

  -- each before the next, so each before every later one
  ascending_pairs : (ws : List A.Weight)
      → ((i : ℕ) (x y : A.Weight) → slice_get ws i ≡ Some x → slice_get ws (suc i) ≡ Some y → Before x y) → Pairs Before ws
  ascending_pairs ws h i zero x y e f o = absurd (omega arith)
  ascending_pairs ws h i (suc j) x y e f o =
      elim (cases_order i j) [
        | inl q ↦ h i x y e (subst (λ n. slice_get ws (suc n) ≡ Some y) (sym q) f)
        | inr q ↦
            elim q [
              | inl l ↦
                  let m = nth_some ws j (let b = slice_get_within ws (suc j) y f in omega arith) in
                  laws.before_trans x m.0 y (ascending_pairs ws h i j x m.0 e m.1 l) (h j m.0 y m.1 f)
              | inr l ↦ absurd (omega arith)
            ]
      ]

  pairs_tail : (w : A.Weight) (ws : List A.Weight) → Pairs Before (w ∷ ws) → Pairs Before ws
  pairs_tail w ws h i j x y e f o = h (suc i) (suc j) x y e f (omega arith)

  -- what the same first weight stands before is found after it
  in_tail : (x y z : A.Weight) (ys : List A.Weight) → x ≡ y → Before x z → In (y ∷ ys) z → In ys z
  in_tail x y z ys e b (zero, p) = absurd (laws.before_irrefl x (subst (Before x) (sym (e ∙ some_same y z p)) b))
  in_tail x y z ys e b (suc i, p) = (i, p)

  same_head : (x y : A.Weight) (xs ys : List A.Weight) → Pairs Before (x ∷ xs) → Pairs Before (y ∷ ys)
      → In (y ∷ ys) x → In (x ∷ xs) y → x ≡ y
  same_head x y xs ys hx hy (zero, p) q = sym (some_same y x p)
  same_head x y xs ys hx hy (suc i, p) (zero, q) = some_same x y q
  same_head x y xs ys hx hy (suc i, p) (suc j, q) =
      absurd (laws.before_irrefl x
      (laws.before_trans x y x (hx 0 (suc j) x y refl q (omega arith)) (hy 0 (suc i) y x refl p (omega arith))))

  abbrev AllIn : List A.Weight → List A.Weight → Type 0
  AllIn xs ys = (i : ℕ) (x : A.Weight) → slice_get xs i ≡ Some x → In ys x

  all_in_tail : (x y : A.Weight) (xs ys : List A.Weight) → x ≡ y → Pairs Before (x ∷ xs)
      → AllIn (x ∷ xs) (y ∷ ys) → AllIn xs ys
  all_in_tail x y xs ys e h f i z p = in_tail x y z ys e (h 0 (suc i) x z refl p (omega arith)) (f (suc i) z p)

  same_ascending : (xs ys : List A.Weight) → Pairs Before xs → Pairs Before ys → AllIn xs ys → AllIn ys xs
      → ys ≡ xs
  same_ascending [] [] hx hy f g = refl
  same_ascending [] (y ∷ ys) hx hy f g = let q = g 0 y refl in none_some y q.1
  same_ascending (x ∷ xs) [] hx hy f g = let q = f 0 x refl in none_some x q.1
  same_ascending (x ∷ xs) (y ∷ ys) hx hy f g =
      let e = same_head x y xs ys hx hy (f 0 x refl) (g 0 y refl) in
      let t =
      same_ascending xs ys (pairs_tail x xs hx) (pairs_tail y ys hy)
      (all_in_tail x y xs ys e hx f)
      (all_in_tail y x ys xs (sym e) hy g) in
      cc

  module _ (R : A.Weight → Type 0) where
    -- each weight of one front is in the other
    front_in : (xs ys : List A.Weight) → Front A R xs → Front A R ys → AllIn ys xs
    front_in xs ys f g i y e =
        let m = f.complete y (g.sound i y e) in
        let x = m.1 in
        let n = g.complete x (f.sound m.0 x m.2) in
        let z = n.1 in
        elim (cases_eq n.0 i) [
          | inl o ↦
              let same : z ≡ y = some_same z y (sym n.2 ∙ (ap (slice_get ys) o ∙ e)) in
              let back : T (A.good y x) = subst (λ w. T (A.good w x)) same n.3 in
              (m.0, m.2 ∙ ap Some (laws.good_antisym x y m.3 back))
          | inr o ↦ absurd (g.apart n.0 i z y n.2 e o (laws.good_trans z x y n.3 m.3))
        ]

    pub same_front : (xs ys : List A.Weight) → Front A R xs → Front A R ys → ys ≡ xs
    same_front xs ys f g =
        same_ascending xs ys
        (ascending_pairs xs f.ascending)
        (ascending_pairs ys g.ascending)
        (front_in ys xs g f)
        (front_in xs ys f g)
