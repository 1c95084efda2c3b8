-- The list of candidates has what is a candidate, and nothing else.
use Rattle.std.proofs.Common.{◌≡◌, ℕ, zero, suc, ◌+◌, ◌<◌, Bool, true, false, cond, ◌&&◌, eqb, List, [], ◌∷◌, Some, None, Option, sym, refl, subst, arith}
use Rattle.std.specs.List.{range_with_len, ContainsAt as Has, AllByRecursion as All, slice_get}
use Rattle.std.proofs.ByRecursion.{has_append_right}
use Rattle.std.proofs.lemmas.Bool.{eqb-true, eq-eqb, and_parts, and_from, cond_both, both_ways}
use Rattle.std.proofs.lemmas.Float.{T_from_true}
use Rattle.weights.specs.Algebra.{Algebra}
use Rattle.carriers.specs.declared.sides.Side.{Side}
use Rattle.carriers.specs.declared.sides.Side.TheVariants.{Inside, Onward}
use Rattle.carriers.specs.Carrier.{Link}
use Rattle.stepping.specs.declared.Label.{Label}
use Rattle.stepping.specs.Labels.{Labels}
use Rattle.stepping.specs.View.{View, Present}
use Rattle.stepping.specs.Candidates.{made, of_labels, of_side, of_place, candidates, Candidate, inside, onward}
use Rattle.stepping.proofs.Tests.{T_true}
use Rattle.stepping.proofs.Joined.{all_joined, all_counting, has_joined, has_counting}
use Rattle.stepping.proofs.Places.{none_some, some_same}

has_here : {X : Type 0} (b : Bool) (x : X) (xs : List X) → b ≡ true → Has (cond b (x ∷ xs) xs) x
has_here true x xs e = (0, omega arith, λ d. refl)
has_here false x xs e = absurd (both_ways false refl e)

has_after : {X : Type 0} (b : Bool) (x : X) (xs : List X) (y : X) → Has xs y → Has (cond b (x ∷ xs) xs) y
has_after true x xs y h = has_append_right (x ∷ []) xs y h
has_after false x xs y h = h

module _ (A : Algebra) (V : View A) (p : ℕ) (l : Link A.Weight) (pass : Label A.Weight → Bool) where
  abbrev meets : Label A.Weight → Bool
  meets y = eqb y.node l.head && pass y

  labels_are : (Q : Label A.Weight → Type 0) (ys : Labels A) (k : ℕ)
      → ((i : ℕ) (y : Label A.Weight) → slice_get ys i ≡ Some y → y.node ≡ l.head → pass y ≡ true → Q (made A V p l (k + i) y))
      → All Q (of_labels A V p l pass k ys)
  labels_are Q [] k q = tt
  labels_are Q (y ∷ ys) k q =
      let at : (m n : ℕ) (z : Label A.Weight) → m ≡ n → Q (made A V p l m z) → Q (made A V p l n z) =
      λ m n z e h. subst (λ k. Q (made A V p l k z)) e h in
      let rest = labels_are Q ys (suc k) (λ i z e n t. at (k + suc i) (suc k + i) z (omega arith) (q (suc i) z e n t)) in
      cond_both
      (meets y)
      (made A V p l k y ∷ of_labels A V p l pass (suc k) ys)
      (of_labels A V p l pass (suc k) ys)
      (All Q)
      (λ e.
      let h = and_parts (eqb y.node l.head) (pass y) e in
      (at (k + 0) k y (omega arith) (q 0 y refl (eqb-true y.node l.head h.0) h.1), rest))
      (λ e. rest)

  labels_have : (ys : Labels A) (k i : ℕ) (y : Label A.Weight) → slice_get ys i ≡ Some y → y.node ≡ l.head
      → pass y ≡ true → Has (of_labels A V p l pass k ys) (made A V p l (k + i) y)
  labels_have [] k i y e n t = none_some y e
  labels_have (z ∷ zs) k zero y e n t =
      let same = some_same z y e in
      let test : meets z ≡ true = rw same (and_from (eqb y.node l.head) (pass y) (eq-eqb y.node l.head n) t) in
      let none : k ≡ k + 0 = omega arith in
      subst
      (λ m. Has (of_labels A V p l pass k (z ∷ zs)) (made A V p l m y))
      none
      (subst
      (λ w. Has (of_labels A V p l pass k (z ∷ zs)) (made A V p l k w))
      same
      (has_here (meets z) (made A V p l k z) (of_labels A V p l pass (suc k) zs) test))
  labels_have (z ∷ zs) k (suc i) y e n t =
      let one : suc k + i ≡ k + suc i = omega arith in
      has_after
      (meets z)
      (made A V p l k z)
      (of_labels A V p l pass (suc k) zs)
      (made A V p l (k + suc i) y)
      (subst (λ m. Has (of_labels A V p l pass (suc k) zs) (made A V p l m y)) one (labels_have zs (suc k) i y e n t))

module _ (A : Algebra) (V : View A) (run : Labels A) where
  side_are : (p : ℕ) (l : Link A.Weight) → Present V p l → (s : Side) → l.side ≡ s
      → All (Candidate A V run) (of_side A V run p l s)
  side_are p l h Inside s =
      labels_are A V p l (λ y. true) (Candidate A V run) run V.start
      (λ i y e n t. inside p l i y h s e n refl)
  side_are p l h Onward s =
      labels_are A V p l (λ y. y.mark) (Candidate A V run) V.before V.before_start
      (λ i y e n t. onward p l i y h s e n (T_from_true y.mark t) refl)

  place_are : (p : ℕ) → p < V.places → (o : Option (Link A.Weight)) → V.at p ≡ o
      → All (Candidate A V run) (of_place A V run p o)
  place_are p h None e = tt
  place_are p h (Some l) e = side_are p l (h, e) l.side refl

  pub candidates_are : All (Candidate A V run) (candidates A V run)
  candidates_are =
      all_joined
      (Candidate A V run)
      (λ p. of_place A V run p (V.at p))
      (range_with_len 0 V.places)
      (all_counting
      (λ p. All (Candidate A V run) (of_place A V run p (V.at p)))
      0
      V.places
      (λ p h. place_are p (omega arith) (V.at p) refl))

  place_has : (p : ℕ) (l : Link A.Weight) (d : Label A.Weight) (s : Side) → Present V p l → l.side ≡ s
      → Has (of_side A V run p l s) d → Has (candidates A V run) d
  place_has p l d s h e m =
      has_joined
      (λ q. of_place A V run q (V.at q))
      (range_with_len 0 V.places)
      p
      d
      (has_counting V.places p h.0)
      (subst (λ o. Has (of_place A V run p o) d) (sym h.1) (subst (λ z. Has (of_side A V run p l z) d) (sym e) m))

  pub candidates_have : (d : Label A.Weight) → Candidate A V run d → Has (candidates A V run) d
  candidates_have d (inside p l k y h s e n q) =
      subst (Has (candidates A V run)) q
      (place_has p l _ Inside h s
      (labels_have A V p l (λ y. true) run V.start k y e n refl))
  candidates_have d (onward p l k y h s e n m q) =
      subst (Has (candidates A V run)) q
      (place_has p l _ Onward h s
      (labels_have A V p l (λ y. y.mark) V.before V.before_start k y e n (T_true y.mark m)))
