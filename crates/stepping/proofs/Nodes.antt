-- The nodes at which the labels of a run can stand.
use Rattle.std.proofs.Common.{◌≡◌, ℕ, ◌+◌, ◌≤◌, List, [], ◌∷◌, ◌++◌, length, Some, None, Option, sym, refl, subst, arith, length-append}
use Rattle.std.specs.List.{range_with_len, ContainsAt as Has, flat_map}
use Rattle.std.proofs.lemmas.List.FromFn.{length-range_with_len}
use Rattle.std.proofs.ByRecursion.{has_append_left, has_append_right}
use Rattle.weights.specs.Algebra.{Algebra}
use Rattle.carriers.specs.Carrier.{Link}
use Rattle.stepping.specs.View.{View, Present}
use Rattle.stepping.proofs.Joined.{has_joined, has_counting, length_joined}
use Rattle.stepping.proofs.Places.{none_some, has_nth}

abbrev tail_of : {W : Type 0} → Option (Link W) → List ℕ
tail_of None = []
tail_of (Some l) = l.tail ∷ []

abbrev node_of : Option ℕ → List ℕ
node_of None = []
node_of (Some t) = t ∷ []

tail_le : {W : Type 0} (o : Option (Link W)) → length (tail_of o) ≤ 1
tail_le None = omega arith
tail_le (Some l) = omega arith

node_le : (o : Option ℕ) → length (node_of o) ≤ 1
node_le None = omega arith
node_le (Some t) = omega arith

node_has : (o : Option ℕ) (t : ℕ) → o ≡ Some t → Has (node_of o) t
node_has None t e = none_some t e
node_has (Some u) t e = has_nth (u ∷ []) 0 t e

module _ (A : Algebra) (V : View A) where
  abbrev tails : List ℕ
  tails = flat_map (λ p. tail_of (V.at p)) (range_with_len 0 V.places)

  abbrev pub nodes : List ℕ
  nodes = node_of V.destination ++ tails

  pub nodes_destination : (t : ℕ) → V.destination ≡ Some t → Has nodes t
  nodes_destination t e = has_append_left (node_of V.destination) tails t (node_has V.destination t e)

  pub nodes_tail : (p : ℕ) (l : Link A.Weight) → Present V p l → Has nodes l.tail
  nodes_tail p l h =
      has_append_right (node_of V.destination) tails l.tail
      (has_joined (λ q. tail_of (V.at q)) (range_with_len 0 V.places) p l.tail
      (has_counting V.places p h.0)
      (subst (λ o. Has (tail_of o) l.tail) (sym h.1) (has_nth (l.tail ∷ []) 0 l.tail refl)))

  pub length_nodes : length nodes ≤ V.places + 1
  length_nodes =
      let a = length-append (node_of V.destination) tails in
      let b = node_le V.destination in
      let c = length_joined (λ p. tail_of (V.at p)) (range_with_len 0 V.places) 1 (λ p. tail_le (V.at p)) in
      let d = length-range_with_len 0 V.places in
      omega arith
