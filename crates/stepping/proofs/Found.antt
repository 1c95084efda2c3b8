-- Which nodes and weights are found among what links make in so many rounds.
use Rattle.std.proofs.Common.{◌≡◌, ℕ, suc, List, [], ◌∷◌, Some, None, Option, sym, refl, ap}
use Rattle.std.specs.List.{ContainsAt as Has, slice_get}
use Rattle.std.proofs.ByRecursion.{has_append_left, has_append_right}
use Rattle.weights.specs.Algebra.{Algebra}
use Rattle.stepping.specs.declared.Label.{Label}
use Rattle.stepping.specs.View.{View}
use Rattle.stepping.specs.Candidates.{candidates, Candidate}
use Rattle.stepping.specs.Crossing.{arrival, beginning_at, beginning}
use Rattle.stepping.proofs.Places.{none_some, some_same, nth_has, has_nth}
use Rattle.stepping.proofs.Candidates.{candidates_have}
use Rattle.stepping.proofs.Rounds.{rounds}

abbrev pub Alike : {W : Type 0} → Label W → Label W → Type 0
Alike x y = (x.node ≡ y.node) × (x.weight ≡ y.weight)

-- some element is alike
abbrev pub Found : {W : Type 0} → List (Label W) → Label W → Type 0
Found {W} xs l = (k : ℕ) × (y : Label W) × (slice_get xs k ≡ Some y) × Alike l y

found : {W : Type 0} (xs : List (Label W)) (l y : Label W) → Has xs y → y.node ≡ l.node
    → y.weight ≡ l.weight → Found xs l
found xs l y h n w =
    let at = nth_has xs y h in
    (at.0, y, at.1, (sym n, sym w))

begins_with : (A : Algebra) (V : View A) (o : Option ℕ) (t : ℕ) → o ≡ Some t
    → Has (beginning_at A V o) (arrival A V t)
begins_with A V None t e = none_some t e
begins_with A V (Some u) t e =
    has_nth (arrival A V u ∷ []) 0 (arrival A V t) (ap (λ z. Some (arrival A V z)) (some_same u t e))

module _ (A : Algebra) (V : View A) (m : ℕ) (l : Label A.Weight) where
  pub found_destination : V.destination ≡ Some l.node → A.neutral ≡ l.weight → Found (rounds A V (suc m)) l
  found_destination t w =
      let it = arrival A V l.node in
      let here = begins_with A V V.destination l.node t in
      found (rounds A V (suc m)) l it
      (has_append_left (beginning A V) (candidates A V (rounds A V m)) it here)
      refl
      w

  -- what is a candidate of one round is found in the next
  pub found_candidate : (d : Label A.Weight) → Candidate A V (rounds A V m) d → d.node ≡ l.node
      → d.weight ≡ l.weight → Found (rounds A V (suc m)) l
  found_candidate d c n w =
      found (rounds A V (suc m)) l d
      (has_append_right (beginning A V) (candidates A V (rounds A V m)) d (candidates_have A V (rounds A V m) d c))
      n
      w
