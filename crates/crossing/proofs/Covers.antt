-- The test whether a run covers a weight, as one over its labels.
use Rattle.std.proofs.Common.{◌≡◌, ℕ, ◌&&◌, ◌||◌, eqb, List, [], ◌∷◌, refl, ap}
use Rattle.std.specs.List.{list_any}
use Rattle.weights.specs.Algebra.{Algebra}
use Rattle.stepping.specs.declared.Label.{Label}
use Rattle.stepping.specs.Labels.{meanings}
use Rattle.stepping.specs.Crossing.{covers}

pub covers_any : {W : Type 0} (A : Algebra) (f : W → A.Weight) (run : List (Label W)) (v : ℕ) (w : A.Weight)
    → list_any (λ l. eqb l.node v && A.good (f l.weight) w) run ≡ covers A (meanings f run) v w
covers_any A f [] v w = refl
covers_any A f (l ∷ ls) v w = ap (λ b. (eqb l.node v && A.good (f l.weight) w) || b) (covers_any A f ls v w)
