-- Labels by the meaning of their weights.
--   Labels A        labels in the order of their keys, with weights of the algebra A
--   meant f l       the label l with f of its weight for its weight
--   meanings f ls   the same of each label of ls
--   blank w         the label of an unused place, where w is the neutral weight
--   no_link         the link of the destination's own label
--   arrived w v m   the destination's own label, where it is the node v, w is the neutral weight, and m the mark
use Rattle.std.specs.Prelude.{ℕ, Bool, false, List, map}
use Rattle.weights.specs.Algebra.{Algebra}
use Rattle.stepping.specs.declared.Label.{Label}

abbrev pub Labels : Algebra → Type 0
Labels A = List (Label A.Weight)

abbrev pub meant : {W V : Type 0} → (W → V) → Label W → Label V
meant f l = record { node = l.node; weight = f l.weight; link = l.link; next = l.next; mark = l.mark }

abbrev pub meanings : {W V : Type 0} → (W → V) → List (Label W) → List (Label V)
meanings f ls = map (meant f) ls

abbrev pub blank : {W : Type 0} → W → Label W
blank w = record { node = 0; weight = w; link = 0; next = 0; mark = false }

abbrev pub no_link : ℕ
no_link = 65535

abbrev pub arrived : {W : Type 0} → W → ℕ → Bool → Label W
arrived w v m = record { node = v; weight = w; link = no_link; next = 0; mark = m }
