-- What a crossing sees: the part of a request, its memory and its next carrier on which the run depends.
--   bounds         the weight that labels are to be as good as
--   places, at     the carrier's link places, and what stands at each; past the last nothing is looked at
--   start          the key of the first label that is settled, which is how many labels are in use
--   before         the labels of the run before, the first of which has the key before_start
--   destination    the destination, in the first crossing of a chain
--   marks v        whether a label at the node v is marked
--   Present V p l  the link l stands at the place p
use Rattle.std.specs.Prelude.{◌≡◌, ℕ, ◌<◌, Bool, Some, Option}
use Rattle.weights.specs.Algebra.{Algebra}
use Rattle.carriers.specs.Carrier.{Link}
use Rattle.stepping.specs.Labels.{Labels}

pub record View (A : Algebra) : Type 0 where
  pub bounds : A.Weight
  pub places : ℕ
  pub at : ℕ → Option (Link A.Weight)
  pub start : ℕ
  pub before : Labels A
  pub before_start : ℕ
  pub destination : Option ℕ
  pub marks : ℕ → Bool

abbrev pub Present : {A : Algebra} → View A → ℕ → Link A.Weight → Type 0
Present V p l = (p < V.places) × (V.at p ≡ Some l)
