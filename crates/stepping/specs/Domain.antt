-- The theorem on what the labels of a run that ended say of the carrier crossed.
--   NextBelow A V k l    where the run before lies below this one, the next of the label l at index k is below its
--                         key, unless l is the destination's own
--   Backed A V run k l    the label l at index k of the run is the weight of a way within the bounds, which it records
--   Covered A run v x     some label of the run at the node v matches or beats the weight x
--   Ended A V run         each label is so backed, each way within the bounds is matched or beaten at its node, no
--                         label of a node matches or beats another, and weights never step back
use Rattle.std.specs.Prelude.{◌≡◌, ℕ, ◌+◌, ◌<◌, ◌≤◌, T, ◌⊎◌, List, length, Some, Option, ◌≢◌}
use Rattle.std.specs.List.{slice_get}
use Rattle.weights.specs.Algebra.{Algebra}
use Rattle.stepping.specs.declared.Label.{Label}
use Rattle.stepping.specs.Labels.{Labels}
use Rattle.stepping.specs.View.{View}
use Rattle.stepping.specs.Crossing.{done, arrival, crossing}
use Rattle.stepping.specs.Ways.{Way, Records, Origin}

abbrev pub NextBelow : (A : Algebra) (V : View A) → ℕ → Label A.Weight → Type 0
NextBelow A V k l =
    V.before_start + length V.before ≤ V.start
    → ((V.destination ≡ Some l.node) × (arrival A V l.node ≡ l)) ⊎ (l.next < V.start + k)

pub record Backed (A : Algebra) (V : View A) (run : Labels A) (k : ℕ) (l : Label A.Weight) : Type 0 where
  pub hops : List ℕ
  pub last : Option ℕ
  pub way : Way A V l.node l.weight hops last
  pub within : T (A.good l.weight V.bounds)
  pub records : Records A V run l hops last
  pub origin : Origin A V run k l
  pub below : NextBelow A V k l
  pub marked : l.mark ≡ V.marks l.node

pub record Covered (A : Algebra) (run : Labels A) (v : ℕ) (x : A.Weight) : Type 0 where
  pub index : ℕ
  pub label : Label A.Weight
  pub stands : slice_get run index ≡ Some label
  pub there : label.node ≡ v
  pub as_good : T (A.good label.weight x)

pub record Ended (A : Algebra) (V : View A) (run : Labels A) : Type 0 where
  pub sound : (k : ℕ) (l : Label A.Weight) → slice_get run k ≡ Some l → Backed A V run k l
  pub complete : (v : ℕ) (x : A.Weight) (hops : List ℕ) (last : Option ℕ)
      → Way A V v x hops last
      → T (A.good x V.bounds)
      → Covered A run v x
  pub apart : (i j : ℕ) (x y : Label A.Weight)
      → slice_get run i ≡ Some x
      → slice_get run j ≡ Some y
      → (i ≢ j)
      → x.node ≡ y.node
      → T (A.good x.weight y.weight)
      → ⊥
  pub ordered : (i j : ℕ) (x y : Label A.Weight)
      → slice_get run i ≡ Some x
      → slice_get run j ≡ Some y
      → i < j
      → T (A.before y.weight x.weight)
      → ⊥

abbrev pub PerDomain : Algebra → Type 0
PerDomain A = (V : View A) (n : ℕ) (run : Labels A) → crossing A V n ≡ done run → Ended A V run
