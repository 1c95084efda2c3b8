-- The theorem on what is settled next.
--   Precedes A c d     c comes before d in weight, then node, then link, then next
--   First A V run c    c is a candidate that counts, and precedes each other candidate that counts
--   Chosen A V run o   what is settled next, o, is the first candidate that counts, and is nothing where none counts
use Rattle.std.specs.Prelude.{◌≡◌, ◌<◌, true, false, T, ◌⊎◌, Some, None, Option}
use Rattle.weights.specs.Algebra.{Algebra}
use Rattle.stepping.specs.declared.Label.{Label}
use Rattle.stepping.specs.Labels.{Labels}
use Rattle.stepping.specs.View.{View}
use Rattle.stepping.specs.Candidates.{Candidate}
use Rattle.stepping.specs.Crossing.{counts, first}

pub data Precedes (A : Algebra) (c d : Label A.Weight) : Type 0 where
  by_weight : T (A.before c.weight d.weight) → Precedes A c d
  by_node : c.weight ≡ d.weight → c.node < d.node → Precedes A c d
  by_link : c.weight ≡ d.weight → c.node ≡ d.node → c.link < d.link → Precedes A c d
  by_next : c.weight ≡ d.weight → c.node ≡ d.node → c.link ≡ d.link → c.next < d.next → Precedes A c d

pub record First (A : Algebra) (V : View A) (run : Labels A) (c : Label A.Weight) : Type 0 where
  pub candidate : Candidate A V run c
  pub counted : counts A V run c ≡ true
  pub leads : (d : Label A.Weight) → Candidate A V run d → counts A V run d ≡ true → (d ≡ c) ⊎ Precedes A c d

abbrev pub Chosen : (A : Algebra) (V : View A) → Labels A → Option (Label A.Weight) → Type 0
Chosen A V run None = (d : Label A.Weight) → Candidate A V run d → counts A V run d ≡ false
Chosen A V run (Some c) = First A V run c

abbrev pub Choice : Algebra → Type 0
Choice A = (V : View A) (run : Labels A) → Chosen A V run (first A V run)
