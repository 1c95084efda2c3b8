-- The stepping rule: which candidate is settled next, and the run of labels that a crossing settles.
--   covers A run v w      some label of the run at the node v is as good as w
--   counts A V run d      d may be settled: it is within the bounds, and no label of the run at its node is as good
--   lower c d             c has the lower node, or at one node the lower link, or at one link the lower next
--   precedes A c d        c comes first: its weight is before d's, or neither is before the other and c is lower
--   better                the first of the best so far and one more, if that passes
--   first A V run         the first of the candidates that count, if any does
--   continue run more o   the run has ended if there is nothing to settle, o, and else goes on with it
--   settle A V n run      the run with what is settled after it, where n labels are free
--   arrival A V t         the label of the destination t itself
--   beginning A V         the labels that a run begins with: the destination's own, in the first crossing
--   crossing A V n        the run of a crossing, where n labels are free
--   done run, full        the run ended; more labels were to be settled than are free
use Rattle.std.specs.Prelude.{ℕ, zero, suc, ◌-◌, Bool, true, false, cond, not, ◌&&◌, ◌||◌, List, [], ◌∷◌, ◌++◌, length, Some, None, fold, Option, ◌==◌, nat_lt}
use Rattle.weights.specs.Algebra.{Algebra}
use Rattle.stepping.specs.declared.Label.{Label}
use Rattle.stepping.specs.Labels.{Labels, arrived}
use Rattle.stepping.specs.View.{View}
use Rattle.stepping.specs.Candidates.{candidates}

abbrev pub covers : (A : Algebra) → Labels A → ℕ → A.Weight → Bool
covers A [] v w = false
covers A (l ∷ ls) v w = (l.node == v && A.good l.weight w) || covers A ls v w

abbrev pub counts : (A : Algebra) (V : View A) → Labels A → Label A.Weight → Bool
counts A V run d = A.good d.weight V.bounds && not (covers A run d.node d.weight)

abbrev pub lower : {W : Type 0} → Label W → Label W → Bool
lower c d =
    nat_lt c.node d.node
    || (c.node == d.node && (nat_lt c.link d.link || (c.link == d.link && nat_lt c.next d.next)))

abbrev pub precedes : (A : Algebra) → Label A.Weight → Label A.Weight → Bool
precedes A c d = A.before c.weight d.weight || (not (A.before d.weight c.weight) && lower c d)

abbrev pub better : {X : Type 0} → (X → X → Bool) → Bool → Option X → X → Option X
better prior false best c = best
better prior true None c = Some c
better prior true (Some b) c = Some (cond (prior c b) c b)

abbrev pub first : (A : Algebra) (V : View A) → Labels A → Option (Label A.Weight)
first A V run = fold (λ best d. better (precedes A) (counts A V run d) best d) None (candidates A V run)

pub data Outcome (W : Type 0) : Type 0 where
  done : List (Label W) → Outcome W
  full : Outcome W

abbrev pub continue : {W : Type 0} → List (Label W) → (Label W → Outcome W) → Option (Label W) → Outcome W
continue run more None = done run
continue run more (Some c) = more c

abbrev pub settle : (A : Algebra) (V : View A) → ℕ → Labels A → Outcome A.Weight
settle A V zero run = continue run (λ c. full) (first A V run)
settle A V (suc n) run = continue run (λ c. settle A V n (run ++ c ∷ [])) (first A V run)

abbrev pub arrival : (A : Algebra) (V : View A) → ℕ → Label A.Weight
arrival A V t = arrived A.neutral t (V.marks t)

abbrev pub beginning_at : (A : Algebra) (V : View A) → Option ℕ → Labels A
beginning_at A V None = []
beginning_at A V (Some t) = arrival A V t ∷ []

abbrev pub beginning : (A : Algebra) (V : View A) → Labels A
beginning A V = beginning_at A V V.destination

abbrev pub crossing : (A : Algebra) (V : View A) → ℕ → Outcome A.Weight
crossing A V n =
    cond
    (nat_lt n (length (beginning A V)))
    full
    (settle A V (n - length (beginning A V)) (beginning A V))
