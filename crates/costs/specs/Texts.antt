-- The words for a cost.
--   Cost          a delay with a fee
--   cost_text c   the amount of its delay and the amount of its fee, each after its name
use Rattle.std.specs.Prelude.{ℕ, min, List, ◌++◌, codes, decimal}
use Rattle.weights.specs.Sums.{top}
use Rattle.weights.specs.declared.pairs.Pair.{Pair}
use Rattle.weights.specs.declared.sums.Cents.{Cents}
use Rattle.weights.specs.declared.sums.Microseconds.{Microseconds}
use Rattle.weights.specs.declared.sums.Sum.{Sum}

abbrev pub Cost : Type 0
Cost = Pair (Sum Microseconds) (Sum Cents)

abbrev pub cost_text : Cost → List ℕ
cost_text c =
    codes "delay " ++ (decimal (min c.first.number top) ++ (codes ", fee " ++ decimal (min c.second.number top)))
