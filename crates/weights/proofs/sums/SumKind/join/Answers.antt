use Rattle.std.proofs.Common.{rules}
use Rattle.weights.specs.Capped.{same_amount}
use Rattle.weights.specs.Sums.{top}
use Rattle.weights.proofs.sums.SumKind.join.Goals as goal

pub returns : goal.returns
returns g c = record { meaning = same_amount top _ _ (search rules); capped = search rules }
