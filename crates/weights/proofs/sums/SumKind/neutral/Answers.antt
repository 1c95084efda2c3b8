use Rattle.std.proofs.Common.{ap}
use Rattle.weights.specs.Capped.{cut}
use Rattle.weights.specs.Sums.{top}
use Rattle.weights.proofs.sums.SumKind.neutral.Goals as goal

pub returns : goal.returns
returns g c = ap (cut top) c.new.ensures
