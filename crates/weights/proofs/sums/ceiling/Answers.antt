use Rattle.std.proofs.Common.{refl}
use Rattle.weights.specs.SumLaws.{sum_laws}
use Rattle.weights.proofs.sums.ceiling.Goals as goal

pub returns : goal.returns
returns c = record { value = refl; lawful = sum_laws }
