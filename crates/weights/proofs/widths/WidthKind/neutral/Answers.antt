use Rattle.std.proofs.Common.{refl}
use Rattle.weights.proofs.widths.WidthKind.neutral.Goals as goal

pub returns : goal.returns
returns c = refl
