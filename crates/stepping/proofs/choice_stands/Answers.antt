use Rattle.stepping.proofs.First.{choice_theorem}
use Rattle.stepping.proofs.choice_stands.Goals as goal

pub returns : goal.returns
returns g c = choice_theorem g.W.Kind.algebra g.W.Kind.laws
