use Rattle.stepping.proofs.Ended.{domain_theorem}
use Rattle.stepping.proofs.Number.{number_theorem}
use Rattle.stepping.proofs.crossing_stands.Goals as goal

pub returns : goal.returns
returns g c =
    record {
      domain = domain_theorem g.W.Kind.algebra g.W.Kind.laws;
      number = number_theorem g.W.Kind.algebra g.W.Kind.laws;
    }
