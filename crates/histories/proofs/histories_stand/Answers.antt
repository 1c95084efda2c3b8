use Rattle.histories.proofs.Phases.{staged_theorem}
use Rattle.histories.proofs.Promise.{finished_theorem, finished_as_told, underway_theorem, underway_as_told, unchanged_theorem}
use Rattle.histories.proofs.histories_stand.Goals as goal

pub returns : goal.returns
returns g c =
    record {
      staged = staged_theorem g.W.Kind.algebra g.W.Kind.laws;
      finished = finished_theorem g.W.Kind.algebra g.W.Kind.laws;
      finished_as_told = finished_as_told g.W.Kind.algebra g.W.Kind.laws;
      underway = underway_theorem g.W.Kind.algebra g.W.Kind.laws;
      underway_as_told = underway_as_told g.W.Kind.algebra g.W.Kind.laws;
      refused = unchanged_theorem g.W.Kind.algebra g.W.Kind.laws;
    }
