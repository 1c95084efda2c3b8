use Rattle.stepping.proofs.Room.{room_theorem}
use Rattle.stepping.proofs.Ends.{ends_theorem}
use Rattle.stepping.proofs.room_stands.Goals as goal

pub returns : goal.returns
returns g c =
    record {
      room = room_theorem g.W.Kind.algebra;
      ends = ends_theorem g.W.Kind.algebra g.W.Kind.laws;
    }
