use Rattle.requests.proofs.Promises.{kept_stage, kept_when_finished, kept_when_open, kept_when_refused}
use Rattle.requests.proofs.promise.promise_stands.Goals as goal

pub returns : goal.returns
returns g c =
    record {
      stage = kept_stage g.W.Kind.algebra g.W.Kind.means g.W.Kind.laws;
      finished = kept_when_finished g.W.Kind.algebra g.W.Kind.means g.W.Kind.laws;
      open_so_far = kept_when_open g.W.Kind.algebra g.W.Kind.means g.W.Kind.laws;
      refused = kept_when_refused g.W.Kind.algebra g.W.Kind.means g.W.Kind.laws;
    }
