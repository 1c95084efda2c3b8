-- What a crossing is told by a request.
--   before_of t rs    what the run starts from: the destination t before the first crossing, and else the latest run
--   scope_of p marks  the scope of the next crossing
use Rattle.std.specs.Prelude.{ℕ, List, [], ◌∷◌}
use Rattle.stepping.specs.declared.Run as run
use Rattle.histories.specs.Runs.{used}
use Rattle.crossing.specs.declared.scopes.Before.{Before}
use Rattle.crossing.specs.declared.scopes.Before.TheVariants.{Destination, Run}
use Rattle.crossing.specs.declared.scopes.Marks.{Marks}
use Rattle.crossing.specs.declared.scopes.Scope.{Scope}
use Rattle.requests.specs.declared.stages.Progress.{Progress}
use Rattle.requests.specs.Table.{runs_of}

abbrev pub before_of : ℕ → List run.Run → Before
before_of t [] = Destination t
before_of t (r ∷ rs) = Run r

abbrev pub scope_of : {W : Type 0} → Progress W → Marks → Scope W
scope_of p marks =
    record {
      bounds = p.bounds;
      used = used (runs_of p.runs);
      before = before_of p.destination (runs_of p.runs);
      marks = marks;
    }
