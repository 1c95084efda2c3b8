-- The runs of a request's table.
--   in_order r   the runs in the order in which they were settled
--   runs_of r    the same, latest first
use Rattle.std.specs.Prelude.{List, reverse, take}
use Rattle.stepping.specs.declared.Run.{Run}
use Rattle.requests.specs.declared.runs.Runs.{Runs}

abbrev pub in_order : Runs → List Run
in_order r = take r.count r.table

abbrev pub runs_of : Runs → List Run
runs_of r = reverse (in_order r)
