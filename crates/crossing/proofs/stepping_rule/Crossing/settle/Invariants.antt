use Rattle.std.proofs.Common.{◌≡◌, ◌-◌, ◌≤◌, length, take, drop}
use Rattle.stepping.specs.Labels.{meanings}
use Rattle.stepping.specs.Crossing.{crossing, settle}
use Rattle.crossing.specs.Scopes.{view}
use Rattle.crossing.proofs.stepping_rule.Crossing.settle.Given as goal

-- what is left to settle gives the whole run
abbrev pub invariant-loop-label : goal.invariant-loop-label
invariant-loop-label g l =
    let k = g.W.Kind in
    let V = view k.algebra k.means l.self.scope (g.M.Map.carrier l.self.map.now) l.self.before.now.labels.now in
    let m = l.fn.free in
    record {
      within : l.settled ≤ length m;
      rest : drop l.settled l.free ≡ drop l.settled m;
      run : crossing k.algebra V (length m)
          ≡ settle k.algebra V (length l.free - l.settled) (meanings k.means (take l.settled l.free));
    }

abbrev pub decreases-loop-label : goal.decreases-loop-label
decreases-loop-label g l = length l.fn.free - l.settled
