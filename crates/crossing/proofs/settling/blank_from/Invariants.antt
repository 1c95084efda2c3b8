use Rattle.std.proofs.Common.{◌≡◌, take, replicate}
use Rattle.stepping.specs.Labels.{meanings, blank}
use Rattle.crossing.proofs.settling.blank_from.Given as goal

abbrev pub invariant-loop-label : goal.invariant-loop-label
invariant-loop-label g l =
    let k = g.W.Kind in
    meanings k.means (take l.label-index l.label-items) ≡ replicate l.label-index (blank k.algebra.neutral)
