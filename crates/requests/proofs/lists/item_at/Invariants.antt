use Rattle.std.proofs.Common.{◌≡◌, ◌+◌, map, drop}
use Rattle.std.specs.List.{slice_get}
use Rattle.stepping.specs.Labels.{meant}
use Rattle.histories.specs.Lists.{items}
use Rattle.requests.proofs.lists.item_at.Given as goal

-- the labels that are left give the answer
abbrev pub invariant-loop-i : goal.invariant-loop-i
invariant-loop-i g l =
    let k = g.W.Kind in
    slice_get (items l.node l.first_key (map (meant k.means) l.labels)) l.k
    ≡ slice_get (items l.node (l.first_key + l.i) (map (meant k.means) (drop l.i l.labels))) l.left
