use Rattle.std.proofs.Common.{◌≡◌, ◌-◌, ◌≤◌, map, vec_items, vec_len}
use Rattle.std.specs.Vec.{vec_capacity}
use Rattle.stepping.specs.Labels.{meanings}
use Rattle.requests.specs.Kept.{stage_of}
use Rattle.requests.specs.Listed.{item_meant}
use Rattle.listing.specs.Found.{items_from}
use Rattle.listing.proofs.Lines.{after}
use Rattle.listing.proofs.found.items.Given as goal

abbrev pub invariant-loop-k : goal.invariant-loop-k
invariant-loop-k g l =
    let f = g.W.Kind.means in
    let s = stage_of f l.request.stage in
    let m = meanings f l.memory in
    record {
      so_far : after (map (item_meant f) (vec_items l.items)) (items_from s l.node m (l.count - l.k) l.k) ≡ items_from s l.node m l.count 0;
      length : vec_len l.items ≡ l.k;
      room : l.count ≤ vec_capacity l.items;
    }
