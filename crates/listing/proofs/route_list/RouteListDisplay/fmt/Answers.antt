use Rattle.std.proofs.Common.{◌<◌, length, refl, arith}
use Rattle.std.proofs.Output.{has_written_of_eq, has_written_append}
use Rattle.listing.proofs.Lines.{lines_more}
use Rattle.listing.proofs.route_list.RouteListDisplay.fmt.Goals as goal

pub loop-k-preserved : goal.loop-k-preserved
loop-k-preserved g c p =
    let took = g.F.Write.write_str_gives in
    let before = c.loop-k.invariant p in
    let l : c.loop-k.k < length c.deref-route-items.result.now = omega arith in
    has_written_of_eq took _ _ _ _
    (lines_more g.W.KnownText.text c.deref-route-items.result.now c.loop-k.k c.route-item.result l c.route-item.is)
    (has_written_append took _ _ _ _ _ before (c.in_ok-write.ensures.writes before.plain refl))
