use Rattle.std.proofs.Common.{take}
use Rattle.std.specs.Fmt.{HasWritten, IsPlainFormatter}
use Rattle.listing.specs.Texts.{lines}
use Rattle.listing.proofs.route_list.RouteListDisplay.fmt.Given as goal

abbrev pub invariant-loop-k : goal.invariant-loop-k
invariant-loop-k g l =
    IsPlainFormatter l.initial.f → HasWritten g.F.Write.write_str_gives l.initial.f (lines g.W.KnownText.text 0 (take l.k l.route-items)) l.f
