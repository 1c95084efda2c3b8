use Rattle.std.proofs.Common.{◌≡◌, suc, ◌-◌, ◌++◌, map, length, take, Some}
use Rattle.std.specs.Option.{option_map}
use Rattle.stepping.specs.Labels.{meant}
use Rattle.histories.specs.Expansion.{follow}
use Rattle.requests.specs.Table.{runs_of}
use Rattle.requests.proofs.runs.Runs.write_hops.Given as goal

-- the hops so far, and those from the label at `at` on, as many as there are places left
abbrev pub invariant-loop-hop : goal.invariant-loop-hop
invariant-loop-hop g l =
    let ms = map (meant g.W.Kind.means) l.memory in
    let rest = follow (runs_of l.self) ms (suc l.at) l.at in
    (follow (runs_of l.self) ms (suc l.key) l.key ≡ option_map (λ hops. take l.hop-index l.hops ++ hops) rest)
    × (option_map length rest ≡ Some (length l.hops - l.hop-index))
