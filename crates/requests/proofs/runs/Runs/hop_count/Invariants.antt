use Rattle.std.proofs.Common.{◌≡◌, suc, ◌+◌, ◌<◌, ◌≤◌, map, length}
use Rattle.std.specs.Option.{option_map}
use Rattle.stepping.specs.Labels.{meant}
use Rattle.histories.specs.Expansion.{follow}
use Rattle.requests.specs.Table.{runs_of}
use Rattle.requests.proofs.runs.Runs.hop_count.Given as goal

-- the hops so far, and those from the label at `at` on
abbrev pub invariant-loop-label : goal.invariant-loop-label
invariant-loop-label g l =
    let ms = map (meant g.W.Kind.means) l.memory in
    (option_map length (follow (runs_of l.self) ms (suc l.key) l.key)
    ≡ option_map (λ n. l.count + n) (option_map length (follow (runs_of l.self) ms (suc l.at) l.at)))
    × (l.at < length l.memory)
    × (l.count + l.at ≤ l.key)

abbrev pub decreases-loop-label : goal.decreases-loop-label
decreases-loop-label g l = l.at
