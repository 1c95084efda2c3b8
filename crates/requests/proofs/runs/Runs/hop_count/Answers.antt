use Rattle.std.proofs.Common.{suc, ◌+◌, ◌<◌, ◌≤◌, length, ap, ◌∙◌, arith}
use Rattle.std.specs.Option.{option_map}
use Rattle.stepping.specs.Labels.{meanings}
use Rattle.histories.specs.Expansion.{follow}
use Rattle.requests.specs.Table.{runs_of}
use Rattle.requests.proofs.Hops.{one_more, one_here}
use Rattle.requests.proofs.runs.Runs.hop_count.Goals as goal

pub loop-label-preserved : goal.loop-label-preserved
loop-label-preserved g c =
    let x = c.index-memory-at in
    let n = c.loop-label.count in
    let f = g.W.Kind.means in
    let rs = runs_of c.args.self.now in
    let m = c.args.memory.now in
    let next = x.result.next in
    let l : next < length m = omega (arith, c.loop-label.invariant.1) in
    let k : (n + 1) + next ≤ c.args.key = omega (arith, c.loop-label.invariant.2) in (
      c.loop-label.invariant.0
          ∙ (ap (option_map (λ k. n + k)) (one_here f rs m c.loop-label.at x.result c.loop-label.invariant.1 x.is c.if-label.false c.if-label-at.false)
          ∙ one_more n (option_map length (follow rs (meanings f m) (suc next) next))),
      l,
      k,
    )
