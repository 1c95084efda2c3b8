use Rattle.std.proofs.Common.{◌≡◌, ◌+◌, ◌-◌, take, drop, sym, ap, ◌∙◌, arith}
use Rattle.stepping.specs.Labels.{meant, meanings}
use Rattle.histories.specs.Runs.{latest, labels_of}
use Rattle.histories.specs.Lists.{items}
use Rattle.requests.specs.Table.{runs_of}
use Rattle.requests.proofs.Seen.{labels_map}
use Rattle.requests.proofs.stages.Progress.latest_labels.Goals as goal

pub returns : goal.returns
returns g c =
    let f = g.W.Kind.means in
    let m = c.args.memory.now in
    let r = c.latest_or_empty-run.result in
    let n : (r.start + r.length) - r.start ≡ r.length = omega arith in
    λ v.
    ap (λ k. items v r.start (meanings f (take k (drop r.start m)))) n
    ∙ ap (λ x. items v x.start (meanings f (labels_of x m))) c.latest_or_empty-run.ensures
    ∙ ap (items v (latest (runs_of c.args.self.now.runs)).start) (sym (labels_map (meant f) (latest (runs_of c.args.self.now.runs)) m))
