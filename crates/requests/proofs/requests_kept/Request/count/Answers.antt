use Rattle.std.proofs.Common.{ap, ◌∙◌, length}
use Rattle.requests.proofs.Asking.{counts}
use Rattle.requests.proofs.requests_kept.Request.count.Goals as goal

pub returns : goal.returns
returns g c =
    counts g.W.Kind.means c.in_ok-progress.progress c.args.memory.now c.args.self.now.stage c.in_ok-progress.ensures.begun c.args.node c.count.result
    (c.count.ensures ∙ ap length (c.latest_labels.ensures c.args.node))
