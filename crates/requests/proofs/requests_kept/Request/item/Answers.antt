use Rattle.std.proofs.Common.{ap, ◌∙◌}
use Rattle.std.specs.List.{slice_get}
use Rattle.requests.specs.Listed.{answered}
use Rattle.requests.proofs.Asking.{shows}
use Rattle.requests.proofs.requests_kept.Request.item.Goals as goal

pub returns : goal.returns
returns g c =
    ap (answered g.W.Kind.means) c.ok_or.ensures.value
    ∙ shows g.W.Kind.means c.in_ok-progress.progress c.args.memory.now c.args.self.now.stage c.in_ok-progress.ensures.begun c.args.node c.args.k c.item.result
    (c.item.ensures ∙ ap (λ xs. slice_get xs c.args.k) (c.latest_labels.ensures c.args.node))
