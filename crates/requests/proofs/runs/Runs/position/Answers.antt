use Rattle.std.proofs.Common.{◌∙◌, rules}
use Rattle.requests.specs.Table.{in_order}
use Rattle.requests.proofs.Tables.{latest_from}
use Rattle.requests.proofs.runs.Runs.position.Goals as goal

pub returns : goal.returns
returns c = c.unwrap_or.ensures ∙ latest_from (in_order c.args.self.now) c.args.key c.rposition.result (search rules)
