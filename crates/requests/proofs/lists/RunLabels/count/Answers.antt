use Rattle.std.proofs.Common.{◌∙◌, rules, tests}
use Rattle.std.proofs.lemmas.Iterator.{YieldsList-from_slice}
use Rattle.std.proofs.lemmas.Iterator.Consumers.{YieldsList-from_filter, count_from_yields_List}
use Rattle.requests.proofs.Listing.{is_listed, counted}
use Rattle.requests.proofs.lists.RunLabels.count.Goals as goal

pub returns : goal.returns
returns g c =
    let labels = c.args.self.now.0.labels.now in
    count_from_yields_List c.filter.result _ c.count.ensures.ran
    (YieldsList-from_filter _ (is_listed c.args.node) (YieldsList-from_slice labels cc) c.filter.ensures.closure (λ x r q k. search (rules, tests)))
    ∙ counted g.W.Kind.means c.args.node c.args.self.now.0.first_key labels
