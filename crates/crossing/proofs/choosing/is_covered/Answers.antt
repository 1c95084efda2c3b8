use Rattle.std.proofs.Common.{eqb, ◌&&◌, ◌∙◌, rules}
use Rattle.std.proofs.lemmas.Iterator.{YieldsList-from_slice}
use Rattle.std.proofs.lemmas.Iterator.Search.{any_from_yields_List}
use borrow.Author.Tests.{tests}
use Rattle.crossing.proofs.Covers.{covers_any}
use Rattle.crossing.proofs.choosing.is_covered.Goals as goal

pub returns : goal.returns
returns g c =
    let k = g.W.Kind in
    let v = c.args.node in
    let w = k.means c.args.weight in
    any_from_yields_List (λ l. eqb l.node v && k.algebra.good (k.means l.weight) w) _ _ _ c.any.ensures.ran (YieldsList-from_slice c.args.run.now cc) (λ x b q h. search (rules, tests))
    ∙ covers_any k.algebra k.means c.args.run.now v w
