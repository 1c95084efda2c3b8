use Rattle.std.proofs.Common.{ap, sym, ◌∙◌}
use Rattle.stepping.specs.Labels.{meanings}
use Rattle.requests.specs.Kept.{stage_of}
use Rattle.histories.specs.Calls.{on_finish}
use Rattle.books.specs.Told.{bytes_of, contents_of}
use Rattle.listing.specs.Calls.{behind, travel}
use Rattle.listing.proofs.journey.Journey.travel.Goals as goal

pub returns : goal.returns
returns g c =
    let k = g.W.Kind in
    let carrier = behind k.algebra k.means g.W.BookKind.reads c.args.self.now.bounds in
    let chain = contents_of c.args.self.now.chain.now in
    let b = bytes_of c.loop-next.book in
    let s = stage_of k.means c.loop-next.request.stage in
    let m = meanings k.means c.loop-next.memory in
    c.finish.ensures.call
    ∙ ap (λ v. on_finish k.algebra s (carrier b) v m) c.source.ensures
    ∙ sym (ap (λ left. travel k.algebra carrier chain.source b left s m) c.in-None.ensures.steps.0)
    ∙ c.loop-next.invariant.so_far
