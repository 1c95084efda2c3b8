use Rattle.std.proofs.Common.{◌≡◌}
use Rattle.stepping.specs.Labels.{meanings}
use Rattle.requests.specs.Kept.{stage_of}
use Rattle.books.specs.Told.{bytes_of, books_left, contents_of}
use Rattle.listing.specs.Calls.{behind, travel, along}
use Rattle.listing.proofs.journey.Journey.travel.Given as goal

abbrev pub invariant-loop-next : goal.invariant-loop-next
invariant-loop-next g l =
    let k = g.W.Kind in
    let carrier = behind k.algebra k.means g.W.BookKind.reads l.self.bounds in
    let chain = contents_of l.self.chain.now in
    record {
      can : (goal.iterator-loop-next g).can_next l.next-iterator;
      finite : (goal.iterator-loop-next g).is_finite l.next-iterator;
      so_far : travel k.algebra carrier chain.source (bytes_of l.book) (books_left l.next-iterator) (stage_of k.means l.request.stage) (meanings k.means l.memory) ≡ along k.algebra carrier chain.source chain.books (stage_of k.means l.initial.request.stage) (meanings k.means l.initial.memory);
    }
