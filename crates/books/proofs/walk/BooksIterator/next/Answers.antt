use Rattle.std.proofs.Common.{arith, ap, ◌∙◌}
use Rattle.books.specs.ChainLayout.{books_fault}
use Rattle.books.proofs.Walks.{one_sound, rest_sound}
use Rattle.books.proofs.walk.BooksIterator.next.Goals as goal

pub split-requires : goal.split-requires
split-requires c = one_sound c.args.self.now.left c.in_ok-left.left c.args.self.now.bytes.now (omega arith) c.args.self.now.sound

pub invariant_of-self : goal.invariant_of-self
invariant_of-self c =
    record { sound = ap (books_fault c.in_ok-left.left) c.split.ensures.rest ∙ rest_sound c.args.self.now.left c.in_ok-left.left c.args.self.now.bytes.now (omega arith) c.args.self.now.sound }
