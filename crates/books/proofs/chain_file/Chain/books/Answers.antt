use Rattle.std.proofs.Common.{arith}
use Rattle.books.proofs.Walks.{length_books_in}
use Rattle.books.proofs.chain_file.Chain.books.Goals as goal

pub returns-clause-few : goal.returns-clause-few
returns-clause-few c =
    let self = c.args.self.now in
    omega (arith, length_books_in self.header.carriers self.books.now, c.type_inv.self)
