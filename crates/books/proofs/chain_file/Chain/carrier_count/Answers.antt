use Rattle.std.proofs.Common.{sym}
use Rattle.books.proofs.Walks.{length_books_in}
use Rattle.books.proofs.chain_file.Chain.carrier_count.Goals as goal

pub returns : goal.returns
returns c = sym (length_books_in _ _)
