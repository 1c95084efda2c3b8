use Rattle.std.proofs.Common.{ap, ◌∙◌, arith}
use Rattle.std.specs.List.{slice_get}
use Rattle.std.proofs.lemmas.Iterator.Consumers.{nth_from_yields_List, YieldsList-from_first}
use Rattle.books.specs.ChainLayout.{books_in}
use Rattle.books.specs.Told.{bytes_of, books_left}
use Rattle.books.proofs.chain_file.Chain.book.Goals as goal

-- whatever number `nth` is asked for, it has to be the position
pub returns : goal.returns
returns c =
    let books = books_in c.args.self.now.header.carriers c.args.self.now.books.now in
    nth_from_yields_List c.nth.result c.nth.new.self _ c.nth.ensures.ran (YieldsList-from_first bytes_of books_left _ c.books.ensures.left)
    ∙ ap (λ n. slice_get books n) (omega arith)
