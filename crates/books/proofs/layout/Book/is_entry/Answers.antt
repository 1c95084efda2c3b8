use Rattle.std.proofs.Common.{◌≡◌, ◌∙◌, rules, nat_eq}
use borrow.Author.Tests.{tests}
use Rattle.std.proofs.lemmas.Iterator.{YieldsList-from_range}
use Rattle.std.proofs.lemmas.Iterator.Search.{any_from_yields_List}
use Rattle.books.specs.BookLayout.{entry_at, entry_count}
use Rattle.books.specs.BookCarrier.{lists_entry}
use Rattle.books.proofs.Own.{whole_sound}
use Rattle.books.proofs.Shown.{listed}
use Rattle.books.proofs.layout.Book.is_entry.Goals as goal

pub returns-then-node-node_count : goal.returns-then-node-node_count
returns-then-node-node_count c =
    let book = c.args.self.now in
    let b = book.bytes.now in
    let found : c.any.result ≡ lists_entry b c.args.node =
    any_from_yields_List (λ i. nat_eq (entry_at b i) c.args.node) _ _ c.any.result c.any.ensures.ran (YieldsList-from_range 0 (entry_count b) (entry_count b) (cc) (search rules)) (λ x r q k. search (rules, tests)) in
    found ∙ listed book.bytes.now (whole_sound book.bytes.now book.sound book.whole) c.args.node
