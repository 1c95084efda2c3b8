use Rattle.std.proofs.Common.{◌∙◌, arith}
use Rattle.books.proofs.Own.{whole_sound}
use Rattle.books.proofs.Shown.{read_there}
use Rattle.books.proofs.layout.Book.link.Goals as goal

pub returns-then-place-link_count : goal.returns-then-place-link_count
returns-then-place-link_count c =
    let book = c.args.self.now in
    c.read.ensures ∙ read_there book.bytes.now (whole_sound book.bytes.now book.sound book.whole) c.args.place _ c.record_at.ensures (omega arith)
