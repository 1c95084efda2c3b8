use Rattle.books.specs.BookLayout.{link_start, node_count}
use Rattle.books.proofs.Starts.{record_sound}
use Rattle.books.proofs.layout.link_is_sound.Goals as goal

pub returns : goal.returns
returns c = let e = record_sound c.args.bytes.now (node_count c.args.bytes.now) (link_start c.args.bytes.now c.args.place) in cc
