-- What the reader's answers stand for: a book for its bytes, a chain for what its file says, a walk for the bytes of
-- each book that it has left.
use Rattle.std.specs.Prelude.{ℕ, List, Ok, Err, Result}
use Rattle.carriers.specs.declared.refusals.Refusal.{Refusal}
use Rattle.books.specs.declared.chain_file.Chain.{Chain}
use Rattle.books.specs.declared.layout.Book.{Book}
use Rattle.books.specs.declared.walk.Books.{Books}
use Rattle.books.specs.ChainLayout.{Contents, books_in}

abbrev pub bytes_of : Book → List ℕ
bytes_of b = b.bytes.now

abbrev pub told_book : Result Book Refusal → Result (List ℕ) Refusal
told_book (Ok b) = Ok (bytes_of b)
told_book (Err e) = Err e

abbrev pub contents_of : Chain → Contents
contents_of c =
    record {
      bounds = c.header.bounds;
      destination = c.header.destination;
      source = c.header.source;
      books = books_in c.header.carriers c.books.now;
    }

abbrev pub told_chain : Result Chain Refusal → Result Contents Refusal
told_chain (Ok c) = Ok (contents_of c)
told_chain (Err e) = Err e

abbrev pub books_left : Books → List (List ℕ)
books_left w = books_in w.left w.bytes.now
