use Rattle.std.proofs.Common.{◌≡◌, ◌-◌}
use Rattle.books.specs.ChainLayout.{books_fault}
use Rattle.books.proofs.chain_file.check_books.Given as goal

-- the books that are left give the answer
abbrev pub invariant-loop-i : goal.invariant-loop-i
invariant-loop-i l = books_fault l.count l.books ≡ books_fault (l.count - l._i) l.rest
