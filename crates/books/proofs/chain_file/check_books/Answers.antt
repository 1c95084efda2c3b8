use Rattle.std.proofs.Common.{◌≡◌, ◌+◌, ◌-◌, length, take, drop, sym, ap, ◌∙◌}
use Rattle.std.proofs.lemmas.List.{take_rest}
use Rattle.std.proofs.lemmas.Result.{err_from_is_err_and}
use Rattle.books.specs.BookLayout.{book_size, book_fault}
use Rattle.books.specs.ChainLayout.{books_fault}
use Rattle.carriers.specs.Rules.{judged}
use Rattle.books.specs.Faults.{otherwise}
use Rattle.books.proofs.Verdicts.{refused_first, passed_fault, passed_value}
use Rattle.books.proofs.Walks.{fault_more}
use Rattle.books.proofs.chain_file.check_books.Goals as goal

pub returns-in_err-size : goal.returns-in_err-size
returns-in_err-size c =
    let p = err_from_is_err_and c.from_residual.result c.from_residual.ensures.1 in
    let rest = c.loop-i.rest.now in
    let left = c.loop-i.invariant ∙ fault_more c.args.count c.loop-i._i rest c.loop-i-test.true in
    rw (p.1, p.2) (refused_first (book_fault rest) _ (book_size rest) tt _ c.in_err-size.ensures.size ∙ ap (λ o. judged o tt) (sym left))

pub loop-i-preserved : goal.loop-i-preserved
loop-i-preserved c =
    let n = c.args.count in
    let i = c.loop-i._i in
    let rest = c.loop-i.rest.now in
    let found = c.in_ok-size.ensures.size in
    let size = passed_value (book_fault rest) (book_size rest) _ found in
    let after : drop (book_size rest) rest ≡ take (length rest - c.in_ok-size.size) (drop c.in_ok-size.size rest) =
    sym (take_rest rest c.in_ok-size.size ∙ ap (λ k. drop k rest) size) in
    c.loop-i.invariant
    ∙ fault_more n i rest c.loop-i-test.true
    ∙ ap (λ o. otherwise o (books_fault (n - (i + 1)) (drop (book_size rest) rest))) (passed_fault (book_fault rest) (book_size rest) _ found)
    ∙ ap (books_fault (n - (i + 1))) after
