use Rattle.std.proofs.Common.{drop, Ok, sym, ap, ◌∙◌, arith}
use Rattle.std.proofs.lemmas.List.{take_all}
use Rattle.std.proofs.lemmas.Result.{err_from_is_err_and}
use Rattle.books.specs.BookLayout.{own, book_size, book_fault}
use Rattle.books.specs.ChainLayout.{books_fault}
use Rattle.carriers.specs.Rules.{judged}
use Rattle.books.proofs.Own.{whole_sound}
use Rattle.books.proofs.Shown.{shows_all}
use Rattle.books.proofs.Verdicts.{refused_first, passed_first, passed_fault, passed_value, bytes_follow, none_follow}
use Rattle.books.proofs.layout.Book.read.Goals as goal

pub returns-in_err-sound_size-clause-answer : goal.returns-in_err-sound_size-clause-answer
returns-in_err-sound_size-clause-answer c =
    let p = err_from_is_err_and c.from_residual.result c.from_residual.ensures.1 in
    let bs = c.args.bytes.now in
    rw (p.1, p.2) (refused_first (book_fault bs) _ (book_size bs) (own bs) _ c.in_err-sound_size.ensures.size)

pub returns-then-branch-bytes-clause-answer : goal.returns-then-branch-bytes-clause-answer
returns-then-branch-bytes-clause-answer c =
    let bs = c.args.bytes.now in
    let found = c.in_ok-sound_size.ensures.size in
    let size = passed_value (book_fault bs) (book_size bs) _ found in
    sym
    (passed_first (book_fault bs) (books_fault 0 (drop (book_size bs) bs)) (book_size bs) _ (own bs) found
    ∙ ap (λ o. judged o (own bs)) (bytes_follow bs (omega arith)))

pub returns-clause-answer : goal.returns-clause-answer
returns-clause-answer c =
    let bs = c.args.bytes.now in
    let found = c.in_ok-sound_size.ensures.size in
    let size = passed_value (book_fault bs) (book_size bs) _ found in
    sym
    (passed_first (book_fault bs) (books_fault 0 (drop (book_size bs) bs)) (book_size bs) _ (own bs) found
    ∙ ap (λ o. judged o (own bs)) (none_follow bs (omega arith))
    ∙ ap Ok (take_all (book_size bs) bs (omega arith)))

pub returns-clause-shown : goal.returns-clause-shown
returns-clause-shown c =
    let bs = c.args.bytes.now in
    let found = c.in_ok-sound_size.ensures.size in
    let size = passed_value (book_fault bs) (book_size bs) _ found in
    shows_all bs (whole_sound bs (passed_fault (book_fault bs) (book_size bs) _ found) (omega (arith, c.in_ok-sound_size.ensures.within)))
