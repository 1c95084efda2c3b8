use Rattle.std.proofs.Common.{◌-◌, List, ℕ, length, take, drop, Ok, sym, ap, ◌∙◌, subst}
use Rattle.std.proofs.lemmas.List.{take_rest}
use Rattle.std.proofs.lemmas.Result.{err_from_is_err_and}
use Rattle.books.specs.declared.header.Header.{Header}
use Rattle.books.specs.Bytes.{byte_at}
use Rattle.books.specs.ChainLayout.{Contents, Complete, header_fault, header_of, books_fault, books_in, contents}
use Rattle.carriers.specs.Rules.{judged}
use Rattle.books.proofs.Verdicts.{refused_first, refused_second, passed_fault, passed_value, passed_both}
use Rattle.books.proofs.Complete.{complete}
use Rattle.books.proofs.chain_file.Chain.read.Goals as goal

-- what is read of a header and of the bytes after it
abbrev read_as : Header → List ℕ → Contents
read_as h r = record { bounds = h.bounds; destination = h.destination; source = h.source; books = books_in h.carriers r }

pub returns-in_err-header-clause-answer : goal.returns-in_err-header-clause-answer
returns-in_err-header-clause-answer c =
    let p = err_from_is_err_and c.from_residual.result c.from_residual.ensures.1 in
    let bs = c.args.bytes.now in
    rw (p.1, p.2) (refused_first (header_fault bs) _ (header_of bs) (contents bs) _ c.in_err-header.ensures.answer)

pub returns-in_err-check_books-clause-answer : goal.returns-in_err-check_books-clause-answer
returns-in_err-check_books-clause-answer c =
    let p = err_from_is_err_and c.from_residual-in_err-check_books.result c.from_residual-in_err-check_books.ensures.1 in
    let bs = c.args.bytes.now in
    let n = byte_at bs 6 in
    let rest = take (length bs - 27) (drop 27 bs) in
    let passed = c.in_ok-header.ensures.answer in
    let refused =
    c.in_err-check_books.ensures
    ∙ ap (λ k. judged (books_fault k rest) tt) (ap (λ h. h.carriers) (passed_value (header_fault bs) (header_of bs) _ passed))
    ∙ ap (λ r. judged (books_fault n r) tt) (take_rest bs 27) in
    rw (p.1, p.2) (refused_second (header_fault bs) (books_fault n (drop 27 bs)) (header_of bs) _ tt (contents bs) _ passed refused)

pub returns : goal.returns
returns c =
    let bs = c.args.bytes.now in
    let n = byte_at bs 6 in
    let rest = take (length bs - 27) (drop 27 bs) in
    let passed = c.in_ok-header.ensures.answer in
    let same = passed_value (header_fault bs) (header_of bs) _ passed in
    let carriers = ap (λ h. h.carriers) same in
    let sound =
    c.in_ok-check_books.ensures
    ∙ ap (λ m. judged (books_fault m rest) tt) carriers
    ∙ ap (λ r. judged (books_fault n r) tt) (take_rest bs 27) in
    let rest_is = take_rest bs 27 in
    let said = ap (λ h. read_as h rest) same ∙ ap (read_as (header_of bs)) rest_is in
    record {
      answer = ap Ok said ∙ passed_both (header_fault bs) (books_fault n (drop 27 bs)) (header_of bs) _ tt _ (contents bs) passed sound;
      complete = subst (λ (x : Contents). Complete bs x) (sym said) (complete bs (passed_fault (books_fault n (drop 27 bs)) tt tt sound));
    }
