use Rattle.std.proofs.Common.{min, length, take, drop, ap, ◌∙◌}
use Rattle.std.proofs.lemmas.List.{take_min, drop_min}
use Rattle.books.proofs.kinds.PairBookKind.read.Goals as goal

pub returns : goal.returns
returns g c =
    let xs = c.args.numbers.now in
    let n = g.F.BookKind.columns in
    let at = c.min.ensures ∙ ap (λ k. min k (length xs)) c.columns.ensures.value in
    let front = c.split_at.ensures.front ∙ ap (λ k. take k xs) at ∙ take_min n xs in
    let back = c.split_at.ensures.back ∙ ap (λ k. drop k xs) at ∙ drop_min n xs in
    let first = c.read.ensures ∙ ap g.F.BookKind.reads front in
    let second = c.read-2.ensures ∙ ap g.S.BookKind.reads back in
    cc
