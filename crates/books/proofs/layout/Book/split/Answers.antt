use Rattle.std.proofs.Common.{ap, ◌∙◌, sym, subst, take, List, ℕ, ◌≡◌, length, None}
use Rattle.books.specs.BookLayout.{own, book_size, book_fault}
use Rattle.books.proofs.Own.{own_book, own_whole}
use Rattle.books.proofs.layout.Book.split.Goals as goal

pub invariant_of-result : goal.invariant_of-result
invariant_of-result c =
    let bs = c.args.bytes.now in
    let same : own bs ≡ c.split_at.result.0.now = sym (c.split_at.ensures.front ∙ ap (λ n. take n bs) c.counted_size.ensures) in
    record {
      sound = subst (λ (b : List ℕ). book_fault b ≡ None) same (own_book bs c.requires);
      whole = subst (λ (b : List ℕ). length b ≡ book_size b) same (own_whole bs c.requires);
    }
