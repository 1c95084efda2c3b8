-- One book after the other: what a step past a book leaves of the books and of their faults.
use Rattle.std.proofs.Common.{◌≡◌, ℕ, zero, suc, ◌+◌, ◌-◌, ◌<◌, List, length, drop, None, sym, refl, ap, ◌∙◌, arith}
use Rattle.books.specs.BookLayout.{book_size, book_fault}
use Rattle.books.specs.ChainLayout.{books_in, books_fault}
use Rattle.books.specs.Faults.{otherwise}
use Rattle.books.proofs.Verdicts.{neither_first, neither_second}

pub length_books_in : (n : ℕ) (bs : List ℕ) → length (books_in n bs) ≡ n
length_books_in zero bs = refl
length_books_in (suc n) bs = ap suc (length_books_in n (drop (book_size bs) bs))

-- i books of n are behind, and bs begins with the next
pub fault_more : (n i : ℕ) (bs : List ℕ) → i < n → books_fault (n - i) bs ≡ otherwise (book_fault bs) (books_fault (n - (i + 1)) (drop (book_size bs) bs))
fault_more n i bs l =
    let e : n - i ≡ suc (n - (i + 1)) = omega arith in ap (λ k. books_fault k bs) e

-- where bytes are n books and no more, they begin with a book, and the bytes after it are one book less
pub one_sound : (n m : ℕ) (bs : List ℕ) → n ≡ suc m → books_fault n bs ≡ None → book_fault bs ≡ None
one_sound n m bs e h = neither_first (book_fault bs) _ (ap (λ k. books_fault k bs) (sym e) ∙ h)

pub rest_sound : (n m : ℕ) (bs : List ℕ) → n ≡ suc m → books_fault n bs ≡ None → books_fault m (drop (book_size bs) bs) ≡ None
rest_sound n m bs e h = neither_second (book_fault bs) _ (ap (λ k. books_fault k bs) (sym e) ∙ h)
