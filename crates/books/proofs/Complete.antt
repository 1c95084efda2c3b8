-- Where bytes are so many books and no more, the books are all of the bytes, and their fields are sound.
use Rattle.std.proofs.Common.{◌≡◌, ℕ, zero, suc, true, List, [], ◌∷◌, ◌++◌, length, take, drop, Some, None, sym, refl, ap, ◌∙◌, subst, arith}
use Rattle.std.specs.List.{flat_map, slice_get}
use Rattle.std.proofs.lemmas.List.{take-append-drop}
use Rattle.std.proofs.lemmas.Bool.{lt-ltb, cond-true}
use Rattle.carriers.specs.declared.refusals.Refusal.TheVariants.{Length}
use Rattle.books.specs.BookLayout.{own, book_size, book_fault, shape_fault, fields_sound}
use Rattle.books.specs.ChainLayout.{Complete, contents, books_fault, books_in}
use Rattle.books.specs.Bytes.{byte_at}
use Rattle.books.proofs.Shown.{shows_all}
use Rattle.books.proofs.Verdicts.{neither_first, neither_second, fault_free}

no_bytes : (bs : List ℕ) → books_fault 0 bs ≡ None → bs ≡ []
no_bytes [] e = refl
no_bytes (b ∷ bs) e =
    let some = cond-true _ (Some Length) None (lt-ltb 0 (length (b ∷ bs)) (omega arith)) in
    absurd (let z : ◌≡◌ {A = ℕ} 0 1 = cc (sym some ∙ e) in omega arith)

pub book_sound : (bs : List ℕ) → book_fault bs ≡ None → fields_sound (own bs) ≡ true
book_sound bs e = fault_free (fields_sound (own bs)) (neither_second (shape_fault bs) _ e)

pub books_whole : (n : ℕ) (bs : List ℕ) → books_fault n bs ≡ None → bs ≡ flat_map (λ b. b) (books_in n bs)
books_whole zero bs e = no_bytes bs e
books_whole (suc n) bs e =
    sym (take-append-drop (book_size bs) bs)
    ∙ ap (λ r. own bs ++ r) (books_whole n (drop (book_size bs) bs) (neither_second (book_fault bs) _ e))

pub books_present : (n : ℕ) (bs : List ℕ) → books_fault n bs ≡ None → (i : ℕ) (b : List ℕ) → slice_get (books_in n bs) i ≡ Some b → fields_sound b ≡ true
books_present zero bs e i b h = absurd (let z : ◌≡◌ {A = ℕ} 0 1 = cc in omega arith)
books_present (suc n) bs e zero b h =
    let s : own bs ≡ b = cc in subst (λ x. fields_sound x ≡ true) s (book_sound bs (neither_first (book_fault bs) _ e))
books_present (suc n) bs e (suc i) b h =
    books_present n (drop (book_size bs) bs) (neither_second (book_fault bs) _ e) i b h

pub complete : (bs : List ℕ) → books_fault (byte_at bs 6) (drop 27 bs) ≡ None → Complete bs (contents bs)
complete bs e =
    record {
      whole = sym (take-append-drop 27 bs) ∙ ap (λ r. take 27 bs ++ r) (books_whole (byte_at bs 6) (drop 27 bs) e);
      present = books_present (byte_at bs 6) (drop 27 bs) e;
      shown = λ i b h. shows_all b (books_present (byte_at bs 6) (drop 27 bs) e i b h);
    }
