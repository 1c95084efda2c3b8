-- The bytes of a book, cut off where it ends, are a book.
use Rattle.std.proofs.Common.{◌≡◌, ℕ, ◌+◌, ◌<◌, ◌≤◌, true, not, List, [], ◌∷◌, length, take, drop, None, sym, ap, ◌∙◌, arith, lit<}
use Rattle.std.proofs.lemmas.Bool.{le-ltb}
use Rattle.std.proofs.lemmas.Bool.Decides.{nat_tests}
use Rattle.std.proofs.lemmas.List.{take-append-drop, take-append-le, length-take-le, get_or-take, take_all}
use Rattle.carriers.specs.declared.refusals.Refusal.TheVariants.{Field}
use Rattle.carriers.specs.Rules.{refusal}
use Rattle.books.specs.Faults.{otherwise}
use Rattle.books.specs.Bytes.{u16_at}
use Rattle.books.specs.BookLayout.{own, book_size, shape_fault, book_fault, fields_sound}
use Rattle.books.proofs.Verdicts.{neither_first, neither_second, fault_free}

module _ (bs : List ℕ) (e : shape_fault bs ≡ None) where
  long : book_size bs ≤ length bs
  long = grind (arith, nat_tests)

  pub own_length : length (own bs) ≡ book_size bs
  own_length = length-take-le (book_size bs) bs long

  u16_own : (i : ℕ) → i < 10 → u16_at (own bs) i ≡ u16_at bs i
  u16_own i l = let a = get_or-take (book_size bs) bs i 0 (omega arith) in let b = get_or-take (book_size bs) bs (i + 1) 0 (omega arith) in cc

  pub own_size : book_size (own bs) ≡ book_size bs
  own_size = let a = u16_own 7 (lit< tt) in let b = u16_own 9 (lit< tt) in cc

  same_mark : take 3 (own bs) ≡ take 3 bs
  same_mark =
      sym (take-append-le 3 (own bs) (drop (book_size bs) bs) (omega (arith, own_length)))
      ∙ ap (take 3) (take-append-drop (book_size bs) bs)

  own_shape : shape_fault (own bs) ≡ None
  own_shape =
      let short = le-ltb (length (own bs)) 11 (omega (arith, own_length)) ∙ sym (le-ltb (length bs) 11 (omega (arith, long))) in
      let cut = le-ltb (length (own bs)) (book_size (own bs)) (omega (arith, own_length, own_size)) ∙ sym (le-ltb (length bs) (book_size bs) long) in
      let mark = same_mark in
      let version = u16_own 3 (lit< tt) in
      let nodes = u16_own 5 (lit< tt) in
      let links = u16_own 7 (lit< tt) in
      cc

  pub own_of_own : own (own bs) ≡ own bs
  own_of_own = ap (λ n. take n (own bs)) own_size ∙ take_all (book_size bs) (own bs) (omega (arith, own_length))

pub own_book : (bs : List ℕ) → book_fault bs ≡ None → book_fault (own bs) ≡ None
own_book bs e =
    let shape = neither_first (shape_fault bs) _ e in
    ap (λ o. otherwise o (refusal ((not (fields_sound (own (own bs))), Field) ∷ []))) (own_shape bs shape)
    ∙ (ap (λ b. refusal ((not (fields_sound b), Field) ∷ [])) (own_of_own bs shape) ∙ neither_second (shape_fault bs) _ e)

pub own_whole : (bs : List ℕ) → book_fault bs ≡ None → length (own bs) ≡ book_size (own bs)
own_whole bs e =
    let shape = neither_first (shape_fault bs) _ e in
    own_length bs shape ∙ sym (own_size bs shape)

-- the fields of a book that ends where its bytes do are sound
pub whole_sound : (b : List ℕ) → book_fault b ≡ None → length b ≡ book_size b → fields_sound b ≡ true
whole_sound b e w =
    ap fields_sound (sym (take_all (book_size b) b (omega arith))) ∙ fault_free (fields_sound (own b)) (neither_second (shape_fault b) _ e)
