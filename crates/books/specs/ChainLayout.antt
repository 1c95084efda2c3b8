-- A chain file, byte for byte: a header of 27 bytes, then the books of its carriers, the destination's first.
--   header_of bs       what the header of bs says, its bounds by its selection
--   books_fault n bs   why bs is not n books and no more, if it is not
--   books_in n bs      the bytes of each of the n books that bs begins with
--   chain_of bs        what the chain file bs says, or its first refusal
use Rattle.std.specs.Prelude.{◌≡◌, ℕ, zero, suc, min, true, cond, not, ◌||◌, List, [], ◌∷◌, ◌++◌, length, take, drop, Some, codes, Option, Result, ◌==◌, nat_lt}
use Rattle.std.specs.List.{flat_map, slice_get}
use Rattle.std.specs.Str.{bytes_eq}
use Rattle.weights.specs.Sums.{top}
use Rattle.weights.specs.declared.colour_sets.Colours.{Colours}
use Rattle.weights.specs.declared.pairs.Pair.{Pair}
use Rattle.weights.specs.declared.sums.Cents.{Cents}
use Rattle.weights.specs.declared.sums.Microseconds.{Microseconds}
use Rattle.weights.specs.declared.sums.Sum.{Sum}
use Rattle.weights.specs.declared.widths.Width.{Width}
use Rattle.carriers.specs.declared.refusals.Refusal.{Refusal}
use Rattle.carriers.specs.declared.refusals.Refusal.TheVariants.{Mark, Version, Length, Field}
use Rattle.books.specs.declared.bounds.Bounds.{Bounds}
use Rattle.books.specs.declared.bounds.Bounds.TheVariants.{Delay, DelayFee, All}
use Rattle.books.specs.declared.header.Header.{Header}
use Rattle.books.specs.Bytes.{byte_at, u16_at, u32_at}
use Rattle.carriers.specs.Rules.{refusal}
use Rattle.carriers.specs.Rules.{judged}
use Rattle.books.specs.Faults.{otherwise}
use Rattle.books.specs.BookLayout.{own, book_size, book_fault, fields_sound}
use Rattle.books.specs.BookCarrier.{ShowsAll}

-- the selection is 1, 2 or 3
abbrev pub selection_fault : List ℕ → Option Refusal
selection_fault bs = refusal ((byte_at bs 5 == 0 || nat_lt 3 (byte_at bs 5), Field) ∷ [])

abbrev pub header_fault : List ℕ → Option Refusal
header_fault bs =
    refusal
    ((nat_lt (length bs) 27 || nat_lt 65536 (length bs), Length)
    ∷ (not (bytes_eq (take 3 bs) (codes "CHN")), Mark)
    ∷ (not (u16_at bs 3 == 1), Version)
    ∷ (byte_at bs 5 == 0 || nat_lt 3 (byte_at bs 5), Field)
    ∷ (byte_at bs 6 == 0 || nat_lt 16 (byte_at bs 6), Field)
    ∷ [])

-- n books one after the other, and no byte more
abbrev pub books_fault : ℕ → List ℕ → Option Refusal
books_fault zero bs = refusal ((nat_lt 0 (length bs), Length) ∷ [])
books_fault (suc n) bs = otherwise (book_fault bs) (books_fault n (drop (book_size bs) bs))

abbrev pub books_in : ℕ → List ℕ → List (List ℕ)
books_in zero bs = []
books_in (suc n) bs = own bs ∷ books_in n (drop (book_size bs) bs)

-- a sum that serves as a bound is read as the ceiling where it exceeds it
abbrev pub sum_at : {U : Type 0} → List ℕ → ℕ → Sum U
sum_at bs p = record { number = min (u32_at bs p) top; unit = record {} }

abbrev pub all_four : List ℕ → Pair (Sum Microseconds) (Pair (Sum Cents) (Pair Width Colours))
all_four bs =
    record {
      first = sum_at bs 11;
      second = record {
        first = sum_at bs 15;
        second = record { first = record { mbits = u32_at bs 19 }; second = record { bits = u32_at bs 23 } };
      };
    }

-- the bounds by the selection: 1, 2 or 3
abbrev pub bounds_of : ℕ → List ℕ → Bounds
bounds_of selection bs =
    cond
    (selection == 1)
    (Delay (sum_at bs 11))
    (cond (selection == 2) (DelayFee (record { first = sum_at bs 11; second = sum_at bs 15 })) (All (all_four bs)))

abbrev pub header_of : List ℕ → Header
header_of bs =
    record {
      bounds = bounds_of (byte_at bs 5) bs;
      destination = u16_at bs 7;
      source = u16_at bs 9;
      carriers = byte_at bs 6;
    }

pub record Contents : Type 0 where
  pub bounds : Bounds
  pub destination : ℕ
  pub source : ℕ
  pub books : List (List ℕ)

abbrev pub contents : List ℕ → Contents
contents bs =
    record {
      bounds = bounds_of (byte_at bs 5) bs;
      destination = u16_at bs 7;
      source = u16_at bs 9;
      books = books_in (byte_at bs 6) (drop 27 bs);
    }

-- nothing is lost: the file is its header and then its books, every entry and every link of a book is there, and
-- its carrier shows them
pub record Complete (bs : List ℕ) (c : Contents) : Type 0 where
  pub whole : bs ≡ take 27 bs ++ flat_map (λ b. b) c.books
  pub present : (i : ℕ) (b : List ℕ) → slice_get c.books i ≡ Some b → fields_sound b ≡ true
  pub shown : (i : ℕ) (b : List ℕ) → slice_get c.books i ≡ Some b → ShowsAll b

abbrev pub chain_of : List ℕ → Result Contents Refusal
chain_of bs = judged (otherwise (header_fault bs) (books_fault (byte_at bs 6) (drop 27 bs))) (contents bs)

-- a book that is read alone
abbrev pub lone_book : List ℕ → Result (List ℕ) Refusal
lone_book bs = judged (books_fault 1 bs) (own bs)
