-- A book, byte for byte: what lies where, and which byte strings are books.
--   own bs           the bytes of the book at the front of bs
--   entry_of b i     the i-th entry node of the book b, if it has that many
--   link_of b i      the link at place i of the book b; None past the last, or where a field breaks its rule
--   below n          the numbers below n
--   book_fault bs    why the front of bs is no book, if it is none
use Rattle.std.specs.Prelude.{ℕ, ◌+◌, ◌-◌, ◌*◌, Bool, cond, not, ◌&&◌, ◌||◌, List, [], ◌∷◌, length, take, Some, None, codes, Option, ◌==◌, nat_le, nat_lt}
use Rattle.std.specs.List.{range_with_len, list_all}
use Rattle.std.specs.Str.{bytes_eq}
use Rattle.weights.specs.Sums.{top}
use Rattle.carriers.specs.declared.sides.Side.{Side}
use Rattle.carriers.specs.declared.sides.Side.TheVariants.{Inside, Onward}
use Rattle.carriers.specs.declared.refusals.Refusal.{Refusal}
use Rattle.carriers.specs.declared.refusals.Refusal.TheVariants.{Size, Mark, Version, Length, Field}
use Rattle.books.specs.declared.records.Link.{Link}
use Rattle.books.specs.Bytes.{byte_at, u16_at, u32_at}
use Rattle.carriers.specs.Rules.{refusal}
use Rattle.books.specs.Faults.{otherwise}

abbrev pub node_count : List ℕ → ℕ
node_count bs = u16_at bs 5

abbrev pub link_count : List ℕ → ℕ
link_count bs = u16_at bs 7

abbrev pub entry_count : List ℕ → ℕ
entry_count bs = u16_at bs 9

abbrev pub entry_at : List ℕ → ℕ → ℕ
entry_at bs i = u16_at bs (11 + 2 * i)

abbrev pub link_start : List ℕ → ℕ → ℕ
link_start bs i = 11 + 2 * entry_count bs + 24 * i

abbrev pub book_size : List ℕ → ℕ
book_size bs = link_start bs (link_count bs)

abbrev pub own : List ℕ → List ℕ
own bs = take (book_size bs) bs

-- an entry is a node, above the entry before it
abbrev pub entry_sound : List ℕ → ℕ → Bool
entry_sound b i = nat_lt (entry_at b i) (node_count b) && (i == 0 || nat_lt (entry_at b (i - 1)) (entry_at b i))

abbrev pub entry_of : List ℕ → ℕ → Option ℕ
entry_of b i = cond (nat_lt i (entry_count b)) (Some (entry_at b i)) None

-- side 0 leads to a node of this book, and side 1 to one of the next
abbrev pub side_of : ℕ → Side
side_of s = cond (s == 0) Inside Onward

-- the fields of a link that begins at p, in a book of n nodes
abbrev pub link_sound : List ℕ → ℕ → ℕ → Bool
link_sound b n p =
    nat_lt (u16_at b p) n
    && (nat_le (byte_at b (p + 2)) 1
    && (byte_at b (p + 3) == 0
    && ((byte_at b (p + 2) == 1 || nat_lt (u16_at b (p + 4)) n)
    && (u16_at b (p + 6) == 0
    && (nat_le (u32_at b (p + 8)) top
    && nat_le (u32_at b (p + 12)) top)))))

abbrev pub link_at : List ℕ → ℕ → Link
link_at b p =
    record {
      tail = u16_at b p;
      side = side_of (byte_at b (p + 2));
      head = u16_at b (p + 4);
      delay = u32_at b (p + 8);
      fee = u32_at b (p + 12);
      width = u32_at b (p + 16);
      colours = u32_at b (p + 20);
    }

abbrev pub link_of : List ℕ → ℕ → Option Link
link_of b i =
    cond
    (nat_lt i (link_count b) && link_sound b (node_count b) (link_start b i))
    (Some (link_at b (link_start b i)))
    None

abbrev pub below : ℕ → List ℕ
below n = range_with_len 0 n

-- every entry and every link keeps its rules
abbrev pub entries_sound : List ℕ → Bool
entries_sound b = list_all (entry_sound b) (below (entry_count b))

abbrev pub links_sound : List ℕ → Bool
links_sound b = list_all (λ i. link_sound b (node_count b) (link_start b i)) (below (link_count b))

abbrev pub fields_sound : List ℕ → Bool
fields_sound b = entries_sound b && links_sound b

-- why the front of bs has not the shape of a book, whatever its entries and links say
abbrev pub shape_fault : List ℕ → Option Refusal
shape_fault bs =
    refusal
    ((nat_lt (length bs) 11, Length)
    ∷ (not (bytes_eq (take 3 bs) (codes "LNK")), Mark)
    ∷ (not (u16_at bs 3 == 1), Version)
    ∷ (node_count bs == 0 || (nat_lt 1024 (node_count bs) || nat_lt 8192 (link_count bs)), Size)
    ∷ (nat_lt (length bs) (book_size bs), Length)
    ∷ [])

abbrev pub book_fault : List ℕ → Option Refusal
book_fault bs = otherwise (shape_fault bs) (refusal ((not (fields_sound (own bs)), Field) ∷ []))
