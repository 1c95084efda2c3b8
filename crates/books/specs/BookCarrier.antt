-- The carrier that a book's bytes tell. The weight of a link is the row of its record's columns, and a kind reads
-- its weights from there.
--   lists_entry b v   one of the entries of the book b is v
--   is_entry b v      v is a node of the book b and one of its entries
--   columns_of l      delay, fee, width and colours of the record l
--   placed l          the record l as a carrier's link
--   book_carrier b    the nodes, the links and the entries of b
--   ShowsAll b       every record and every entry of b is in its carrier, with the bytes at its place
use Rattle.std.specs.Prelude.{◌≡◌, ℕ, ◌<◌, Bool, true, ◌&&◌, List, [], ◌∷◌, Some, nat_eq, nat_lt}
use Rattle.std.specs.List.{list_any}
use Rattle.std.specs.Option.{option_map}
use Rattle.carriers.specs.Carrier as map
use Rattle.books.specs.declared.records.Link.{Link}
use Rattle.books.specs.BookLayout.{node_count, link_count, entry_count, entry_at, link_start, link_at, link_of, below}

abbrev pub lists_entry : List ℕ → ℕ → Bool
lists_entry b v = list_any (λ i. nat_eq (entry_at b i) v) (below (entry_count b))

abbrev pub is_entry : List ℕ → ℕ → Bool
is_entry b v = nat_lt v (node_count b) && lists_entry b v

abbrev pub columns_of : Link → List ℕ
columns_of l = l.delay ∷ l.fee ∷ l.width ∷ l.colours ∷ []

abbrev pub placed : Link → map.Link (List ℕ)
placed l = record { tail = l.tail; side = l.side; head = l.head; weight = columns_of l }

abbrev pub book_carrier : List ℕ → map.Carrier (List ℕ)
book_carrier b =
    record {
      nodes = node_count b;
      places = link_count b;
      at = λ i. option_map placed (link_of b i);
      entry = is_entry b;
    }

pub record ShowsAll (b : List ℕ) : Type 0 where
  pub links : (i : ℕ) → i < link_count b → (book_carrier b).at i ≡ Some (placed (link_at b (link_start b i)))
  pub entries : (i : ℕ) → i < entry_count b → (book_carrier b).entry (entry_at b i) ≡ true
