-- The ranges of a link's fields.
--   within n l   the link l, in a book of n nodes, begins and ends at nodes, and its sums are at most the ceiling
use Rattle.std.specs.Prelude.{ℕ, Bool, ◌&&◌, ◌||◌, nat_le, nat_lt}
use Rattle.weights.specs.Sums.{top}
use Rattle.carriers.specs.declared.sides.Side.TheVariants.{Onward}
use Rattle.books.specs.declared.records.Link.{Link}
use Rattle.books.specs.Sides.{same_side}

-- the head of a link that leads onward is a node of another book
abbrev pub within : ℕ → Link → Bool
within n l =
    nat_lt l.tail n
    && ((same_side l.side Onward || nat_lt l.head n)
    && (nat_le l.delay top
    && nat_le l.fee top))
