-- How many links of a book lead to one side.
--   leads_to s o      o is a link, and leads to the side s
--   links_on s b n    how many of the first n places of the book b hold such a link
use Rattle.std.specs.Prelude.{ℕ, Bool, true, false, List, Some, None, Option, count_by}
use Rattle.carriers.specs.declared.sides.Side.{Side}
use Rattle.carriers.specs.declared.sides.Side.TheVariants.{Inside, Onward}
use Rattle.books.specs.declared.records.Link.{Link}
use Rattle.books.specs.BookLayout.{link_of, below}

abbrev pub same_side : Side → Side → Bool
same_side Inside Inside = true
same_side Inside Onward = false
same_side Onward Inside = false
same_side Onward Onward = true

abbrev pub leads_to : Side → Option Link → Bool
leads_to s None = false
leads_to s (Some l) = same_side s l.side

abbrev pub links_on : Side → List ℕ → ℕ → ℕ
links_on s b n = count_by (λ i. leads_to s (link_of b i)) (below n)
