-- How a weight of each kind is read from the columns of a link record. A column past the end is 0.
--   front_column xs      the first column
--   number_sum n, number_width n, number_colours n   the weight of each kind that the number n tells
--   pair_from n f s xs   a pair whose first part is read by f from the first n columns, and its second by s from the rest
use Rattle.std.specs.Prelude.{ℕ, List, take, drop, slice_index}
use Rattle.weights.specs.declared.colour_sets.Colours.{Colours}
use Rattle.weights.specs.declared.pairs.Pair.{Pair}
use Rattle.weights.specs.declared.sums.Sum.{Sum}
use Rattle.weights.specs.declared.widths.Width.{Width}

abbrev pub front_column : List ℕ → ℕ
front_column xs = slice_index xs 0

abbrev pub number_sum : {U : Type 0} → ℕ → Sum U
number_sum n = record { number = n; unit = record {} }

abbrev pub number_width : ℕ → Width
number_width n = record { mbits = n }

abbrev pub number_colours : ℕ → Colours
number_colours n = record { bits = n }

abbrev pub sum_from : {U : Type 0} → List ℕ → Sum U
sum_from xs = number_sum (front_column xs)

abbrev pub width_from : List ℕ → Width
width_from xs = number_width (front_column xs)

abbrev pub colours_from : List ℕ → Colours
colours_from xs = number_colours (front_column xs)

abbrev pub pair_from : {F S : Type 0} → ℕ → (List ℕ → F) → (List ℕ → S) → List ℕ → Pair F S
pair_from n f s xs = record { first = f (take n xs); second = s (drop n xs) }
