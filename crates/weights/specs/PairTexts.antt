-- The text of a pair.
--   spaced o p   the text o, a space, and the text p, where both are known
use Rattle.std.specs.Prelude.{ℕ, List, Some, codes, Option}
use Rattle.std.specs.Fmt.{option_append}

abbrev pub spaced : Option (List ℕ) → Option (List ℕ) → Option (List ℕ)
spaced o p = option_append o (option_append (Some (codes " ")) p)
