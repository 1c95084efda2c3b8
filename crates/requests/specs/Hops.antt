-- What expand leaves and answers.
--   written slice r   the slice that is left, and the answer r
use Rattle.std.specs.Prelude.{ℕ, List, Result}
use Rattle.carriers.specs.declared.refusals.Refusal.{Refusal}
use Rattle.histories.specs.declared.Hop.{Hop}
use Rattle.histories.specs.Expansion.{Expanded}

abbrev pub written : List Hop → Result ℕ Refusal → Expanded
written slice r = record { slice = slice; answer = r }
