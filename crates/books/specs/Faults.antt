-- Faults of bytes, one after the other.
--   otherwise o p     what o refuses, or else what p refuses
--   mark_fault m bs   why bs does not begin with the mark m of three bytes and the version 1, if it does not
use Rattle.std.specs.Prelude.{ℕ, not, List, [], ◌∷◌, take, Some, None, Option, ◌==◌}
use Rattle.std.specs.Str.{bytes_eq}
use Rattle.carriers.specs.Rules.{refusal}
use Rattle.carriers.specs.declared.refusals.Refusal.{Refusal}
use Rattle.carriers.specs.declared.refusals.Refusal.TheVariants.{Mark, Version}
use Rattle.books.specs.Bytes.{u16_at}

abbrev pub otherwise : Option Refusal → Option Refusal → Option Refusal
otherwise None p = p
otherwise (Some r) p = Some r

abbrev pub mark_fault : List ℕ → List ℕ → Option Refusal
mark_fault m bs = refusal ((not (bytes_eq (take 3 bs) m), Mark) ∷ (not (u16_at bs 3 == 1), Version) ∷ [])
