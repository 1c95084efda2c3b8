-- The numbers of the two sides in a link record.
--   side_numbered n   the side whose number is n, or the refusal of a field where it is no side's
use Rattle.std.specs.Prelude.{ℕ, zero, suc, Ok, Err, Result}
use Rattle.carriers.specs.declared.refusals.Refusal.{Refusal}
use Rattle.carriers.specs.declared.refusals.Refusal.TheVariants.{Field}
use Rattle.carriers.specs.declared.sides.Side.{Side}
use Rattle.carriers.specs.declared.sides.Side.TheVariants.{Inside, Onward}

abbrev pub side_numbered : ℕ → Result Side Refusal
side_numbered zero = Ok Inside
side_numbered (suc zero) = Ok Onward
side_numbered (suc (suc n)) = Err Field
