-- A call that no rule refuses.
--   Allowed o   the check that looks for the refusal o has passed
use Rattle.std.proofs.Common.{◌≡◌, Ok, Option, Result}
use Rattle.carriers.specs.Rules.{judged}
use Rattle.carriers.specs.declared.refusals.Refusal.{Refusal}

abbrev pub Allowed : Option Refusal → Type 0
Allowed o = ◌≡◌ {A = Result (Unit {0}) Refusal} (Ok tt) (judged o tt)
