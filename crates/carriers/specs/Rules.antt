-- Rules in the order in which they are looked at, and the first that is broken.
--   Rule         a fault that may be found, and the refusal for it
--   refusal rs   the refusal of the first rule of rs whose fault is found, if one is
--   judged o x   refused by o, if it is a refusal, or else x
use Rattle.std.specs.Prelude.{Bool, cond, List, [], ◌∷◌, Some, None, Ok, Err, Option, Result}
use Rattle.carriers.specs.declared.refusals.Refusal.{Refusal}

abbrev pub Rule : Type 0
Rule = Bool × Refusal

abbrev pub refusal : List Rule → Option Refusal
refusal [] = None
refusal (r ∷ rs) = cond r.0 (Some r.1) (refusal rs)

abbrev pub judged : {X : Type 0} → Option Refusal → X → Result X Refusal
judged None x = Ok x
judged (Some r) x = Err r
