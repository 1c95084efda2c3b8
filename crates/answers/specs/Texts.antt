-- The words for what the calls of a request answer.
--   settled_text n   n labels settled
--   ended_text e     how many routes a finish found, and how many labels it settled
--   listed_text i    the cost of an item, and its key
--   told_text o r    the text of the value of r by o, or the refusal that r is
use Rattle.std.specs.Prelude.{ℕ, List, ◌++◌, codes, decimal, Ok, Err, Result, Some, None, Option}
use Rattle.costs.specs.Texts.{Cost, cost_text}
use Rattle.carriers.specs.Refusals.{refusal_text}
use Rattle.carriers.specs.declared.refusals.Refusal.{Refusal}
use Rattle.histories.specs.declared.Ending.{Ending}
use Rattle.histories.specs.declared.Item.{Item}

abbrev pub settled_text : ℕ → List ℕ
settled_text n = decimal n ++ codes " settled"

abbrev pub routes_text : Option ℕ → List ℕ
routes_text None = codes "no route, "
routes_text (Some n) = decimal n ++ codes " listed, "

abbrev pub ended_text : Ending → List ℕ
ended_text e = routes_text e.routes ++ settled_text e.settled

abbrev pub listed_text : Item Cost → List ℕ
listed_text i = cost_text i.weight ++ (codes ", key " ++ decimal i.key)

abbrev pub told_text : {T : Type 0} → (T → Option (List ℕ)) → Result T Refusal → Option (List ℕ)
told_text o (Ok x) = o x
told_text o (Err r) = Some (codes "refused " ++ refusal_text r)
