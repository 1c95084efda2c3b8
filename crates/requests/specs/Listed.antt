-- What item answers, by meaning.
--   item_meant f i   the item i with f of its weight for its weight
--   answered f r     the same of the item in the answer r, if there is one
use Rattle.std.specs.Prelude.{Ok, Err, Result}
use Rattle.carriers.specs.declared.refusals.Refusal.{Refusal}
use Rattle.histories.specs.declared.Item.{Item}

abbrev pub item_meant : {W V : Type 0} → (W → V) → Item W → Item V
item_meant f i = record { weight = f i.weight; key = i.key }

abbrev pub answered : {W V : Type 0} → (W → V) → Result (Item W) Refusal → Result (Item V) Refusal
answered f (Ok i) = Ok (item_meant f i)
answered f (Err e) = Err e
