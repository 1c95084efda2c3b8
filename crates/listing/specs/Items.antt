-- What a list of routes stands for.
--   items_of l       its items, if there are routes
--   list_meant f l   the same with f of each weight for the weight
--   Listed t f r s   s is the list of items with the weights' texts by t, and with f of the weights they are those in r
use Rattle.std.specs.Prelude.{◌≡◌, ℕ, List, map, vec_items, Ok, Option, Result}
use Rattle.carriers.specs.declared.refusals.Refusal.{Refusal}
use Rattle.std.specs.Option.{option_map}
use Rattle.histories.specs.declared.Item.{Item}
use Rattle.requests.specs.Listed.{item_meant}
use Rattle.listing.specs.Texts.{list_text}
use Rattle.listing.specs.declared.route_list.RouteList.{RouteList}

abbrev pub items_of : {W : Type 0} → RouteList W → Option (List (Item W))
items_of l = option_map vec_items l.routes

abbrev pub list_meant : {W V : Type 0} → (W → V) → RouteList W → Option (List (Item V))
list_meant f l = option_map (map (item_meant f)) (items_of l)

abbrev pub Listed : {W V : Type 0} → (W → List ℕ) → (W → V) → Result (Option (List (Item V))) Refusal → List ℕ → Type 0
Listed {W} t f r s = (l : Option (List (Item W))) × (Ok (option_map (map (item_meant f)) l) ≡ r) × (list_text t l ≡ s)
