-- A chain of two carriers, with delays and fees, and what calls on a request for it lead to.
--   cost d f                the weight with the delay d and the fee f
--   carrier_0, carrier_1    the carriers, the destination's and the source's
--   label v d f p k marked  the label at v with the delay d, the fee f, the link p and the next k
--   soiled n                n labels that hold whatever was there before
--   played n cs             the log and the request after the calls cs, one after another, over n labels
--   whole d f               the calls for a route from node 0 to node 2 within the delay d and the fee f
--   item_at r v k           what item answers of the request r for the k-th of the list at v
--   asked d f k             what it answers at the source after these calls, over 7 labels
use Rattle.std.specs.Prelude.{ℕ, Bool, true, false, List, [], ◌∷◌, replicate, Result, nat_lt}
use Rattle.std.specs.List.{slice_get}
use Rattle.weights.specs.Algebra.{Algebra}
use Rattle.weights.specs.Capped.{cut}
use Rattle.weights.specs.Sums.{top, sums}
use Rattle.weights.specs.Pairs.{pairs}
use Rattle.carriers.specs.declared.sides.Side.{Side}
use Rattle.carriers.specs.declared.sides.Side.TheVariants.{Inside, Onward}
use Rattle.carriers.specs.Carrier.{Link, Carrier}
use Rattle.carriers.specs.declared.refusals.Refusal.{Refusal}
use Rattle.stepping.specs.declared.Label.{Label}
use Rattle.stepping.specs.Labels.{Labels}
use Rattle.histories.specs.declared.Item.{Item}
use Rattle.histories.specs.Stages.{idle}
use Rattle.histories.specs.Lists.{on_item}
use Rattle.histories.specs.Histories.{Call, to_open, to_cross, to_finish, does, Log, State, left}

abbrev pub costs : Algebra
costs = pairs (sums top) (sums top)

abbrev pub cost : ℕ → ℕ → costs.Weight
cost d f = record { first = cut top d; second = cut top f }

abbrev link : ℕ → Side → ℕ → ℕ → ℕ → Link costs.Weight
link t s h d f = record { tail = t; side = s; head = h; weight = cost d f }

abbrev pub carrier_0 : Carrier costs.Weight
carrier_0 =
    record {
      nodes = 3;
      places = 4;
      at = slice_get (link 0 Inside 2 5 1 ∷ link 0 Inside 1 1 1 ∷ link 1 Inside 2 2 3 ∷ link 1 Inside 2 2 4 ∷ []);
      entry = λ v. nat_lt v 2;
    }

abbrev pub carrier_1 : Carrier costs.Weight
carrier_1 =
    record {
      nodes = 2;
      places = 4;
      at = slice_get (link 0 Inside 1 1 0 ∷ link 0 Onward 0 2 2 ∷ link 1 Onward 1 3 0 ∷ link 1 Inside 0 0 0 ∷ []);
      entry = λ v. false;
    }

abbrev pub label : ℕ → ℕ → ℕ → ℕ → ℕ → Bool → Label costs.Weight
label v d f p k marked = record { node = v; weight = cost d f; link = p; next = k; mark = marked }

abbrev pub soiled : ℕ → Labels costs
soiled n = replicate n (label 9 9 9 9 9 true)

abbrev played_on : Log costs.Weight → State costs.Weight → List (Call costs.Weight)
    → Log costs.Weight × State costs.Weight
played_on log r [] = (log, r)
played_on log r (c ∷ cs) =
    let a = does costs r.stage c r.labels in
    played_on ((c, a.answer) ∷ log) (left a) cs

abbrev pub played : ℕ → List (Call costs.Weight) → Log costs.Weight × State costs.Weight
played n cs = played_on [] (record { stage = idle; labels = soiled n }) cs

abbrev pub whole : ℕ → ℕ → List (Call costs.Weight)
whole d f = to_open (cost d f) 2 ∷ to_cross carrier_0 ∷ to_finish carrier_1 0 ∷ []

abbrev pub item_at : State costs.Weight → ℕ → ℕ → Result (Item costs.Weight) Refusal
item_at r v k = on_item r.stage v k r.labels

abbrev pub asked : ℕ → ℕ → ℕ → Result (Item costs.Weight) Refusal
asked d f k = item_at (played 7 (whole d f)).1 0 k
