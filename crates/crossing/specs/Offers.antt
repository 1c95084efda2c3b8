-- The choice among candidates as the code makes it: a link with its mark, and what it makes of labels.
--   offer_meant f o          the link o with f of its weight for its weight
--   offer_at V p l           the link l at the place p as it is offered: what it makes is marked if V marks its tail
--   counted A b run d        d is within the bound b, and no label of the run at its node is as good
--   chosen A b run o d       the first of the best so far, o, and d, if d counts
--   passes s m               a link to the side s passes labels with the mark m
--   meets o y                the link o meets the label y
--   offered A o k y          the label that the link o makes of the label y with the key k
--   offers A o k ys          what o makes of those of ys that it meets; the first of ys has the key k
--   offers_of A o s k ys j zs
--                            what o makes where it leads to the side s: inside of ys, and onward of zs; the first of
--                            these have the keys k and j
use Rattle.std.specs.Prelude.{ℕ, suc, Bool, true, cond, not, ◌&&◌, [], ◌∷◌, Option, ◌==◌}
use Rattle.weights.specs.Algebra.{Algebra}
use Rattle.carriers.specs.declared.sides.Side.{Side}
use Rattle.carriers.specs.declared.sides.Side.TheVariants.{Inside, Onward}
use Rattle.carriers.specs.Carrier.{Link}
use Rattle.stepping.specs.declared.Label.{Label}
use Rattle.stepping.specs.Labels.{Labels}
use Rattle.stepping.specs.View.{View}
use Rattle.stepping.specs.Crossing.{covers, precedes, better}
use Rattle.crossing.specs.declared.choosing.Offer.{Offer}

abbrev pub offer_meant : {W V : Type 0} → (W → V) → Offer W → Offer V
offer_meant f o = record { place = o.place; tail = o.tail; side = o.side; head = o.head; weight = f o.weight; mark = o.mark }

abbrev pub offer_at : {A : Algebra} → View A → ℕ → Link A.Weight → Offer A.Weight
offer_at V p l = record { place = p; tail = l.tail; side = l.side; head = l.head; weight = l.weight; mark = V.marks l.tail }

abbrev pub counted : (A : Algebra) → A.Weight → Labels A → Label A.Weight → Bool
counted A b run d = A.good d.weight b && not (covers A run d.node d.weight)

abbrev pub chosen : (A : Algebra) → A.Weight → Labels A → Option (Label A.Weight) → Label A.Weight → Option (Label A.Weight)
chosen A b run o d = better (precedes A) (counted A b run d) o d

abbrev pub passes : Side → Bool → Bool
passes Inside m = true
passes Onward m = m

abbrev pub meets : {W : Type 0} → Offer W → Label W → Bool
meets o y = y.node == o.head && passes o.side y.mark

abbrev pub offered : (A : Algebra) → Offer A.Weight → ℕ → Label A.Weight → Label A.Weight
offered A o k y =
    record { node = o.tail; weight = A.join o.weight y.weight; link = o.place; next = k; mark = o.mark }

abbrev pub offers : (A : Algebra) → Offer A.Weight → ℕ → Labels A → Labels A
offers A o k [] = []
offers A o k (y ∷ ys) = cond (meets o y) (offered A o k y ∷ offers A o (suc k) ys) (offers A o (suc k) ys)

abbrev pub offers_of : (A : Algebra) → Offer A.Weight → Side → ℕ → Labels A → ℕ → Labels A → Labels A
offers_of A o Inside k ys j zs = offers A o k ys
offers_of A o Onward k ys j zs = offers A o j zs
