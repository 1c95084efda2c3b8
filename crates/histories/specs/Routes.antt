-- Routes through a chain of carriers, the destination's carrier first.
--   LinkAt c p l                the link l stands at the place p of the carrier c
--   hop i p                      the hop by the link at the place p of the carrier at position i
--   Route A chain t i v hops x   a route from the node v of the carrier at position i to the destination t, a node of
--                                the carrier at position 0. It takes the links of hops, in order, and has the weight x:
--                                it has arrived, or goes along a link inside its carrier, or by an onward link onto an
--                                entry node of the next carrier
use Rattle.std.specs.Prelude.{◌≡◌, ℕ, suc, ◌<◌, T, List, [], ◌∷◌, Some}
use Rattle.std.specs.List.{slice_get}
use Rattle.weights.specs.Algebra.{Algebra}
use Rattle.carriers.specs.declared.sides.Side.TheVariants.{Inside, Onward}
use Rattle.carriers.specs.Carrier.{Link, Carrier}
use Rattle.histories.specs.declared.Hop.{Hop}

abbrev pub LinkAt : {W : Type 0} → Carrier W → ℕ → Link W → Type 0
LinkAt c p l = (p < c.places) × (c.at p ≡ Some l)

abbrev pub hop : ℕ → ℕ → Hop
hop i p = record { position = i; link = p }

pub data Route (A : Algebra) (chain : List (Carrier A.Weight)) (t : ℕ)
    : ℕ → ℕ → List Hop → A.Weight → Type 0 where
  arrived : Route A chain t 0 t [] A.neutral
  along : {i : ℕ} {hops : List Hop} {x : A.Weight} (c : Carrier A.Weight) (p : ℕ) (l : Link A.Weight)
      → slice_get chain i ≡ Some c
      → LinkAt c p l
      → l.side ≡ Inside
      → Route A chain t i l.head hops x
      → Route A chain t i l.tail (hop i p ∷ hops) (A.join l.weight x)
  onto : {i : ℕ} {hops : List Hop} {x : A.Weight} (c d : Carrier A.Weight) (p : ℕ) (l : Link A.Weight)
      → slice_get chain (suc i) ≡ Some c
      → slice_get chain i ≡ Some d
      → LinkAt c p l
      → l.side ≡ Onward
      → T (d.entry l.head)
      → Route A chain t i l.head hops x
      → Route A chain t (suc i) l.tail (hop (suc i) p ∷ hops) (A.join l.weight x)
