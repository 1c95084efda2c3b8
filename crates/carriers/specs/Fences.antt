-- The carrier behind a fence.
--   fenced A f limit o   the link o, absent where its weight, by the meaning f, is not within the limit
--   fence A f limit c    the carrier c with each of its links so fenced
use Rattle.std.specs.Prelude.{cond, Some, None, Option}
use Rattle.weights.specs.Algebra.{Algebra}
use Rattle.carriers.specs.Carrier.{Link, Carrier}

abbrev pub fenced : {W : Type 0} (A : Algebra) → (W → A.Weight) → W → Option (Link W) → Option (Link W)
fenced A f limit None = None
fenced A f limit (Some l) = cond (A.good (f l.weight) (f limit)) (Some l) None

abbrev pub fence : {W : Type 0} (A : Algebra) → (W → A.Weight) → W → Carrier W → Carrier W
fence A f limit c =
    record { nodes = c.nodes; places = c.places; at = λ p. fenced A f limit (c.at p); entry = c.entry }
