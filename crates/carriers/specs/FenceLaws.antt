-- A fence over a sound carrier is a sound carrier.
use Rattle.std.specs.Prelude.{◌≡◌, Some, None, Option}
use Rattle.std.proofs.Common.{ap}
use Rattle.weights.specs.Algebra.{Algebra}
use Rattle.carriers.specs.Carrier.{Link, Carrier, Sound}
use Rattle.carriers.specs.Fences.{fenced, fence}
use Rattle.carriers.specs.Present.{from_tested}

module _ {W : Type 0} (A : Algebra) (f : W → A.Weight) (limit : W) where
  -- what stands behind the fence stands in the map
  stands : (o : Option (Link W)) (l : Link W) → fenced A f limit o ≡ Some l → o ≡ Some l
  stands None l e = e
  stands (Some k) l e = ap Some (from_tested (A.good (f k.weight) (f limit)) k l e).1

  pub fence_sound : (c : Carrier W) → Sound c → Sound (fence A f limit c)
  fence_sound c s =
      record {
        tails = λ p l e. s.tails p l (stands (c.at p) l e);
        heads = λ p l e i. s.heads p l (stands (c.at p) l e) i;
        none_past = λ p past. ap (fenced A f limit) (s.none_past p past);
        entries = s.entries;
      }
