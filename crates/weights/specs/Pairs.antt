-- Pairs of weights: join, as good and the bound test go part by part; before compares the first parts,
-- and the second parts where neither first part is before the other.
use Rattle.std.specs.Prelude.{Bool, true, false, cond, ◌&&◌}
use Rattle.weights.specs.Algebra.{Algebra}

pub record Both (F S : Type 0) : Type 0 where
  pub first : F
  pub second : S

abbrev pub pair_before : (F S : Algebra) → Both F.Weight S.Weight → Both F.Weight S.Weight → Bool
pair_before F S x y =
    cond
    (F.before x.first y.first)
    true
    (cond (F.before y.first x.first) false (S.before x.second y.second))

abbrev pub pairs : Algebra → Algebra → Algebra
pairs F S =
    record {
      Weight = Both F.Weight S.Weight;
      neutral = record { first = F.neutral; second = S.neutral };
      join = λ x y. record { first = F.join x.first y.first; second = S.join x.second y.second };
      good = λ x y. F.good x.first y.first && S.good x.second y.second;
      before = pair_before F S;
      bound = λ x. F.bound x.first && S.bound x.second;
    }
