-- Sets of colours, each colour a bit of a number: a join is the union, a subset is as good,
-- the smaller number stands before, and every set may serve as a bound.
use Rattle.std.specs.Prelude.{ℕ, true, ◌==◌, bit_and, ltb}
use Rattle.std.specs.Int.Bits.{bit_or}
use Rattle.weights.specs.Algebra.{Algebra}

abbrev pub colour_sets : Algebra
colour_sets =
    record {
      Weight = ℕ;
      neutral = 0;
      join = bit_or;
      good = λ a b. (bit_and a b == a);
      before = ltb;
      bound = λ a. true;
    }
