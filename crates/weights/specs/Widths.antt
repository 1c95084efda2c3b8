-- Widths up to a cap: a join keeps the lesser, more is better, and every width may serve as a bound.
--   all          the largest 32-bit number, which restricts nothing
use Rattle.std.specs.Prelude.{ℕ, min, true, nat_le, nat_lt}
use Rattle.weights.specs.Algebra.{Algebra}
use Rattle.weights.specs.Capped.{UpTo, cut}

abbrev pub all : ℕ
all = 4_294_967_295

abbrev pub widths : ℕ → Algebra
widths cap =
    record {
      Weight = UpTo cap;
      neutral = cut cap cap;
      join = λ a b. cut cap (min a.amount b.amount);
      good = λ a b. nat_le b.amount a.amount;
      before = λ a b. nat_lt b.amount a.amount;
      bound = λ a. true;
    }
