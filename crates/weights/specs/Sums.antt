-- Sums up to a ceiling: a join adds and stops at the ceiling, and less is better.
--   top          the ceiling of delays and fees
--   sums cap     the sums whose ceiling is cap; every sum below the ceiling may serve as a bound
use Rattle.std.specs.Prelude.{ℕ, ◌+◌, ◌≤◌, nat_le, nat_lt}
use Rattle.weights.specs.Algebra.{Algebra, Laws}
use Rattle.weights.specs.Capped.{UpTo, cut}

abbrev pub top : ℕ
top = 1_000_000_000

abbrev pub sums : ℕ → Algebra
sums cap =
    record {
      Weight = UpTo cap;
      neutral = cut cap 0;
      join = λ a b. cut cap (a.amount + b.amount);
      good = λ a b. nat_le a.amount b.amount;
      before = λ a b. nat_lt a.amount b.amount;
      bound = λ a. nat_lt a.amount cap;
    }

abbrev pub LawfulAtEveryCeiling : Type 0
LawfulAtEveryCeiling = (cap : ℕ) → 1 ≤ cap → Laws (sums cap)
