-- The label memory after a run is written, and after it is cleared.
--   written n m run   the memory m with the run from the key n on
--   blanks A n        n blank labels
--   cleared A n m     the memory m with blank labels from the key n on
use Rattle.std.specs.Prelude.{ℕ, ◌+◌, ◌-◌, List, ◌++◌, length, take, drop, replicate}
use Rattle.weights.specs.Algebra.{Algebra}
use Rattle.stepping.specs.Labels.{Labels, blank}

abbrev pub written : {X : Type 0} → ℕ → List X → List X → List X
written n m run = take n m ++ (run ++ drop (n + length run) m)

abbrev pub blanks : (A : Algebra) → ℕ → Labels A
blanks A n = replicate n (blank A.neutral)

abbrev pub cleared : (A : Algebra) → ℕ → Labels A → Labels A
cleared A n m = take n m ++ blanks A (length m - n)
