-- The theorems on how a crossing depends on the number of free labels.
--   Roomed A V run n    with n free labels the run is the same if it fits, and else the crossing is full
--   enough V            a number of free labels with which a crossing of V ends
use Rattle.std.specs.Prelude.{◌≡◌, ℕ, ◌+◌, ◌^◌, ◌<◌, ◌≤◌, length}
use Rattle.weights.specs.Algebra.{Algebra}
use Rattle.stepping.specs.Labels.{Labels}
use Rattle.stepping.specs.View.{View}
use Rattle.stepping.specs.Crossing.{done, full, crossing}

pub record Roomed (A : Algebra) (V : View A) (run : Labels A) (n : ℕ) : Type 0 where
  pub same : length run ≤ n → crossing A V n ≡ done run
  pub over : n < length run → crossing A V n ≡ full

-- Of each run that ended, whatever the number of free labels was.
abbrev pub Room : Algebra → Type 0
Room A =
    (V : View A) (m : ℕ) (run : Labels A)
    → crossing A V m ≡ done run
    → (length run ≤ m) × ((n : ℕ) → Roomed A V run n)

abbrev pub enough : {A : Algebra} → View A → ℕ
enough V = (V.places + length V.before + 2) ^ (V.places + 2)

-- For each view there is a run that ended.
abbrev pub Ends : Algebra → Type 0
Ends A =
    (V : View A) (n : ℕ)
    → enough V ≤ n
    → (run : Labels A) × (crossing A V n ≡ done run)
