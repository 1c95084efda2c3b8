-- What a crossing answers, and what it leaves in the memory.
--   outcome A f s c m       the run of the crossing told s over the carrier c and the memory m
--   unfit s c m             why nothing is settled at all: more labels in use than there are, or too many places
--   answer_of u o           the number settled, or the refusal
--   memory_of A n ls u o    the memory ls after it: the run stands from the label n on, or every label from n on is blank
use Rattle.std.specs.Prelude.{ℕ, ◌-◌, cond, List, length, Some, None, Ok, Err, Option, Result, nat_lt}
use Rattle.weights.specs.Algebra.{Algebra}
use Rattle.carriers.specs.declared.refusals.Refusal.{Refusal}
use Rattle.carriers.specs.declared.refusals.Refusal.TheVariants.{Memory, Size, Full}
use Rattle.carriers.specs.Carrier.{Carrier}
use Rattle.stepping.specs.declared.Label.{Label}
use Rattle.stepping.specs.Labels.{Labels}
use Rattle.stepping.specs.Memory.{written, cleared}
use Rattle.stepping.specs.Crossing.{Outcome, done, full, crossing}
use Rattle.crossing.specs.declared.scopes.Scope.{Scope}
use Rattle.crossing.specs.Scopes.{view, before_labels}

abbrev pub outcome : {W : Type 0} (A : Algebra) → (W → A.Weight) → Scope W → Carrier W → List (Label W) → Outcome A.Weight
outcome A f s c m = crossing A (view A f s c (before_labels s.before s.used m)) (length m - s.used)

abbrev pub unfit : {W V : Type 0} → Scope W → Carrier V → List (Label W) → Option Refusal
unfit s c m = cond (nat_lt (length m) s.used) (Some Memory) (cond (nat_lt 8192 c.places) (Some Size) None)

abbrev pub answer_of : {V : Type 0} → Option Refusal → Outcome V → Result ℕ Refusal
answer_of (Some e) o = Err e
answer_of None (done run) = Ok (length run)
answer_of None full = Err Full

abbrev pub memory_of : (A : Algebra) → ℕ → Labels A → Option Refusal → Outcome A.Weight → Labels A
memory_of A n ls (Some e) o = ls
memory_of A n ls None (done run) = written n ls run
memory_of A n ls None full = cleared A n ls
