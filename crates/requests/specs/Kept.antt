-- What a request keeps, by meaning, and what its type says of it.
--   progress_of f p   the progress by the meaning of its bounds
--   stage_of f s      the stage by meaning
--   sound s           what the type says of a stage: at most 15 runs while open
--   in_use s          how many labels of the memory are in use
--   progress_for s c  what the call c works on, at a stage that it is for
--   begun s c m       the same, where the memory m has as many labels as when the request was opened
--   did f s m r       what a call left and answered: the stage s, the memory m and the answer r, by meaning
use Rattle.std.specs.Prelude.{ℕ, Bool, true, cond, ◌==◌, List, length, Ok, Err, Result, nat_le}
use Rattle.carriers.specs.declared.refusals.Refusal.{Refusal}
use Rattle.carriers.specs.declared.refusals.Refusal.TheVariants as refusals
use Rattle.stepping.specs.declared.Label.{Label}
use Rattle.stepping.specs.Labels.{meanings}
use Rattle.histories.specs.Runs.{used}
use Rattle.histories.specs.Stages as stages
use Rattle.requests.specs.Table.{runs_of}
use Rattle.requests.specs.declared.stages.Progress.{Progress}
use Rattle.requests.specs.declared.stages.Stage.{Stage}
use Rattle.requests.specs.declared.stages.Stage.TheVariants.{Idle, Open, Finished}
use Rattle.requests.specs.declared.stages.Call.{Call}
use Rattle.requests.specs.declared.stages.Call.TheVariants.{Cross, Finish, Withdraw, Ask}

abbrev pub progress_of : {W V : Type 0} → (W → V) → Progress W → stages.Progress V
progress_of f p =
    record { bounds = f p.bounds; destination = p.destination; memory = p.runs.memory; runs = runs_of p.runs }

abbrev pub stage_of : {W V : Type 0} → (W → V) → Stage W → stages.Stage V
stage_of f Idle = stages.idle
stage_of f (Open p) = stages.opened (progress_of f p)
stage_of f (Finished p) = stages.finished (progress_of f p)

abbrev pub sound : {W : Type 0} → Stage W → Bool
sound Idle = true
sound (Open p) = nat_le (length (runs_of p.runs)) 15
sound (Finished p) = true

abbrev pub in_use : {W : Type 0} → Stage W → ℕ
in_use Idle = 0
in_use (Open p) = used (runs_of p.runs)
in_use (Finished p) = used (runs_of p.runs)

abbrev pub progress_for : {W : Type 0} → Stage W → Call → Result (Progress W) Refusal
progress_for Idle c = Err refusals.Stage
progress_for (Open p) c = Ok p
progress_for (Finished p) Cross = Err refusals.Stage
progress_for (Finished p) Finish = Err refusals.Stage
progress_for (Finished p) Withdraw = Ok p
progress_for (Finished p) Ask = Ok p

abbrev within : {W : Type 0} → List (Label W) → Result (Progress W) Refusal → Result (Progress W) Refusal
within m (Ok p) = cond (length m == p.runs.memory) (Ok p) (Err refusals.Memory)
within m (Err e) = Err e

abbrev pub begun : {W : Type 0} → Stage W → Call → List (Label W) → Result (Progress W) Refusal
begun s c m = within m (progress_for s c)

abbrev pub did : {W V X : Type 0} → (W → V) → Stage W → List (Label W) → Result X Refusal → stages.After V X
did f s m r = record { stage = stage_of f s; labels = meanings f m; answer = r }
