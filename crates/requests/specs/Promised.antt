-- What is promised of a request and its labels after every history of calls, by the meaning of weights.
--   KeptStage           the stage is the one that calls and answers tell
--   KeptWhenFinished   of every history that ends finished: the whole promise
--   KeptWhenOpen       of every history that ends open: the same of each entry node of the last carrier crossed
--   KeptWhenRefused    a refused call, handed the request's own labels, leaves the request and its labels as they were
use Rattle.std.specs.Prelude.{◌≡◌, ℕ, suc, T, List, length, Some, Err}
use Rattle.std.specs.List.{slice_get}
use Rattle.weights.specs.Algebra.{Algebra}
use Rattle.carriers.specs.Carrier.{Carrier}
use Rattle.carriers.specs.declared.refusals.Refusal.{Refusal}
use Rattle.stepping.specs.declared.Label.{Label}
use Rattle.histories.specs.Histories.{Call, Log, chain, when_open, when_finished, phase_of, phase_told}
use Rattle.histories.specs.Promise.{Promise, SoFar}
use Rattle.requests.specs.declared.stages.Stage.{Stage}
use Rattle.requests.specs.Kept.{stage_of}
use Rattle.requests.specs.Called.{Called, Ran, seen}

module _ (A : Algebra) {W : Type 0} (f : W → A.Weight) where
  abbrev pub KeptStage : Type 0
  KeptStage =
      (log : Log A.Weight) (s : Stage W) (m : List (Label W))
      → Ran A f log s m
      → phase_of (stage_of f s) ≡ phase_told log

  abbrev pub KeptWhenFinished : Type 0
  KeptWhenFinished =
      (log : Log A.Weight) (s : Stage W) (m : List (Label W))
      → Ran A f log s m
      → phase_told log ≡ when_finished
      → Promise A log (seen f s m)

  abbrev pub KeptWhenOpen : Type 0
  KeptWhenOpen =
      (log : Log A.Weight) (s : Stage W) (m : List (Label W))
      → Ran A f log s m
      → phase_told log ≡ when_open
      → (i : ℕ) (c : Carrier A.Weight) (v : ℕ)
      → length (chain log) ≡ suc i
      → slice_get (chain log) i ≡ Some c
      → T (c.entry v)
      → SoFar A log (seen f s m) v

  abbrev pub KeptWhenRefused : Type 0
  KeptWhenRefused =
      (log : Log A.Weight) (s t : Stage W) (m n : List (Label W)) (c : Call A.Weight) (why : Refusal)
      → Ran A f log s m
      → Called A f c s m (Err why) t n
      → seen f t n ≡ seen f s m
