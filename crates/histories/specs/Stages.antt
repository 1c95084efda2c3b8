-- The stages of a request, and what a call leaves behind.
--   Progress W            what an open or finished request keeps: its bounds, its destination, the length of the
--                         label memory that it was opened with, and its runs, latest first
--   due p                 the destination, if no crossing has settled it yet
--   Stage W               a request is idle, open or finished
--   if_begun s x f        f of the progress of a request that is open or finished, and x if it is idle
--   After W X             the stage and the labels that a call leaves, and its answer
--   refused s m r         the stage and the labels are left as they were, and the call is refused by r
use Rattle.std.specs.Prelude.{ℕ, List, [], ◌∷◌, Some, None, Err, Option, Result}
use Rattle.carriers.specs.declared.refusals.Refusal.{Refusal}
use Rattle.stepping.specs.declared.Label.{Label}
use Rattle.stepping.specs.declared.Run.{Run}

pub record Progress (W : Type 0) : Type 0 where
  pub bounds : W
  pub destination : ℕ
  pub memory : ℕ
  pub runs : List Run

abbrev due_after : ℕ → List Run → Option ℕ
due_after t [] = Some t
due_after t (r ∷ rs) = None

abbrev pub due : {W : Type 0} → Progress W → Option ℕ
due p = due_after p.destination p.runs

pub data Stage (W : Type 0) : Type 0 where
  idle : Stage W
  opened : Progress W → Stage W
  finished : Progress W → Stage W

abbrev pub if_begun : {W X : Type 0} → Stage W → X → (Progress W → X) → X
if_begun idle x f = x
if_begun (opened p) x f = f p
if_begun (finished p) x f = f p

pub record After (W X : Type 0) : Type 0 where
  pub stage : Stage W
  pub labels : List (Label W)
  pub answer : Result X Refusal

abbrev pub refused : {W X : Type 0} → Stage W → List (Label W) → Refusal → After W X
refused s m r = record { stage = s; labels = m; answer = Err r }
