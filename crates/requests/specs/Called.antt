-- Calls of a request as they are made, and histories of them.
--   Called A f c s m a t n   the call c was made on a request at the stage s and handed the labels m; it answered a, and
--                            left the stage t and the labels n. By the meaning of weights it does what `does` says of c
--   Ran A f log s m          a request made new is at the stage s and has the labels m, after the calls and answers of log,
--                            latest first: its labels are those of its last accepted open, every accepted call was
--                            handed them, a refused one them or any others, and nothing else wrote to either
--   seen f s m               the request and its labels by meaning
use Rattle.std.specs.Prelude.{◌≡◌, ℕ, List, [], ◌∷◌, Ok, Err, Result}
use Rattle.weights.specs.Algebra.{Algebra}
use Rattle.carriers.specs.declared.refusals.Refusal.{Refusal}
use Rattle.stepping.specs.declared.Label.{Label}
use Rattle.stepping.specs.Labels.{meanings}
use Rattle.histories.specs.Stages.{idle}
use Rattle.histories.specs.Histories.{Call, to_open, Answer, does, Log, State}
use Rattle.requests.specs.declared.stages.Stage.{Stage}
use Rattle.requests.specs.Kept.{stage_of, did}

abbrev pub Called : (A : Algebra) {W : Type 0} → (W → A.Weight) → (c : Call A.Weight) → Stage W → List (Label W)
    → Result (Answer c) Refusal → Stage W → List (Label W) → Type 0
Called A f c s m a t n = did f t n a ≡ does A (stage_of f s) c (meanings f m)

pub data Ran (A : Algebra) {W : Type 0} (f : W → A.Weight) : Log A.Weight → Stage W → List (Label W) → Type 0 where
  new : {s : Stage W} → stage_of f s ≡ idle → Ran A f [] s []
  -- an accepted open, over any memory, which from then on holds the request's labels
  over : {log : Log A.Weight} {s t : Stage W} {m n : List (Label W)} (l : List (Label W)) (b : A.Weight) (d : ℕ)
      → Ran A f log s m
      → Called A f (to_open b d) s l (Ok tt) t n
      → Ran A f ((to_open b d, Ok tt) ∷ log) t n
  -- any call, handed the request's own labels
  own : {log : Log A.Weight} {s t : Stage W} {m n : List (Label W)} (c : Call A.Weight)
      (a : Result (Answer c) Refusal)
      → Ran A f log s m
      → Called A f c s m a t n
      → Ran A f ((c, a) ∷ log) t n
  -- a refused call, handed any other memory
  other : {log : Log A.Weight} {s t : Stage W} {m : List (Label W)} (l n : List (Label W)) (c : Call A.Weight)
      (why : Refusal)
      → Ran A f log s m
      → Called A f c s l (Err why) t n
      → Ran A f ((c, Err why) ∷ log) t m

abbrev pub seen : {W V : Type 0} → (W → V) → Stage W → List (Label W) → State V
seen f s m = record { stage = stage_of f s; labels = meanings f m }
