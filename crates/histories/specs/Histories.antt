-- Histories: what has been asked of a request and answered since it was made, latest first.
--   Call W, does A s c m   a call that may move a request, and what it does; the questions count, item and expand
--                          change nothing
--   Log W                  calls with their answers, latest first
--   State W                a request's stage, with the labels that it works on
--   History A log r        the calls and answers of log can lead to r
--   last_open log          the bounds and the destination of the last accepted open
--   chain log              the carriers of the crossings accepted since, in order
--   last_finish log        the source of the last accepted finish, with its answer
--   Phase, phase_of s      whether a request is idle, open or finished
--   phase_told log         the same from calls and answers: idle at first; an accepted open, finish or withdraw makes it
--                          open, finished or idle, and nothing else does
use Rattle.std.specs.Prelude.{◌≡◌, ℕ, List, [], ◌∷◌, ◌++◌, Some, None, Ok, Err, Option, Result}
use Rattle.weights.specs.Algebra.{Algebra}
use Rattle.carriers.specs.Carrier.{Carrier}
use Rattle.carriers.specs.declared.refusals.Refusal.{Refusal}
use Rattle.stepping.specs.declared.Label.{Label}
use Rattle.stepping.specs.Labels.{Labels}
use Rattle.histories.specs.declared.Ending.{Ending}
use Rattle.histories.specs.Stages.{Stage, idle, opened, finished, After}
use Rattle.histories.specs.Calls.{on_open, on_cross, on_finish, on_withdraw}

pub data Call (W : Type 0) : Type 0 where
  to_open : W → ℕ → Call W
  to_cross : Carrier W → Call W
  to_finish : Carrier W → ℕ → Call W
  to_withdraw : Call W

-- What a call answers if it is accepted.
abbrev pub Answer : {W : Type 0} → Call W → Type 0
Answer (to_open b t) = Unit {0}
Answer (to_cross c) = ℕ
Answer (to_finish c v) = Ending
Answer to_withdraw = Unit {0}

abbrev pub does : (A : Algebra) → Stage A.Weight → (c : Call A.Weight) → Labels A
    → After A.Weight (Answer c)
does A s (to_open b t) m = on_open A s b t m
does A s (to_cross c) m = on_cross A s c m
does A s (to_finish c v) m = on_finish A s c v m
does A s to_withdraw m = on_withdraw A s m

abbrev pub Log : Type 0 → Type 0
Log W = List ((c : Call W) × Result (Answer c) Refusal)

pub record State (W : Type 0) : Type 0 where
  pub stage : Stage W
  pub labels : List (Label W)

abbrev pub left : {W X : Type 0} → After W X → State W
left a = record { stage = a.stage; labels = a.labels }

pub data History (A : Algebra) : Log A.Weight → State A.Weight → Type 0 where
  new : History A [] (record { stage = idle; labels = [] })
  -- an accepted open, over any memory, which from then on holds the request's labels
  over : {log : Log A.Weight} {r : State A.Weight} (b : A.Weight) (t : ℕ) (m : Labels A)
      → History A log r
      → (on_open A r.stage b t m).answer ≡ Ok tt
      → History A ((to_open b t, Ok tt) ∷ log) (left (on_open A r.stage b t m))
  -- any call, handed the request's own labels
  own : {log : Log A.Weight} {r : State A.Weight} (c : Call A.Weight)
      → History A log r
      → History A ((c, (does A r.stage c r.labels).answer) ∷ log) (left (does A r.stage c r.labels))
  -- a refused call, handed any other memory
  other : {log : Log A.Weight} {r : State A.Weight} (c : Call A.Weight) (m : Labels A) (why : Refusal)
      → History A log r
      → (does A r.stage c m).answer ≡ Err why
      → History A ((c, Err why) ∷ log) (record { stage = (does A r.stage c m).stage; labels = r.labels })

abbrev pub last_open : {W : Type 0} → Log W → Option (W × ℕ)
last_open [] = None
last_open ((to_open b t, Ok u) ∷ log) = Some (b, t)
last_open ((to_open b t, Err r) ∷ log) = last_open log
last_open ((to_cross c, a) ∷ log) = last_open log
last_open ((to_finish c v, a) ∷ log) = last_open log
last_open ((to_withdraw, a) ∷ log) = last_open log

abbrev pub chain : {W : Type 0} → Log W → List (Carrier W)
chain [] = []
chain ((to_open b t, Ok u) ∷ log) = []
chain ((to_open b t, Err r) ∷ log) = chain log
chain ((to_cross c, Ok n) ∷ log) = chain log ++ c ∷ []
chain ((to_cross c, Err r) ∷ log) = chain log
chain ((to_finish c v, Ok e) ∷ log) = chain log ++ c ∷ []
chain ((to_finish c v, Err r) ∷ log) = chain log
chain ((to_withdraw, a) ∷ log) = chain log

abbrev pub last_finish : {W : Type 0} → Log W → Option (ℕ × Ending)
last_finish [] = None
last_finish ((to_open b t, a) ∷ log) = last_finish log
last_finish ((to_cross c, a) ∷ log) = last_finish log
last_finish ((to_finish c v, Ok e) ∷ log) = Some (v, e)
last_finish ((to_finish c v, Err r) ∷ log) = last_finish log
last_finish ((to_withdraw, a) ∷ log) = last_finish log

pub data Phase : Type 0 where
  when_idle : Phase
  when_open : Phase
  when_finished : Phase

abbrev pub phase_of : {W : Type 0} → Stage W → Phase
phase_of idle = when_idle
phase_of (opened p) = when_open
phase_of (finished p) = when_finished

abbrev pub phase_told : {W : Type 0} → Log W → Phase
phase_told [] = when_idle
phase_told ((to_open b t, Ok u) ∷ log) = when_open
phase_told ((to_open b t, Err r) ∷ log) = phase_told log
phase_told ((to_cross c, a) ∷ log) = phase_told log
phase_told ((to_finish c v, Ok e) ∷ log) = when_finished
phase_told ((to_finish c v, Err r) ∷ log) = phase_told log
phase_told ((to_withdraw, Ok u) ∷ log) = when_idle
phase_told ((to_withdraw, Err r) ∷ log) = phase_told log
