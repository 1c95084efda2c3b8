-- The stage after every history is the one that calls and answers tell.
use Rattle.std.proofs.Common.{◌≡◌, ℕ, eqb, ◌∷◌, length, Ok, Err, Result, refl, ap, ◌∙◌}
use Rattle.weights.specs.Algebra.{Algebra, Laws}
use Rattle.carriers.specs.declared.refusals.Refusal.{Refusal}
use Rattle.stepping.specs.Labels.{Labels}
use Rattle.histories.specs.Stages.{Progress, Stage, idle, opened, finished, After, refused}
use Rattle.histories.specs.Rules.{refusal, open_rules, cross_rules, finish_rules, begun_rules}
use Rattle.histories.specs.Runs.{used}
use Rattle.histories.specs.Crossings.{outcome}
use Rattle.histories.specs.Calls.{ending, on_open}
use Rattle.histories.specs.Histories.{Call, to_open, to_cross, to_finish, to_withdraw, Answer, does, Log, History, new, over, own, other, when_open, when_finished, phase_of, phase_told}
use Rattle.histories.specs.Promise.{Staged}
use Rattle.histories.proofs.Turned.{unless_cases, crossed_cases}
use Rattle.histories.proofs.Histories.{same_stage}

module _ (A : Algebra) (log : Log A.Weight) where
  -- what a call leaves is at the stage that its answer tells
  abbrev AsTold : (c : Call A.Weight) → After A.Weight (Answer c) → Type 0
  AsTold c a = phase_of a.stage ≡ phase_told ((c, a.answer) ∷ log)

  own_told : (s : Stage A.Weight) (c : Call A.Weight) (m : Labels A) → phase_of s ≡ phase_told log
      → AsTold c (does A s c m)
  own_told idle (to_open b t) m h =
      unless_cases (AsTold (to_open b t)) (refusal (open_rules A b m)) (refused idle m) _ (λ r. h) (λ none. refl)
  own_told (opened p) (to_open b t) m h = h
  own_told (finished p) (to_open b t) m h = h
  own_told idle (to_cross c) m h = h
  own_told (opened p) (to_cross c) m h =
      unless_cases (AsTold (to_cross c)) (refusal (cross_rules p c m)) (refused (opened p) m) _
      (λ r. h)
      (λ none. crossed_cases A p m opened length (AsTold (to_cross c)) (outcome A p c c.entry m) h (λ run e. h))
  own_told (finished p) (to_cross c) m h = h
  own_told idle (to_finish c v) m h = h
  own_told (opened p) (to_finish c v) m h =
      unless_cases (AsTold (to_finish c v)) (refusal (finish_rules p c v m)) (refused (opened p) m) _
      (λ r. h)
      (λ none.
      crossed_cases A p m finished (ending v (used p.runs)) (AsTold (to_finish c v)) (outcome A p c (λ u. eqb u v) m)
      h
      (λ run e. refl))
  own_told (finished p) (to_finish c v) m h = h
  own_told idle to_withdraw m h = h
  own_told (opened p) to_withdraw m h =
      unless_cases (AsTold to_withdraw) (refusal (begun_rules p m)) (refused (opened p) m) _ (λ r. h) (λ none. refl)
  own_told (finished p) to_withdraw m h =
      unless_cases (AsTold to_withdraw) (refusal (begun_rules p m)) (refused (finished p) m) _ (λ r. h) (λ none. refl)

  over_told : (s : Stage A.Weight) (b : A.Weight) (t : ℕ) (m : Labels A) → (on_open A s b t m).answer ≡ Ok tt
      → phase_of (on_open A s b t m).stage ≡ when_open
  over_told idle b t m e =
      (unless_cases
      (λ a. a.answer ≡ Ok tt → phase_of a.stage ≡ when_open)
      (refusal (open_rules A b m))
      (refused idle m)
      _
      (λ r (q : ◌≡◌ {A = Result (Unit {0}) Refusal} (Err r) (Ok tt)). absurd (cc q))
      (λ none q. refl))
      e
  over_told (opened p) b t m e = absurd (cc e)
  over_told (finished p) b t m e = absurd (cc e)

  refused_told : (c : Call A.Weight) (why : Refusal) → phase_told log ≡ phase_told ((c, Err why) ∷ log)
  refused_told (to_open b t) why = refl
  refused_told (to_cross c) why = refl
  refused_told (to_finish c v) why = refl
  refused_told to_withdraw why = refl

pub staged_theorem : (A : Algebra) → Laws A → Staged A
staged_theorem A laws log r h = staged h
  where
    staged : {log : Log A.Weight} {r : _} → History A log r → phase_of r.stage ≡ phase_told log
    staged new = refl
    staged (over {log} {r} b t m h e) = over_told A log r.stage b t m e
    staged (own {log} {r} c h) = own_told A log r.stage c r.labels (staged h)
    staged (other {log} {r} c m why h e) =
        ap phase_of (same_stage A laws log r.stage c m why e) ∙ (staged h ∙ refused_told A log c why)

-- a stage by its phase
pub is_open : {W : Type 0} (s : Stage W) → phase_of s ≡ when_open → (p : Progress W) × (s ≡ opened p)
is_open idle e = absurd (cc e)
is_open (opened p) e = (p, refl)
is_open (finished p) e = absurd (cc e)

pub is_finished : {W : Type 0} (s : Stage W) → phase_of s ≡ when_finished → (p : Progress W) × (s ≡ finished p)
is_finished idle e = absurd (cc e)
is_finished (opened p) e = absurd (cc e)
is_finished (finished p) e = (p, refl)
