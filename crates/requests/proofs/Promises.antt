-- A history of calls is, by meaning, a history of what the calls do.
use Rattle.std.proofs.Common.{List, [], ◌∷◌, Ok, Err, sym, ap, ◌∙◌, subst}
use Rattle.weights.specs.Algebra.{Algebra, Laws}
use Rattle.stepping.specs.declared.Label.{Label}
use Rattle.stepping.specs.Labels.{meanings}
use Rattle.histories.specs.Histories as histories
use Rattle.histories.specs.Histories.{Call, to_open, does, Log, left, History}
use Rattle.histories.proofs.Phases.{staged_theorem}
use Rattle.histories.proofs.Promise.{finished_as_told, underway_as_told, unchanged_theorem}
use Rattle.requests.specs.declared.stages.Stage.{Stage}
use Rattle.requests.specs.Called.{Ran, new, over, own, other, seen}
use Rattle.requests.specs.Promised.{KeptStage, KeptWhenFinished, KeptWhenOpen, KeptWhenRefused}

module _ (A : Algebra) {W : Type 0} (f : W → A.Weight) where
  history : {log : Log A.Weight} {s : Stage W} {m : List (Label W)} → Ran A f log s m → History A log (seen f s m)
  history (new e) = subst (λ z. History A [] (record { stage = z; labels = [] })) (sym e) histories.new
  history (over {log} {s} l b d h e) =
      subst
      (λ x. History A ((to_open b d, Ok tt) ∷ log) (left x))
      (sym e)
      (histories.over b d (meanings f l) (history h) (sym (ap (λ x. x.answer) e)))
  history (own {log} {s} {t} {m} c a h e) =
      subst (λ x. History A ((c, x.answer) ∷ log) (left x)) (sym e) (histories.own c (history h))
  history (other {log} {s} {t} {m} l n c why h e) =
      subst
      (λ z. History A ((c, Err why) ∷ log) (record { stage = z; labels = meanings f m }))
      (sym (ap (λ x. x.stage) e))
      (histories.other c (meanings f l) why (history h) (sym (ap (λ x. x.answer) e)))

  module _ (laws : Laws A) where
    pub kept_stage : KeptStage A f
    kept_stage log s m h = staged_theorem A laws log (seen f s m) (history h)

    pub kept_when_finished : KeptWhenFinished A f
    kept_when_finished log s m h = finished_as_told A laws log (seen f s m) (history h)

    pub kept_when_open : KeptWhenOpen A f
    kept_when_open log s m h = underway_as_told A laws log (seen f s m) (history h)

    pub kept_when_refused : KeptWhenRefused A f
    kept_when_refused log s t m n c why h e =
        ap left e ∙ unchanged_theorem A laws log (seen f s m) c why (history h) (sym (ap (λ x. x.answer) e))
