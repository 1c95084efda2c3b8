-- What stands of a request is kept by each call, and so stands after every history.
use Rattle.std.proofs.Common.{◌≡◌, ℕ, ◌∷◌, Ok, Err, sym, ap, ◌∙◌, subst}
use Rattle.weights.specs.Algebra.{Algebra, Laws}
use Rattle.carriers.specs.declared.refusals.Refusal.{Refusal}
use Rattle.carriers.specs.declared.refusals.Refusal.TheVariants as refusals
use Rattle.stepping.specs.Labels.{Labels}
use Rattle.histories.specs.Stages.{Stage, idle, opened, finished, refused}
use Rattle.histories.specs.Rules.{refusal, open_rules, cross_rules, finish_rules, begun_rules}
use Rattle.histories.specs.Calls.{on_open}
use Rattle.histories.specs.Histories.{Call, to_open, to_cross, to_finish, to_withdraw, does, Log, State, left, History, new, over, own, other, chain}
use Rattle.histories.proofs.Turned.{unless_cases, cross_places, finish_places, as_was, blanked, turned}
use Rattle.histories.proofs.Standing.{told, Open, Stands}
use Rattle.histories.proofs.Grown.{cleared_same}
use Rattle.histories.proofs.Kept.{Still, kept, opened_anew, crossed_kept, finished_kept}

module _ (A : Algebra) (laws : Laws A) (log : Log A.Weight) where
  abbrev Now : Stage A.Weight → Labels A → Type 0
  Now s m = Stands A (told log) s m

  -- any call that is handed the request's own labels
  own_kept : (s : Stage A.Weight) (c : Call A.Weight) (m : Labels A) → Now s m
      → Still A laws log c (does A s c m)
  own_kept idle (to_open b t) m h =
      unless_cases (Still A laws log (to_open b t)) (refusal (open_rules A b m)) (refused idle m) _
      (λ r. tt)
      (λ none. opened_anew A laws log b t m)
  own_kept (opened p) (to_open b t) m h = kept A laws log (to_open b t) refusals.Stage (opened p) m h
  own_kept (finished p) (to_open b t) m h = kept A laws log (to_open b t) refusals.Stage (finished p) m h
  own_kept idle (to_cross c) m h = tt
  own_kept (opened p) (to_cross c) m h =
      unless_cases (Still A laws log (to_cross c)) (refusal (cross_rules p c m)) (refused (opened p) m) _
      (λ r. kept A laws log (to_cross c) r (opened p) m h)
      (λ none. crossed_kept A laws log p m h c (cross_places c p m none))
  own_kept (finished p) (to_cross c) m h = kept A laws log (to_cross c) refusals.Stage (finished p) m h
  own_kept idle (to_finish c v) m h = tt
  own_kept (opened p) (to_finish c v) m h =
      unless_cases (Still A laws log (to_finish c v)) (refusal (finish_rules p c v m)) (refused (opened p) m) _
      (λ r. kept A laws log (to_finish c v) r (opened p) m h)
      (λ none. finished_kept A laws log p m h c v (finish_places c p v m none))
  own_kept (finished p) (to_finish c v) m h = kept A laws log (to_finish c v) refusals.Stage (finished p) m h
  own_kept idle to_withdraw m h = tt
  own_kept (opened p) to_withdraw m h =
      unless_cases (Still A laws log to_withdraw) (refusal (begun_rules p m)) (refused (opened p) m) _
      (λ r. kept A laws log to_withdraw r (opened p) m h)
      (λ none. tt)
  own_kept (finished p) to_withdraw m h =
      unless_cases (Still A laws log to_withdraw) (refusal (begun_rules p m)) (refused (finished p) m) _
      (λ r. kept A laws log to_withdraw r (finished p) m h)
      (λ none. tt)

  -- an accepted open, over any memory
  over_kept : (s : Stage A.Weight) (b : A.Weight) (t : ℕ) (m : Labels A) → (on_open A s b t m).answer ≡ Ok tt
      → Stands A (told ((to_open b t, Ok tt) ∷ log)) (on_open A s b t m).stage (on_open A s b t m).labels
  over_kept idle b t m e =
      (unless_cases
      (λ a. a.answer ≡ Ok tt → Stands A (told ((to_open b t, Ok tt) ∷ log)) a.stage a.labels)
      (refusal (open_rules A b m))
      (refused idle m)
      _
      (λ r q. tt)
      (λ none q. opened_anew A laws log b t m))
      e
  over_kept (opened p) b t m e = absurd (cc e)
  over_kept (finished p) b t m e = absurd (cc e)

  -- a refused call leaves the stage, whatever it is handed; and its own labels
  pub same_stage : (s : Stage A.Weight) (c : Call A.Weight) (m : Labels A) (r : Refusal)
      → (does A s c m).answer ≡ Err r → (does A s c m).stage ≡ s
  same_stage s c m r e =
      elim (turned A s c m r e) [
        | as_was q ↦ ap (λ a. a.stage) (sym q)
        | blanked p o q ↦ ap (λ a. a.stage) (sym q)
      ]

  pub same_state : (s : Stage A.Weight) (c : Call A.Weight) (m : Labels A) (r : Refusal) → Now s m
      → (does A s c m).answer ≡ Err r → left (does A s c m) ≡ record { stage = s; labels = m }
  same_state s c m r h e =
      elim (turned A s c m r e) [
        | as_was q ↦ ap left (sym q)
        | blanked p o q ↦
            let it : Open A (told log) p m = subst (λ z. Now z m) (sym o) h in
            ap left (sym q)
            ∙ ap
            (λ z. record { stage = s; labels = z })
            (cleared_same A laws (chain log) p m it.layers it.built)
      ]

pub stands : (A : Algebra) (laws : Laws A) {log : Log A.Weight} {r : State A.Weight} → History A log r
    → Stands A (told log) r.stage r.labels
stands A laws new = tt
stands A laws (over {log} {r} b t m h e) = over_kept A laws log r.stage b t m e
stands A laws (own {log} {r} c h) = own_kept A laws log r.stage c r.labels (stands A laws h)
stands A laws (other {log} {r} c m why h e) =
    subst
    (λ s. Stands A (told ((c, Err why) ∷ log)) s r.labels)
    (sym (same_stage A laws log r.stage c m why e))
    (kept A laws log c why r.stage r.labels (stands A laws h))
