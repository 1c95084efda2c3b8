-- What is answered by a request that is open or finished.
use Rattle.std.proofs.Common.{◌≡◌, ◌==◌, ℕ, Bool, true, false, not, cond, List, [], ◌∷◌, length, Some, None, Ok, Err, Option, Result, refl, sym, ap, ◌∙◌}
use Rattle.std.proofs.lemmas.List.{length-map}
use Rattle.std.specs.Option.{ok_or, option_map}
use Rattle.std.specs.List.{slice_get}
use Rattle.carriers.specs.declared.refusals.Refusal.{Refusal}
use Rattle.carriers.specs.declared.refusals.Refusal.TheVariants as refusals
use Rattle.stepping.specs.declared.Label.{Label}
use Rattle.stepping.specs.Labels.{meant, meanings}
use Rattle.histories.specs.declared.Item.{Item}
use Rattle.histories.specs.Stages as stages
use Rattle.histories.specs.Stages.{if_begun}
use Rattle.histories.specs.Rules.{refusal, unless, begun_rules}
use Rattle.histories.specs.Lists.{listed, on_count, on_item}
use Rattle.requests.specs.declared.stages.Progress.{Progress}
use Rattle.requests.specs.declared.stages.Stage.{Stage}
use Rattle.requests.specs.declared.stages.Stage.TheVariants.{Idle, Open, Finished}
use Rattle.requests.specs.declared.stages.Call.TheVariants.{Ask}
use Rattle.requests.specs.Kept.{progress_of, stage_of, begun}
use Rattle.requests.specs.Listed.{item_meant, answered}

answered_as : {W V : Type 0} (f : W → V) (o : Option (Item W)) → answered f (ok_or o refusals.Key) ≡ ok_or (option_map (item_meant f) o) refusals.Key
answered_as f None = refl
answered_as f (Some i) = refl

module _ {W V : Type 0} (f : W → V) (p : Progress W) (m : List (Label W)) where
  chosen : {X : Type 0} (answer : stages.Progress V → Result X Refusal) (q : Progress W) (b : Bool) → Ok p ≡ cond b (Ok q) (Err refusals.Memory)
      → answer (progress_of f p) ≡ unless (refusal ((not b, refusals.Memory) ∷ [])) Err (answer (progress_of f q))
  chosen answer q true e = let same : q ≡ p = cc e in ap (λ z. answer (progress_of f z)) (sym same)
  chosen answer q false e = absurd (cc e)

  own : {X : Type 0} (answer : stages.Progress V → Result X Refusal) (q : Progress W) → Ok p ≡ cond (length m == q.runs.memory) (Ok q) (Err refusals.Memory)
      → answer (progress_of f p) ≡ unless (refusal (begun_rules (progress_of f q) (meanings f m))) Err (answer (progress_of f q))
  own answer q e =
      chosen answer q (length m == q.runs.memory) e
      ∙ ap (λ n. unless (refusal ((not (n == q.runs.memory), refusals.Memory) ∷ [])) Err (answer (progress_of f q))) (sym (length-map m (meant f)))

  asked : {X : Type 0} (answer : stages.Progress V → Result X Refusal) (s : Stage W) → Ok p ≡ begun s Ask m
      → answer (progress_of f p) ≡ if_begun (stage_of f s) (Err refusals.Stage) (λ q. unless (refusal (begun_rules q (meanings f m))) Err (answer q))
  asked answer Idle e = absurd (cc e)
  asked answer (Open q) e = own answer q e
  asked answer (Finished q) e = own answer q e

  module _ (s : Stage W) (at : Ok p ≡ begun s Ask m) where
    pub counts : (v n : ℕ) → n ≡ length (listed (progress_of f p) v (meanings f m)) → Ok n ≡ on_count (stage_of f s) v (meanings f m)
    counts v n e = ap Ok e ∙ asked (λ q. Ok (length (listed q v (meanings f m)))) s at

    pub shows : (v k : ℕ) (o : Option (Item W)) → option_map (item_meant f) o ≡ slice_get (listed (progress_of f p) v (meanings f m)) k
        → answered f (ok_or o refusals.Key) ≡ on_item (stage_of f s) v k (meanings f m)
    shows v k o e =
        answered_as f o
        ∙ ap (λ x. ok_or x refusals.Key) e
        ∙ asked (λ q. ok_or (slice_get (listed q v (meanings f m)) k) refusals.Key) s at
