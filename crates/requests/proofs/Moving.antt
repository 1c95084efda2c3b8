-- What a call makes of its crossing.
use Rattle.std.proofs.Common.{◌≡◌, ◌==◌, ℕ, Bool, true, false, cond, zero, suc, ◌+◌, ◌≤◌, eqb, ltb, List, ◌++◌, length, take, drop, Some, None, Option, Ok, Err, Result, refl, sym, ap, ◌∙◌, arith}
use Rattle.std.specs.Bool.{then_some}
use Rattle.std.proofs.lemmas.List.{length-map, length-take-le, take_at, drop_at}
use Rattle.std.proofs.lemmas.Bool.{lt-ltb}
use Rattle.weights.specs.Algebra.{Algebra}
use Rattle.carriers.specs.declared.refusals.Refusal.{Refusal}
use Rattle.carriers.specs.declared.refusals.Refusal.TheVariants as refusals
use Rattle.carriers.specs.Carrier.{Carrier}
use Rattle.carriers.specs.Rules.{judged}
use Rattle.stepping.specs.declared.Label.{Label}
use Rattle.stepping.specs.Labels.{Labels, meant, meanings}
use Rattle.stepping.specs.Crossing.{Outcome, done, full}
use Rattle.histories.specs.declared.Ending.{Ending}
use Rattle.histories.specs.Runs.{used}
use Rattle.histories.specs.Stages.{Progress, After, opened, finished, refused}
use Rattle.histories.specs.Stages as stages
use Rattle.histories.specs.Rules.{refusal, unless, cross_rules, finish_rules}
use Rattle.histories.specs.Lists.{items, listed}
use Rattle.histories.specs.Crossings.{with_run, written, outcome, crossed}
use Rattle.histories.specs.Calls.{routes_of, ending, on_cross, on_finish}
use Rattle.requests.specs.declared.stages.Progress as requests
use Rattle.requests.specs.declared.stages.Stage.{Stage}
use Rattle.requests.specs.declared.stages.Stage.TheVariants.{Idle, Open, Finished}
use Rattle.requests.specs.declared.stages.Call.TheVariants.{Cross, Finish}
use Rattle.requests.specs.Kept.{progress_of, stage_of, begun, did}
use Rattle.requests.proofs.Allowed.{Allowed}

-- the run that was written is read again
run_read : {X : Type 0} (n : ℕ) (m run : List X) → n ≤ length m → take (length run) (drop n (written n m run)) ≡ run
run_read n m run l =
    ap (take (length run)) (drop_at (take n m) (run ++ drop (n + length run) m) n (length-take-le n m l))
    ∙ take_at run (drop (n + length run) m) (length run) refl

pub routes_are : (n : ℕ) → then_some (ltb 0 n) n ≡ routes_of n
routes_are zero = refl
routes_are (suc n) = ap (λ b. then_some b (suc n)) (lt-ltb 0 (suc n) (omega arith))

pub accepted : (o : Option Refusal) → Allowed o → None ≡ o
accepted None h = refl
accepted (Some r) h = absurd (cc h)

broken : (o : Option Refusal) (e : Refusal) → ◌≡◌ {A = Result (Unit {0}) Refusal} (Err e) (judged o tt) → Some e ≡ o
broken None e h = absurd (cc h)
broken (Some r) e h = cc h

module _ {W : Type 0} (A : Algebra) (f : W → A.Weight) (p : requests.Progress W) (m : List (Label W)) where
  abbrev P : Progress A.Weight
  P = progress_of f p

  abbrev M : Labels A
  M = meanings f m

  same : (q : requests.Progress W) (b : Bool) → Ok p ≡ cond b (Ok q) (Err refusals.Memory) → q ≡ p
  same q true e = cc e
  same q false e = absurd (cc e)

  -- a cross and a finish are for an open request
  open_to_cross : (s : Stage W) → Ok p ≡ begun s Cross m → s ≡ Open p
  open_to_cross Idle e = absurd (cc e)
  open_to_cross (Open q) e = ap Open (same q (length m == q.runs.memory) e)
  open_to_cross (Finished q) e = absurd (cc e)

  open_to_finish : (s : Stage W) → Ok p ≡ begun s Finish m → s ≡ Open p
  open_to_finish Idle e = absurd (cc e)
  open_to_finish (Open q) e = ap Open (same q (length m == q.runs.memory) e)
  open_to_finish (Finished q) e = absurd (cc e)

  -- one that no rule refuses settles a run
  pub crosses : (C : Carrier A.Weight) (s : Stage W) → Ok p ≡ begun s Cross m → Allowed (refusal (cross_rules P C M))
      → crossed A P M opened length (outcome A P C C.entry M) ≡ on_cross A (stage_of f s) C M
  crosses C s e j =
      ap (λ o. unless o (refused (opened P) M) (crossed A P M opened length (outcome A P C C.entry M))) (accepted _ j)
      ∙ ap (λ z. on_cross A (stage_of f z) C M) (sym (open_to_cross s e))

  pub finishes : (C : Carrier A.Weight) (v : ℕ) (s : Stage W) → Ok p ≡ begun s Finish m → Allowed (refusal (finish_rules P C v M))
      → crossed A P M finished (ending v (used P.runs)) (outcome A P C (λ u. eqb u v) M) ≡ on_finish A (stage_of f s) C v M
  finishes C v s e j =
      ap (λ o. unless o (refused (opened P) M) (crossed A P M finished (ending v (used P.runs)) (outcome A P C (λ u. eqb u v) M))) (accepted _ j)
      ∙ ap (λ z. on_finish A (stage_of f z) C v M) (sym (open_to_finish s e))

  -- one that a rule refuses leaves all as it was
  module _ (e : Refusal) (s : Stage W) (C : Carrier A.Weight) where
    pub cross_refused : (r : Result ℕ Refusal) → r ≡ Err e → Ok p ≡ begun s Cross m → ◌≡◌ {A = Result (Unit {0}) Refusal} (Err e) (judged (refusal (cross_rules P C M)) tt)
        → did f s m r ≡ on_cross A (stage_of f s) C M
    cross_refused r is k j =
        cc (ap (λ z. did f z m r) (open_to_cross s k), is)
        ∙ ap (λ o. unless o (refused (opened P) M) (crossed A P M opened length (outcome A P C C.entry M))) (broken _ e j)
        ∙ ap (λ z. on_cross A (stage_of f z) C M) (sym (open_to_cross s k))

    pub finish_refused : (v : ℕ) (r : Result Ending Refusal) → r ≡ Err e → Ok p ≡ begun s Finish m → ◌≡◌ {A = Result (Unit {0}) Refusal} (Err e) (judged (refusal (finish_rules P C v M)) tt)
        → did f s m r ≡ on_finish A (stage_of f s) C v M
    finish_refused v r is k j =
        cc (ap (λ z. did f z m r) (open_to_finish s k), is)
        ∙ ap (λ o. unless o (refused (opened P) M) (crossed A P M finished (ending v (used P.runs)) (outcome A P C (λ u. eqb u v) M))) (broken _ e j)
        ∙ ap (λ z. on_finish A (stage_of f z) C v M) (sym (open_to_finish s k))

  -- where memory is full, the call leaves and answers the same whatever it would have made of the run
  full_same : {X : Type 0} (stage : Progress A.Weight → stages.Stage A.Weight) (answer : Labels A → X) (o : Outcome A.Weight) (Q : Progress A.Weight) (L : Labels A) (e : Refusal)
      → record { stage = opened Q; labels = L; answer = Err e } ≡ crossed A P M opened length o
      → record { stage = opened P; labels = L; answer = Err e } ≡ crossed A P M stage answer o
  full_same stage answer (done run) Q L e h = absurd (cc (ap (λ x. x.answer) h))
  full_same stage answer full Q L e h = cc (ap (λ x. x.labels) h, ap (λ x. x.answer) h)

  module _ (q : requests.Progress W) (l : List (Label W)) (e : Refusal) (s : Stage W) where
    pub cross_stops : (r : Result ℕ Refusal) (C : Carrier A.Weight) → r ≡ Err e → Ok p ≡ begun s Cross m → Allowed (refusal (cross_rules P C M))
        → did f (Open q) l (Err e) ≡ crossed A P M opened length (outcome A P C C.entry M)
        → did f s l r ≡ on_cross A (stage_of f s) C M
    cross_stops r C is k j h =
        cc (ap (λ z. did f z l r) (open_to_cross s k), full_same opened length _ (progress_of f q) (meanings f l) e h, crosses C s k j)

    pub finish_stops : (r : Result Ending Refusal) (C : Carrier A.Weight) (v : ℕ) → r ≡ Err e → Ok p ≡ begun s Finish m → Allowed (refusal (finish_rules P C v M))
        → did f (Open q) l (Err e) ≡ crossed A P M opened length (outcome A P C (λ u. eqb u v) M)
        → did f s l r ≡ on_finish A (stage_of f s) C v M
    finish_stops r C v is k j h =
        cc (ap (λ z. did f z l r) (open_to_finish s k), full_same finished (ending v (used P.runs)) _ (progress_of f q) (meanings f l) e h, finishes C v s k j)

  -- a finish counts what is listed in the run that it has written
  module _ (v : ℕ) where
    abbrev over : Progress A.Weight → Labels A → ℕ → After A.Weight Ending
    over q l n = record { stage = finished q; labels = l; answer = Ok (record { routes = routes_of (length (listed q v l)); settled = n }) }

    finish_same : (Q : Progress A.Weight) (L : Labels A) (n : ℕ) (o : Outcome A.Weight) → used P.runs ≤ length M
        → record { stage = opened Q; labels = L; answer = Ok n } ≡ crossed A P M opened length o
        → over Q L n ≡ crossed A P M finished (ending v (used P.runs)) o
    finish_same Q L n full w h = absurd (cc (ap (λ x. x.answer) h))
    finish_same Q L n (done run) w h =
        let u = used P.runs in
        let q : Q ≡ with_run P (length run) = cc (ap (λ x. x.stage) h) in
        let k : n ≡ length run = cc (ap (λ x. x.answer) h) in
        ap (λ x. over x L n) q
        ∙ ap (λ x. over (with_run P (length run)) x n) (ap (λ x. x.labels) h)
        ∙ ap (λ x. over (with_run P (length run)) (written u M run) x) k
        ∙ ap (λ x. record { stage = finished (with_run P (length run)); labels = written u M run; answer = Ok (record { routes = routes_of (length (items v u x)); settled = length run }) }) (run_read u M run w)

    pub finish_ends : (C : Carrier A.Weight) (s : Stage W) (q : requests.Progress W) (l : List (Label W)) (n k : ℕ) (r : Option ℕ)
        → Ok p ≡ begun s Finish m → Allowed (refusal (finish_rules P C v M)) → length m ≡ p.runs.memory
        → did f (Open q) l (Ok n) ≡ crossed A P M opened length (outcome A P C (λ u. eqb u v) M)
        → k ≡ length (listed (progress_of f q) v (meanings f l)) → r ≡ then_some (ltb 0 k) k
        → did f (Finished q) l (Ok (record { routes = r; settled = n })) ≡ on_finish A (stage_of f s) C v M
    finish_ends C s q l n k r e j long h many are =
        ap (λ x. did f (Finished q) l (Ok (record { routes = x; settled = n }))) (are ∙ routes_are k ∙ ap routes_of many)
        ∙ finish_same (progress_of f q) (meanings f l) n _ (omega (arith, p.runs.within, length-map m (meant f))) h
        ∙ finishes C v s e j
