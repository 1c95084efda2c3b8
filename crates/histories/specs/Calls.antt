-- What the calls that move a request do, at a stage s and handed the label memory m.
--   on_open A s b t m      open with the bounds b and the destination t
--   on_cross A s c m       cross the carrier c: labels at its entry nodes are marked; answers how many are settled
--   on_finish A s c v m    finish with the carrier c at the source v: labels at v are marked; answers how many routes
--                          are listed at v, and how many labels are settled
--   on_withdraw A s m      withdraw
--   routes_of n            n routes are listed, or there is no route
--   ending v k run         the answer of a finish at v that settled the run, the first label of which has the key k
use Rattle.std.specs.Prelude.{ℕ, zero, suc, List, [], length, Ok, nat_eq, Some, None, Option}
use Rattle.weights.specs.Algebra.{Algebra}
use Rattle.carriers.specs.Carrier.{Carrier}
use Rattle.carriers.specs.declared.refusals.Refusal.TheVariants as refusals
use Rattle.stepping.specs.declared.Label.{Label}
use Rattle.stepping.specs.Labels.{Labels}
use Rattle.histories.specs.declared.Ending.{Ending}
use Rattle.histories.specs.Runs.{used}
use Rattle.histories.specs.Stages.{Stage, idle, opened, finished, if_begun, After, refused}
use Rattle.histories.specs.Rules.{refusal, unless, open_rules, cross_rules, finish_rules, begun_rules}
use Rattle.histories.specs.Lists.{items}
use Rattle.histories.specs.Crossings.{outcome, blanks, crossed}

abbrev pub routes_of : ℕ → Option ℕ
routes_of zero = None
routes_of (suc n) = Some (suc n)

abbrev pub ending : {W : Type 0} → ℕ → ℕ → List (Label W) → Ending
ending v k run = record { routes = routes_of (length (items v k run)); settled = length run }

abbrev pub on_open : (A : Algebra) → Stage A.Weight → A.Weight → ℕ → Labels A → After A.Weight (Unit {0})
on_open A idle b t m =
    unless
    (refusal (open_rules A b m))
    (refused idle m)
    (record {
      stage = opened (record { bounds = b; destination = t; memory = length m; runs = [] });
      labels = blanks A (length m);
      answer = Ok tt;
    })
on_open A (opened p) b t m = refused (opened p) m refusals.Stage
on_open A (finished p) b t m = refused (finished p) m refusals.Stage

abbrev pub on_cross : (A : Algebra) → Stage A.Weight → Carrier A.Weight → Labels A → After A.Weight ℕ
on_cross A idle c m = refused idle m refusals.Stage
on_cross A (opened p) c m =
    unless
    (refusal (cross_rules p c m))
    (refused (opened p) m)
    (crossed A p m opened length (outcome A p c c.entry m))
on_cross A (finished p) c m = refused (finished p) m refusals.Stage

abbrev pub on_finish : (A : Algebra) → Stage A.Weight → Carrier A.Weight → ℕ → Labels A
    → After A.Weight Ending
on_finish A idle c v m = refused idle m refusals.Stage
on_finish A (opened p) c v m =
    unless
    (refusal (finish_rules p c v m))
    (refused (opened p) m)
    (crossed A p m finished (ending v (used p.runs)) (outcome A p c (λ u. nat_eq u v) m))
on_finish A (finished p) c v m = refused (finished p) m refusals.Stage

abbrev pub on_withdraw : (A : Algebra) → Stage A.Weight → Labels A → After A.Weight (Unit {0})
on_withdraw A s m =
    if_begun s
    (refused s m refusals.Stage)
    (λ p.
    unless
    (refusal (begun_rules p m))
    (refused s m)
    (record { stage = idle; labels = blanks A (length m); answer = Ok tt }))
