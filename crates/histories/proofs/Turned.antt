-- What a call may lead to: the cases of a call's rules and of a crossing's outcome, and what a refused call leaves.
use Rattle.std.proofs.Common.{◌≡◌, ℕ, ◌≤◌, Bool, true, false, cond, eqb, ltb, List, length, Some, None, Ok, Err, Option, sym, refl, ap}
use Rattle.std.proofs.lemmas.Bool.{or_parts, ltb-false}
use Rattle.weights.specs.Algebra.{Algebra}
use Rattle.carriers.specs.Carrier.{Carrier}
use Rattle.carriers.specs.declared.refusals.Refusal.{Refusal}
use Rattle.carriers.specs.declared.refusals.Refusal.TheVariants as refusals
use Rattle.stepping.specs.declared.Label.{Label}
use Rattle.stepping.specs.Labels.{Labels}
use Rattle.stepping.specs.Crossing.{Outcome, done, full}
use Rattle.stepping.proofs.Places.{none_some}
use Rattle.histories.specs.Runs.{used}
use Rattle.histories.specs.Stages.{Progress, Stage, idle, opened, finished, After, refused}
use Rattle.histories.specs.Rules.{refusal, unless, memory_rule, size_rule, open_rules, cross_rules, finish_rules, begun_rules}
use Rattle.histories.specs.Crossings.{outcome, with_run, written, cleared, crossed}
use Rattle.histories.specs.Histories.{Call, to_open, to_cross, to_finish, to_withdraw, does}

pub unless_cases : {X : Type 0} (P : X → Type 0) (o : Option Refusal) (refuse : Refusal → X) (accept : X)
    → ((r : Refusal) → P (refuse r)) → (o ≡ None → P accept) → P (unless o refuse accept)
unless_cases P (Some r) refuse accept f g = f r
unless_cases P None refuse accept f g = g refl

-- a rule that does not hold
passed : (b : Bool) (r : Refusal) (o : Option Refusal) → cond b (Some r) o ≡ None → (b ≡ false) × (o ≡ None)
passed true r o e = none_some r (sym e)
passed false r o e = (refl, e)

module _ {W : Type 0} (c : Carrier W) where
  places_within : (o : Option Refusal) → cond (size_rule c).0 (Some refusals.Size) o ≡ None → c.places ≤ 8192
  places_within o e =
      let first = or_parts (eqb c.nodes 0) _ (passed (size_rule c).0 refusals.Size o e).0 in
      ltb-false 8192 c.places (or_parts (ltb 1024 c.nodes) (ltb 8192 c.places) first.1).1

  pub cross_places : (p : Progress W) (m : List (Label W)) → refusal (cross_rules p c m) ≡ None → c.places ≤ 8192
  cross_places p m e = places_within _ (passed (memory_rule p m).0 refusals.Memory _ e).1

  pub finish_places : (p : Progress W) (v : ℕ) (m : List (Label W)) → refusal (finish_rules p c v m) ≡ None → c.places ≤ 8192
  finish_places p v m e = places_within _ (passed (memory_rule p m).0 refusals.Memory _ e).1

module _ (A : Algebra) where
  -- the run ended, or the labels that are not in use are blank
  pub crossed_cases : {X : Type 0} (p : Progress A.Weight) (m : Labels A)
      (stage : Progress A.Weight → Stage A.Weight) (answer : Labels A → X)
      (P : After A.Weight X → Type 0) (o : Outcome A.Weight)
      → P (refused (opened p) (cleared A (used p.runs) m) refusals.Full)
      → ((run : Labels A) → o ≡ done run
      → P (record {
        stage = stage (with_run p (length run));
        labels = written (used p.runs) m run;
        answer = Ok (answer run);
      }))
      → P (crossed A p m stage answer o)
  crossed_cases p m stage answer P (done run) f g = g run refl
  crossed_cases p m stage answer P full f g = f

  -- a is what a call leaves that was refused by r
  pub data Turned {X : Type 0} (s : Stage A.Weight) (m : Labels A) (r : Refusal) (a : After A.Weight X) : Type 0 where
    as_was : refused s m r ≡ a → Turned s m r a
    blanked : (p : Progress A.Weight) → opened p ≡ s → refused s (cleared A (used p.runs) m) r ≡ a
        → Turned s m r a

  abbrev IfRefused : {X : Type 0} → Stage A.Weight → Labels A → Refusal → After A.Weight X → Type 0
  IfRefused s m r a = a.answer ≡ Err r → Turned s m r a

  turned_back : {X : Type 0} (s : Stage A.Weight) (m : Labels A) (r q : Refusal)
      → IfRefused {X = X} s m r (refused s m q)
  turned_back s m r q e = as_was (ap (refused s m) (cc e))

  turned_crossing : {X : Type 0} (p : Progress A.Weight) (m : Labels A) (r : Refusal) (o : Option Refusal)
      (stage : Progress A.Weight → Stage A.Weight) (answer : Labels A → X) (out : Outcome A.Weight)
      → IfRefused (opened p) m r (unless o (refused (opened p) m) (crossed A p m stage answer out))
  turned_crossing p m r o stage answer out =
      let If = IfRefused (opened p) m r in
      unless_cases If o (refused (opened p) m) (crossed A p m stage answer out)
      (turned_back (opened p) m r)
      (λ none.
      crossed_cases p m stage answer If out
      (λ e. blanked p refl (ap (refused (opened p) (cleared A (used p.runs) m)) (cc e)))
      (λ run q e. absurd (cc e)))

  turned_withdraw : (p : Progress A.Weight) (s : Stage A.Weight) (m : Labels A) (r : Refusal)
      (a : After A.Weight (Unit {0})) → a.answer ≡ Ok tt
      → IfRefused s m r (unless (refusal (begun_rules p m)) (refused s m) a)
  turned_withdraw p s m r a ok =
      unless_cases (IfRefused s m r) (refusal (begun_rules p m)) (refused s m) a
      (turned_back s m r)
      (λ none e. absurd (cc (ok, e)))

  pub turned : (s : Stage A.Weight) (c : Call A.Weight) (m : Labels A) (r : Refusal)
      → IfRefused s m r (does A s c m)
  turned idle (to_open b t) m r =
      unless_cases (IfRefused idle m r) (refusal (open_rules A b m)) (refused idle m) _
      (turned_back idle m r)
      (λ none e. absurd (cc e))
  turned (opened p) (to_open b t) m r = turned_back (opened p) m r refusals.Stage
  turned (finished p) (to_open b t) m r = turned_back (finished p) m r refusals.Stage
  turned idle (to_cross c) m r = turned_back idle m r refusals.Stage
  turned (opened p) (to_cross c) m r =
      turned_crossing p m r (refusal (cross_rules p c m)) opened length (outcome A p c c.entry m)
  turned (finished p) (to_cross c) m r = turned_back (finished p) m r refusals.Stage
  turned idle (to_finish c v) m r = turned_back idle m r refusals.Stage
  turned (opened p) (to_finish c v) m r =
      turned_crossing p m r (refusal (finish_rules p c v m)) finished _ (outcome A p c (λ u. eqb u v) m)
  turned (finished p) (to_finish c v) m r = turned_back (finished p) m r refusals.Stage
  turned idle to_withdraw m r = turned_back idle m r refusals.Stage
  turned (opened p) to_withdraw m r = turned_withdraw p (opened p) m r _ refl
  turned (finished p) to_withdraw m r = turned_withdraw p (finished p) m r _ refl
