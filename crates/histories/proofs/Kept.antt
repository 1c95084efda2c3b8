-- What stands of a request stands after a refused call, an accepted open and each crossing.
use Rattle.std.proofs.Common.{◌≡◌, ℕ, ◌≤◌, eqb, [], ◌∷◌, length, Some, Ok, Err, sym, refl, ap, subst}
use Rattle.weights.specs.Algebra.{Algebra, Laws}
use Rattle.carriers.specs.Carrier.{Carrier}
use Rattle.carriers.specs.declared.refusals.Refusal.{Refusal}
use Rattle.carriers.specs.declared.refusals.Refusal.TheVariants as refusals
use Rattle.stepping.specs.Labels.{Labels}
use Rattle.histories.specs.Runs.{used}
use Rattle.histories.specs.Stages.{Progress, Stage, opened, finished, After, refused}
use Rattle.histories.specs.Crossings.{outcome, blanks, cleared, crossed}
use Rattle.histories.specs.Calls.{ending}
use Rattle.histories.specs.Histories.{Call, to_open, to_cross, to_finish, to_withdraw, Answer, Log, chain}
use Rattle.histories.proofs.Turned.{crossed_cases}
use Rattle.histories.proofs.Standing.{told, Open, Stands, fresh}
use Rattle.histories.proofs.Grown.{used_is, cleared_same, grown}

told_refused : {W : Type 0} (c : Call W) (r : Refusal) (log : Log W) → told ((c, Err r) ∷ log) ≡ told log
told_refused (to_open b t) r log = refl
told_refused (to_cross c) r log = refl
told_refused (to_finish c v) r log = refl
told_refused to_withdraw r log = refl

module _ (A : Algebra) (laws : Laws A) (log : Log A.Weight) where
  pub kept : (c : Call A.Weight) (r : Refusal) (s : Stage A.Weight) (m : Labels A)
      → Stands A (told log) s m → Stands A (told ((c, Err r) ∷ log)) s m
  kept c r s m h = subst (λ t. Stands A t s m) (sym (told_refused c r log)) h

  -- what is to show of a call c that leaves a
  abbrev pub Still : (c : Call A.Weight) → After A.Weight (Answer c) → Type 0
  Still c a = Stands A (told ((c, a.answer) ∷ log)) a.stage a.labels

  pub opened_anew : (b : A.Weight) (t : ℕ) (m : Labels A)
      → Still (to_open b t) (record {
        stage = opened (record { bounds = b; destination = t; memory = length m; runs = [] });
        labels = blanks A (length m);
        answer = Ok tt;
      })
  opened_anew b t m = record { layers = []; open_was = refl; built = fresh A b t (length m); entries = tt }

  full_kept : (p : Progress A.Weight) (m : Labels A) → Open A (told log) p m → (c : Call A.Weight)
      → Still c (refused (opened p) (cleared A (used p.runs) m) refusals.Full)
  full_kept p m h c =
      kept c refusals.Full (opened p) (cleared A (used p.runs) m)
      (subst (Open A (told log) p) (sym (cleared_same A laws (chain log) p m h.layers h.built)) h)

  pub crossed_kept : (p : Progress A.Weight) (m : Labels A) → Open A (told log) p m → (c : Carrier A.Weight)
      → c.places ≤ 8192
      → Still (to_cross c) (crossed A p m opened length (outcome A p c c.entry m))
  crossed_kept p m h c n =
      crossed_cases A p m opened length (Still (to_cross c)) (outcome A p c c.entry m)
      (full_kept p m h (to_cross c))
      (λ run e.
      record {
        layers = record { carrier = c; marks = c.entry; run = run } ∷ h.layers;
        open_was = h.open_was;
        built = grown A laws (chain log) p m h.layers h.built c c.entry run e n;
        entries = (refl, h.entries);
      })

  pub finished_kept : (p : Progress A.Weight) (m : Labels A) → Open A (told log) p m → (c : Carrier A.Weight) (v : ℕ)
      → c.places ≤ 8192
      → Still (to_finish c v) (crossed A p m finished (ending v (used p.runs)) (outcome A p c (λ u. eqb u v) m))
  finished_kept p m h c v n =
      crossed_cases A p m finished (ending v (used p.runs)) (Still (to_finish c v)) (outcome A p c (λ u. eqb u v) m)
      (full_kept p m h (to_finish c v))
      (λ run e.
      record {
        top = record { carrier = c; marks = λ u. eqb u v; run = run };
        layers = h.layers;
        source = v;
        open_was = h.open_was;
        finish_was = ap (λ z. Some (v, ending v z run)) (used_is A laws (chain log) p m h.layers h.built);
        built = grown A laws (chain log) p m h.layers h.built c (λ u. eqb u v) run e n;
        entries = h.entries;
        marks_are = λ u. refl;
      })
