-- A crossing sees what it is told by a request.
use Rattle.std.proofs.Common.{◌≡◌, ℕ, ◌+◌, ◌-◌, ◌≤◌, List, [], ◌∷◌, map, length, take, drop, None, Ok, Err, Result, sym, ap, ◌∙◌, arith}
use Rattle.std.proofs.lemmas.List.{length-map, drop-take, take-take, take-map, drop-map}
use Rattle.std.proofs.lemmas.Bool.{le-ltb, cond-false}
use Rattle.weights.specs.Algebra.{Algebra}
use Rattle.carriers.specs.Carrier.{Carrier, meant as carrier_meant}
use Rattle.carriers.specs.declared.refusals.Refusal.{Refusal}
use Rattle.stepping.specs.declared.Label.{Label}
use Rattle.stepping.specs.Labels.{meant, meanings}
use Rattle.stepping.specs.Crossing.{crossing}
use Rattle.crossing.specs.declared.scopes.Marks.{Marks}
use Rattle.crossing.specs.declared.scopes.Scope.{Scope}
use Rattle.crossing.specs.Scopes.{marks_of}
use Rattle.crossing.specs.Crossed as told
use Rattle.stepping.specs.declared.Run.{Run}
use Rattle.histories.specs.Runs.{used, labels_of}
use Rattle.histories.specs.Stages.{Progress, opened}
use Rattle.histories.specs.Crossings.{view, outcome, with_run, crossed}
use Rattle.requests.specs.declared.stages.Progress as requests
use Rattle.requests.specs.Table.{runs_of}
use Rattle.requests.specs.declared.stages.Stage.TheVariants.{Open}
use Rattle.requests.specs.Kept.{progress_of, did}
use Rattle.requests.specs.Scoped.{before_of, scope_of}
use Rattle.requests.proofs.Settled.{Told, stopped, ended, run_within}

pub labels_map : {X Y : Type 0} (f : X → Y) (r : Run) (m : List X) → labels_of r (map f m) ≡ map f (labels_of r m)
labels_map f r m = ap (take r.length) (drop-map f r.start m) ∙ take-map f r.length (drop r.start m)

-- the labels of a run, among those in use
labels_before : {X Y : Type 0} (f : X → Y) (r : Run) (m : List X)
    → labels_of r (map f m) ≡ map f (take r.length (drop r.start (take (r.start + r.length) m)))
labels_before f r m =
    labels_map f r m
    ∙ ap (map f) (sym (ap (take r.length) (drop-take r.start r.length m) ∙ take-take r.length r.length (drop r.start m) (omega arith)))

module _ {W : Type 0} (A : Algebra) (f : W → A.Weight) (b : W) (t memory : ℕ) (marks : Marks) (c : Carrier W) (m : List (Label W)) where
  abbrev progress : List Run → Progress A.Weight
  progress rs = record { bounds = f b; destination = t; memory = memory; runs = rs }

  abbrev scope : List Run → Scope W
  scope rs = record { bounds = b; used = used rs; before = before_of t rs; marks = marks }

  pub same_outcome : (rs : List Run)
      → outcome A (record { bounds = f b; destination = t; memory = memory; runs = rs }) (carrier_meant f c) (marks_of marks c.entry) (meanings f m)
      ≡ told.outcome A f (record { bounds = b; used = used rs; before = before_of t rs; marks = marks }) c m
  same_outcome [] =
      ap (λ n. crossing A (view A (progress []) (carrier_meant f c) (marks_of marks c.entry) (meanings f m)) (n - 0)) (length-map m (meant f))
  same_outcome (r ∷ rs) =
      ap (λ n. crossing A (view A (progress (r ∷ rs)) (carrier_meant f c) (marks_of marks c.entry) (meanings f m)) (n - used (r ∷ rs))) (length-map m (meant f))
      ∙ ap (λ before. crossing A (record { bounds = f b; places = c.places; at = (carrier_meant f c).at; start = used (r ∷ rs); before = before; before_start = r.start; destination = None; marks = marks_of marks c.entry }) (length m - used (r ∷ rs))) (labels_before (meant f) r m)

-- what is told of the crossing with the scope s, where s is the request's
module _ {W : Type 0} (A : Algebra) (f : W → A.Weight) (p : requests.Progress W) (marks : Marks) (c : Carrier W) (m : List (Label W)) where
  module _ (s : Scope W) (is : s ≡ scope_of p marks) (long : length m ≡ p.runs.memory) (few : c.places ≤ 8192) where
    in_use : s.used ≡ used (runs_of p.runs)
    in_use = ap (λ t. t.used) is

    fit : told.unfit s c m ≡ None
    fit =
        cond-false _ _ _ (le-ltb (length m) s.used (omega (arith, in_use, p.runs.within)))
        ∙ cond-false _ _ _ (le-ltb 8192 c.places few)

    same : told.outcome A f s c m ≡ outcome A (progress_of f p) (carrier_meant f c) (marks_of marks c.entry) (meanings f m)
    same = ap (λ t. told.outcome A f t c m) is ∙ sym (same_outcome A f p.bounds p.destination p.runs.memory marks c m (runs_of p.runs))

    module _ (r : Result ℕ Refusal) (l : List (Label W)) (a : r ≡ told.answer_of (told.unfit s c m) (told.outcome A f s c m)) (b : meanings f l ≡ told.memory_of A s.used (meanings f m) (told.unfit s c m) (told.outcome A f s c m)) where
      seen : Told A (progress_of f p) (meanings f m) r (meanings f l) (outcome A (progress_of f p) (carrier_meant f c) (marks_of marks c.entry) (meanings f m))
      seen =
          record {
            answer = a ∙ ap (λ u. told.answer_of u (told.outcome A f s c m)) fit ∙ ap (told.answer_of None) same;
            labels = b
                ∙ ap (λ u. told.memory_of A s.used (meanings f m) u (told.outcome A f s c m)) fit
                ∙ ap (told.memory_of A s.used (meanings f m) None) same
                ∙ ap (λ n. told.memory_of A n (meanings f m) None (outcome A (progress_of f p) (carrier_meant f c) (marks_of marks c.entry) (meanings f m))) in_use;
          }

      pub stops : (e : Refusal) → r ≡ Err e
          → did f (Open p) l r ≡ crossed A (progress_of f p) (meanings f m) opened length (outcome A (progress_of f p) (carrier_meant f c) (marks_of marks c.entry) (meanings f m))
      stops e is_e = stopped A (progress_of f p) (meanings f m) (meanings f l) r e _ is_e seen

      pub ends : (q : requests.Progress W) (n : ℕ) → r ≡ Ok n → progress_of f q ≡ with_run (progress_of f p) n
          → did f (Open q) l r ≡ crossed A (progress_of f p) (meanings f m) opened length (outcome A (progress_of f p) (carrier_meant f c) (marks_of marks c.entry) (meanings f m))
      ends q n is_n more = ended A (progress_of f p) (meanings f m) (meanings f l) r (progress_of f q) n _ is_n seen more

      pub fits : (n : ℕ) → r ≡ Ok n → length l ≡ length m → used (runs_of p.runs) + n ≤ p.runs.memory
      fits n is_n same_long =
          omega (arith, run_within A (progress_of f p) (meanings f m) (meanings f l) r n _ is_n seen (omega (arith, p.runs.within, length-map m (meant f))) (length-map l (meant f) ∙ same_long ∙ sym (length-map m (meant f))), length-map m (meant f))
