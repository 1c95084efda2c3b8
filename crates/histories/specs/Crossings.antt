-- A crossing of a request, over the label memory that it is handed.
--   view A p c marks m            what the crossing of the carrier c sees, where labels at the nodes of marks are marked
--   outcome A p c marks m         the run of that crossing, in the labels that are not in use
--   with_run p n                  the progress with a run of n labels more
--   crossed A p m stage answer o  what is left and answered where the outcome is o: if the run ended, stage of the
--                                 progress and answer of the run, with the run written after the labels in use; and
--                                 if memory is full, every label that is not in use blank, and the rest as it was
use Rattle.std.specs.Prelude.{ℕ, ◌-◌, Bool, ◌∷◌, length, Ok}
use Rattle.weights.specs.Algebra.{Algebra}
use Rattle.carriers.specs.Carrier.{Carrier}
use Rattle.carriers.specs.declared.refusals.Refusal.TheVariants as refusals
use Rattle.stepping.specs.Labels.{Labels}
pub use Rattle.stepping.specs.Memory.{written, blanks, cleared}
use Rattle.stepping.specs.View.{View}
use Rattle.stepping.specs.Crossing.{Outcome, done, full, crossing}
use Rattle.histories.specs.Runs.{latest, used, labels_of}
use Rattle.histories.specs.Stages.{Progress, due, Stage, opened, After, refused}

abbrev pub view : (A : Algebra) → Progress A.Weight → Carrier A.Weight → (ℕ → Bool) → Labels A → View A
view A p c marks m =
    record {
      bounds = p.bounds;
      places = c.places;
      at = c.at;
      start = used p.runs;
      before = labels_of (latest p.runs) m;
      before_start = (latest p.runs).start;
      destination = due p;
      marks = marks;
    }

abbrev pub outcome : (A : Algebra) → Progress A.Weight → Carrier A.Weight → (ℕ → Bool) → Labels A
    → Outcome A.Weight
outcome A p c marks m = crossing A (view A p c marks m) (length m - used p.runs)

abbrev pub with_run : {W : Type 0} → Progress W → ℕ → Progress W
with_run p n =
    record {
      bounds = p.bounds;
      destination = p.destination;
      memory = p.memory;
      runs = record { start = used p.runs; length = n } ∷ p.runs;
    }

abbrev pub crossed : (A : Algebra) {X : Type 0} → Progress A.Weight → Labels A
    → (Progress A.Weight → Stage A.Weight) → (Labels A → X) → Outcome A.Weight → After A.Weight X
crossed A p m stage answer (done run) =
    record {
      stage = stage (with_run p (length run));
      labels = written (used p.runs) m run;
      answer = Ok (answer run);
    }
crossed A p m stage answer full = refused (opened p) (cleared A (used p.runs) m) refusals.Full
