-- What a crossing sees of what it is told, of the map and of the memory.
--   marks_of m e v           whether a label at the node v is marked, where e tells the entries
--   view A f s c before      the view of a crossing told s, over the carrier c and the labels of the run before
--   before_labels b n m      the labels of the run before, as far as they are among the first n labels of the memory m
use Rattle.std.specs.Prelude.{ℕ, Bool, List, [], take, drop, Some, None, Option, ◌==◌}
use Rattle.std.specs.Option.{option_map}
use Rattle.weights.specs.Algebra.{Algebra}
use Rattle.carriers.specs.Carrier.{Carrier, link_meant}
use Rattle.stepping.specs.declared.Label.{Label}
use Rattle.stepping.specs.Labels.{meanings}
use Rattle.stepping.specs.View.{View}
use Rattle.crossing.specs.declared.scopes.Before.{Before}
use Rattle.crossing.specs.declared.scopes.Before.TheVariants.{Destination, Run}
use Rattle.crossing.specs.declared.scopes.Marks.{Marks}
use Rattle.crossing.specs.declared.scopes.Marks.TheVariants.{Entries, Only}
use Rattle.crossing.specs.declared.scopes.Scope.{Scope}

abbrev pub marks_of : Marks → (ℕ → Bool) → ℕ → Bool
marks_of Entries e v = e v
marks_of (Only n) e v = v == n

abbrev pub start_of : Before → ℕ
start_of (Destination d) = 0
start_of (Run r) = r.start

abbrev pub destination_of : Before → Option ℕ
destination_of (Destination d) = Some d
destination_of (Run r) = None

abbrev pub before_labels : {W : Type 0} → Before → ℕ → List (Label W) → List (Label W)
before_labels (Destination d) n m = []
before_labels (Run r) n m = take r.length (drop r.start (take n m))

abbrev pub view : {W : Type 0} (A : Algebra) → (W → A.Weight) → Scope W → Carrier W → List (Label W) → View A
view A f s c before =
    record {
      bounds = f s.bounds;
      places = c.places;
      at = λ p. option_map (link_meant f) (c.at p);
      start = s.used;
      before = meanings f before;
      before_start = start_of s.before;
      destination = destination_of s.before;
      marks = marks_of s.marks c.entry;
    }
