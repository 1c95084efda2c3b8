-- What stands of a request after each history: its memory has the runs of its layers, and blank labels after them.
use Rattle.std.proofs.Common.{◌≡◌, ℕ, eqb, List, [], ◌∷◌, ◌++◌, length, Some, Option, sym, refl, ap}
use lib.ListN.{length-replicate}
use Rattle.weights.specs.Algebra.{Algebra}
use Rattle.carriers.specs.Carrier.{Carrier}
use Rattle.stepping.specs.Labels.{Labels, blank}
use Rattle.histories.specs.declared.Ending.{Ending}
use Rattle.histories.specs.Stages.{Progress, Stage, idle, opened, finished}
use Rattle.histories.specs.Crossings.{blanks}
use Rattle.histories.specs.Calls.{ending}
use Rattle.histories.specs.Histories.{Log, last_open, chain, last_finish}
use Rattle.histories.proofs.Layers.{Layer, flat, spans, carriers, Stacked, Entries}

-- what a log says
pub record Told (W : Type 0) : Type 0 where
  pub opening : Option (W × ℕ)
  pub carriers : List (Carrier W)
  pub ending : Option (ℕ × Ending)

abbrev pub told : {W : Type 0} → Log W → Told W
told log = record { opening = last_open log; carriers = chain log; ending = last_finish log }

pub record Built
    (A : Algebra) (cs : List (Carrier A.Weight)) (p : Progress A.Weight) (m : Labels A)
    (ls : List (Layer A.Weight))
    : Type 0 where
  pub rest : Labels A
  pub rest_is : rest ≡ blanks A (length rest)
  pub chain_is : cs ≡ carriers ls
  pub runs_are : p.runs ≡ spans ls
  pub memory_is : m ≡ flat ls ++ rest
  pub length_is : length m ≡ p.memory
  pub stacked : Stacked A p.bounds p.destination ls

pub record Open (A : Algebra) (told : Told A.Weight) (p : Progress A.Weight) (m : Labels A) : Type 0 where
  pub layers : List (Layer A.Weight)
  pub open_was : told.opening ≡ Some (p.bounds, p.destination)
  pub built : Built A told.carriers p m layers
  pub entries : Entries layers

pub record Closed (A : Algebra) (told : Told A.Weight) (p : Progress A.Weight) (m : Labels A) : Type 0 where
  pub top : Layer A.Weight
  pub layers : List (Layer A.Weight)
  pub source : ℕ
  pub open_was : told.opening ≡ Some (p.bounds, p.destination)
  pub finish_was : told.ending ≡ Some (source, ending source (length (flat layers)) top.run)
  pub built : Built A told.carriers p m (top ∷ layers)
  pub entries : Entries layers
  pub marks_are : (v : ℕ) → top.marks v ≡ eqb v source

abbrev pub Stands : (A : Algebra) → Told A.Weight → Stage A.Weight → Labels A → Type 0
Stands A told idle m = Unit {0}
Stands A told (opened p) m = Open A told p m
Stands A told (finished p) m = Closed A told p m

pub fresh : (A : Algebra) (b : A.Weight) (t n : ℕ)
    → Built A [] (record { bounds = b; destination = t; memory = n; runs = [] }) (blanks A n) []
fresh A b t n =
    let l = length-replicate n (blank A.neutral) in
    record {
      rest = blanks A n;
      rest_is = ap (blanks A) (sym l);
      chain_is = refl;
      runs_are = refl;
      memory_is = refl;
      length_is = l;
      stacked = tt;
    }
