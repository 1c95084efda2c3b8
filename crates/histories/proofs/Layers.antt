-- The crossings of a request as layers, the latest first, and what each of them keeps.
use Rattle.std.proofs.Common.{◌≡◌, ℕ, suc, ◌≤◌, Bool, List, [], ◌∷◌, ◌++◌, length, take, drop, Some, None, Option, sym, refl, ap, ◌∙◌, subst, append_assoc, arith, length-append}
use lib.Seq.{take-append_seam, drop-append_seam}
use Rattle.std.specs.List.{slice_get}
use Rattle.weights.specs.Algebra.{Algebra}
use Rattle.carriers.specs.Carrier.{Carrier}
use Rattle.stepping.specs.declared.Label.{Label}
use Rattle.stepping.specs.View.{View}
use Rattle.stepping.specs.Domain.{Ended}
use Rattle.stepping.specs.declared.Run.{Run}
use Rattle.histories.specs.Runs.{latest, used, labels_of}
use Rattle.histories.proofs.Places.{nth_end}

pub record Layer (W : Type 0) : Type 0 where
  pub carrier : Carrier W
  pub marks : ℕ → Bool
  pub run : List (Label W)

-- all labels of the layers, in the order of their keys
abbrev pub flat : {W : Type 0} → List (Layer W) → List (Label W)
flat [] = []
flat (l ∷ ls) = flat ls ++ l.run

abbrev pub span : {W : Type 0} → Layer W → List (Layer W) → Run
span l ls = record { start = length (flat ls); length = length l.run }

abbrev pub spans : {W : Type 0} → List (Layer W) → List Run
spans [] = []
spans (l ∷ ls) = span l ls ∷ spans ls

abbrev pub carriers : {W : Type 0} → List (Layer W) → List (Carrier W)
carriers [] = []
carriers (l ∷ ls) = carriers ls ++ l.carrier ∷ []

abbrev pub top_run : {W : Type 0} → List (Layer W) → List (Label W)
top_run [] = []
top_run (l ∷ ls) = l.run

abbrev pub base : {W : Type 0} → List (Layer W) → ℕ
base [] = 0
base (l ∷ ls) = length (flat ls)

abbrev pub destination_on : {W : Type 0} → ℕ → List (Layer W) → Option ℕ
destination_on t [] = Some t
destination_on t (l ∷ ls) = None

-- what the crossing of a carrier sees, over the layers so far
abbrev pub view_on : (A : Algebra) → A.Weight → ℕ → Carrier A.Weight → (ℕ → Bool)
    → List (Layer A.Weight) → View A
view_on A b t c marks ls =
    record {
      bounds = b;
      places = c.places;
      at = c.at;
      start = length (flat ls);
      before = top_run ls;
      before_start = base ls;
      destination = destination_on t ls;
      marks = marks;
    }

-- one layer over others: its crossing ended, and its carrier is no larger than it may be
pub record Laid (A : Algebra) (b : A.Weight) (t : ℕ) (l : Layer A.Weight) (ls : List (Layer A.Weight)) : Type 0 where
  pub ended : Ended A (view_on A b t l.carrier l.marks ls) l.run
  pub narrow : l.carrier.places ≤ 8192

abbrev pub Stacked : (A : Algebra) → A.Weight → ℕ → List (Layer A.Weight) → Type 0
Stacked A b t [] = Unit {0}
Stacked A b t (l ∷ ls) = Laid A b t l ls × Stacked A b t ls

-- each layer marks its entry nodes
abbrev pub Entries : {W : Type 0} → List (Layer W) → Type 0
Entries [] = Unit {0}
Entries (l ∷ ls) = (l.marks ≡ l.carrier.entry) × Entries ls

-- each layer's carrier stands in the chain at the layer's position
abbrev pub Agrees : {W : Type 0} → List (Carrier W) → List (Layer W) → Type 0
Agrees cs [] = Unit {0}
Agrees cs (l ∷ ls) = (slice_get cs (length ls) ≡ Some l.carrier) × Agrees cs ls

module _ {W : Type 0} where
  pub length_carriers : (ls : List (Layer W)) → length (carriers ls) ≡ length ls
  length_carriers [] = refl
  length_carriers (l ∷ ls) =
      let h = length_carriers ls in
      let a = length-append (carriers ls) (l.carrier ∷ []) in
      omega arith

  pub length_spans : (ls : List (Layer W)) → length (spans ls) ≡ length ls
  length_spans [] = refl
  length_spans (l ∷ ls) = ap suc (length_spans ls)

  pub used_spans : (ls : List (Layer W)) → used (spans ls) ≡ length (flat ls)
  used_spans [] = refl
  used_spans (l ∷ ls) = sym (length-append (flat ls) l.run)

  agrees_more : (ls : List (Layer W)) (more : List (Carrier W)) → Agrees (carriers ls ++ more) ls
  agrees_more [] more = tt
  agrees_more (l ∷ ls) more =
      subst
      (λ cs. Agrees cs (l ∷ ls))
      (sym (append_assoc (carriers ls) (l.carrier ∷ []) more))
      (nth_end (carriers ls) l.carrier more (length ls) (length_carriers ls), agrees_more ls (l.carrier ∷ more))

  pub agrees : (ls : List (Layer W)) (cs : List (Carrier W)) → cs ≡ carriers ls → Agrees cs ls
  agrees [] cs e = tt
  agrees (l ∷ ls) cs e =
      subst
      (λ z. Agrees z (l ∷ ls))
      (sym e)
      (nth_end (carriers ls) l.carrier [] (length ls) (length_carriers ls), agrees_more ls (l.carrier ∷ []))

  -- the labels of the latest run are those of the latest layer
  pub latest_labels : (ls : List (Layer W)) (rest : List (Label W))
      → labels_of (latest (spans ls)) (flat ls ++ rest) ≡ top_run ls
  latest_labels [] rest = refl
  latest_labels (l ∷ ls) rest =
      ap (λ m. take (length l.run) (drop (length (flat ls)) m)) (append_assoc (flat ls) l.run rest)
      ∙ (ap (take (length l.run)) (drop-append_seam (flat ls) (l.run ++ rest))
      ∙ take-append_seam l.run rest)

  pub latest_start : (ls : List (Layer W)) → (latest (spans ls)).start ≡ base ls
  latest_start [] = refl
  latest_start (l ∷ ls) = refl
