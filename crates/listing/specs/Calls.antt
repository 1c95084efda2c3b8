-- The calls that list the routes of a chain, one after the other until one is refused.
--   plain f reads b            the carrier of the book b, by meaning
--   behind A f reads limit b   the carrier of the book b, by meaning, behind a fence at the limit
--   go_on a next               next, at the stage and with the labels that the call a left, unless a was refused
--   travel A g v b bs s m      of the books b and bs, a cross for each but the last, which is finished at the node v; g
--                              gives the carrier of a book
--   along A g v bs s m         the same of the books bs; a chain has one or more
--   calls A g b c s m          open within the bounds b, and then along the books of c to its source
use Rattle.std.specs.Prelude.{ℕ, List, [], ◌∷◌, Ok, Err, Result}
use Rattle.weights.specs.Algebra.{Algebra}
use Rattle.carriers.specs.Carrier.{Carrier, meant}
use Rattle.carriers.specs.Fences.{fence}
use Rattle.carriers.specs.declared.refusals.Refusal.{Refusal}
use Rattle.carriers.specs.declared.refusals.Refusal.TheVariants as refusals
use Rattle.stepping.specs.declared.Label.{Label}
use Rattle.stepping.specs.Labels.{Labels}
use Rattle.histories.specs.declared.Ending.{Ending}
use Rattle.histories.specs.Stages.{Stage, After, refused}
use Rattle.histories.specs.Calls.{on_open, on_cross, on_finish}
use Rattle.books.specs.BookCarrier.{book_carrier}
use Rattle.books.specs.ChainLayout.{Contents}

abbrev pub plain : {W V : Type 0} → (W → V) → (List ℕ → W) → List ℕ → Carrier V
plain f reads b = meant f (meant reads (book_carrier b))

abbrev pub behind : {W : Type 0} (A : Algebra) → (W → A.Weight) → (List ℕ → W) → W → List ℕ → Carrier A.Weight
behind A f reads limit b = meant f (fence A f limit (meant reads (book_carrier b)))

abbrev pub unless_refused : {V X Y : Type 0} → Result X Refusal → Stage V → List (Label V) → After V Y → After V Y
unless_refused (Ok x) s m next = next
unless_refused (Err r) s m next = refused s m r

abbrev pub go_on : {V X Y : Type 0} → After V X → (Stage V → List (Label V) → After V Y) → After V Y
go_on a next = unless_refused a.answer a.stage a.labels (next a.stage a.labels)

abbrev pub travel : (A : Algebra) → (List ℕ → Carrier A.Weight) → ℕ → List ℕ → List (List ℕ)
    → Stage A.Weight → Labels A → After A.Weight Ending
travel A g v b [] s m = on_finish A s (g b) v m
travel A g v b (d ∷ ds) s m = go_on (on_cross A s (g b) m) (λ s m. travel A g v d ds s m)

abbrev pub along : (A : Algebra) → (List ℕ → Carrier A.Weight) → ℕ → List (List ℕ)
    → Stage A.Weight → Labels A → After A.Weight Ending
along A g v [] s m = refused s m refusals.Chain
along A g v (b ∷ bs) s m = travel A g v b bs s m

abbrev pub calls : (A : Algebra) → (List ℕ → Carrier A.Weight) → A.Weight → Contents
    → Stage A.Weight → Labels A → After A.Weight Ending
calls A g b c s m = go_on (on_open A s b c.destination m) (λ s m. along A g c.source c.books s m)
