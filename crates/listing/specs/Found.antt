-- The routes that the calls along a chain find.
--   then_if r next         next of the answer in r, or the refusal in r
--   items_from s v m n k   the n items from the k-th on, k from 0, as item gives them at the node v, or the first refusal
--   found v a              of what a finish at the node v left and answered, the items at v, if there are routes, or the
--                          refusal
--   chain_found A f reads w c m   what is found of the chain c within the bounds w, in the label memory m
--   found_of A f reads w c        the same in a memory of 1,024 labels
use Rattle.std.specs.Prelude.{ℕ, zero, suc, List, [], ◌∷◌, Ok, Err, Result, Some, None, Option}
use Rattle.weights.specs.Algebra.{Algebra}
use Rattle.carriers.specs.declared.refusals.Refusal.{Refusal}
use Rattle.stepping.specs.declared.Label.{Label}
use Rattle.stepping.specs.Labels.{Labels}
use Rattle.stepping.specs.Memory.{blanks}
use Rattle.histories.specs.declared.Ending.{Ending}
use Rattle.histories.specs.declared.Item.{Item}
use Rattle.histories.specs.Stages.{Stage, idle, After}
use Rattle.histories.specs.Lists.{on_item}
use Rattle.books.specs.ChainLayout.{Contents}
use Rattle.listing.specs.Calls.{behind, calls}

abbrev pub then_if : {X Y : Type 0} → Result X Refusal → (X → Result Y Refusal) → Result Y Refusal
then_if (Ok x) next = next x
then_if (Err r) next = Err r

abbrev pub items_from : {V : Type 0} → Stage V → ℕ → List (Label V) → ℕ → ℕ → Result (List (Item V)) Refusal
items_from s v m zero k = Ok []
items_from s v m (suc n) k =
    then_if (on_item s v k m) (λ i. then_if (items_from s v m n (suc k)) (λ its. Ok (i ∷ its)))

abbrev pub found_at : {V : Type 0} → Stage V → ℕ → List (Label V) → Option ℕ → Result (Option (List (Item V))) Refusal
found_at s v m None = Ok None
found_at s v m (Some n) = then_if (items_from s v m n 0) (λ its. Ok (Some its))

abbrev pub found : {V : Type 0} → ℕ → After V Ending → Result (Option (List (Item V))) Refusal
found v a = then_if a.answer (λ e. found_at a.stage v a.labels e.routes)

abbrev pub chain_found : {W : Type 0} (A : Algebra) → (W → A.Weight) → (List ℕ → W) → W → Contents → Labels A
    → Result (Option (List (Item A.Weight))) Refusal
chain_found A f reads w c m = found c.source (calls A (behind A f reads w) (f w) c idle m)

unfoldable pub found_of : {W : Type 0} (A : Algebra) → (W → A.Weight) → (List ℕ → W) → W → Contents
    → Result (Option (List (Item A.Weight))) Refusal
found_of A f reads w c = chain_found A f reads w c (blanks A 1024)
