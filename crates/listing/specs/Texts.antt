-- The list of routes, letter by letter.
--   refused_text r         the line of a refusal: its number
--   row_text i w k         the line of the route at position i, from 1, with the text w of its weights and the key k
--   lines t k its          the lines of the items its, the first of which is the k-th, k from 0; t is the text of a weight
--   list_text t l          no route, or how many there are and the lines of their items
--   answer_text t r        what is written of the routes in r, or of the refusal
--   after_text t v a       what is written of what a finish at the node v left and answered
use Rattle.std.specs.Prelude.{ℕ, suc, List, [], ◌∷◌, ◌++◌, length, Ok, Err, codes, decimal, Result, Some, None, Option}
use Rattle.carriers.specs.Refusals.{number_of}
use Rattle.carriers.specs.declared.refusals.Refusal.{Refusal}
use Rattle.histories.specs.declared.Ending.{Ending}
use Rattle.histories.specs.declared.Item.{Item}
use Rattle.histories.specs.Stages.{After}
use Rattle.listing.specs.Found.{found}

abbrev pub refused_text : Refusal → List ℕ
refused_text r = codes "refused " ++ (decimal (number_of r) ++ codes "\n")

abbrev pub row_text : ℕ → List ℕ → ℕ → List ℕ
row_text i w k = decimal i ++ (codes ": " ++ (w ++ (codes " key " ++ (decimal k ++ codes "\n"))))

abbrev pub heading_text : ℕ → List ℕ
heading_text n = codes "routes " ++ (decimal n ++ codes "\n")

abbrev pub lines : {V : Type 0} → (V → List ℕ) → ℕ → List (Item V) → List ℕ
lines t k [] = []
lines t k (it ∷ its) = row_text (suc k) (t it.weight) it.key ++ lines t (suc k) its

abbrev pub list_text : {V : Type 0} → (V → List ℕ) → Option (List (Item V)) → List ℕ
list_text t None = codes "no route\n"
list_text t (Some its) = heading_text (length its) ++ lines t 0 its

abbrev pub answer_text : {V : Type 0} → (V → List ℕ) → Result (Option (List (Item V))) Refusal → List ℕ
answer_text t (Ok l) = list_text t l
answer_text t (Err r) = refused_text r

abbrev pub after_text : {V : Type 0} → (V → List ℕ) → ℕ → After V Ending → List ℕ
after_text t v a = answer_text t (found v a)
