-- The list of routes at a node, and what count and item answer.
--   items v k run    the weight and the key of each marked label at the node v, in the order of their keys; the
--                    first label of the run has the key k
--   listed p v m     the list at v: the items of the latest run there
--   on_count s v m   what count answers at the stage s: how long the list at v is
--   on_item s v k m  what item answers: the k-th of the list at v, k from 0
use Rattle.std.specs.Prelude.{ℕ, suc, cond, ◌&&◌, List, [], ◌∷◌, length, Ok, Err, Result, ◌==◌}
use Rattle.std.specs.Option.{ok_or}
use Rattle.std.specs.List.{slice_get}
use Rattle.carriers.specs.declared.refusals.Refusal.{Refusal}
use Rattle.carriers.specs.declared.refusals.Refusal.TheVariants as refusals
use Rattle.stepping.specs.declared.Label.{Label}
use Rattle.histories.specs.declared.Item.{Item}
use Rattle.histories.specs.Runs.{latest, labels_of}
use Rattle.histories.specs.Stages.{Progress, Stage, if_begun}
use Rattle.histories.specs.Rules.{refusal, unless, begun_rules}

abbrev pub items : {W : Type 0} → ℕ → ℕ → List (Label W) → List (Item W)
items v k [] = []
items v k (l ∷ ls) =
    cond
    (l.node == v && l.mark)
    (record { weight = l.weight; key = k } ∷ items v (suc k) ls)
    (items v (suc k) ls)

abbrev pub listed : {W : Type 0} → Progress W → ℕ → List (Label W) → List (Item W)
listed p v m = items v (latest p.runs).start (labels_of (latest p.runs) m)

abbrev pub on_count : {W : Type 0} → Stage W → ℕ → List (Label W) → Result ℕ Refusal
on_count s v m =
    if_begun s
    (Err refusals.Stage)
    (λ p. unless (refusal (begun_rules p m)) Err (Ok (length (listed p v m))))

abbrev pub on_item : {W : Type 0} → Stage W → ℕ → ℕ → List (Label W) → Result (Item W) Refusal
on_item s v k m =
    if_begun s
    (Err refusals.Stage)
    (λ p. unless (refusal (begun_rules p m)) Err (ok_or (slice_get (listed p v m) k) refusals.Key))
