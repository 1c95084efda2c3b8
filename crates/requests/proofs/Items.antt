-- One label more of a list.
use Rattle.std.proofs.Common.{◌≡◌, ℕ, zero, suc, ◌+◌, ◌-◌, ◌<◌, Bool, cond, List, ◌∷◌, map, length, get_or, drop, refl, ap, ◌∙◌, arith}
use Rattle.std.specs.List.{slice_get}
use Rattle.stepping.specs.declared.Label.{Label}
use Rattle.stepping.specs.Labels.{meant}
use Rattle.histories.specs.declared.Item.{Item}
use Rattle.histories.specs.Lists.{items}
use Rattle.crossing.proofs.Items.{drop_item}
use Rattle.requests.proofs.Listing.{is_listed}

-- the items from a label on, by whether it is listed
pub items_more : {W V : Type 0} (f : W → V) (ys : List (Label W)) (v i k j : ℕ) → suc k ≡ j → (x : Label W) → i < length ys → x ≡ get_or ys i x → (b : Bool) → is_listed v x ≡ b
    → items v k (map (meant f) (drop i ys))
    ≡ cond b (record { weight = f x.weight; key = k } ∷ items v j (map (meant f) (drop (i + 1) ys))) (items v j (map (meant f) (drop (i + 1) ys)))
items_more {V = V} f ys v i k j next x within read b e =
    let rest : ℕ → List (Item V) = λ n. items v n (map (meant f) (drop (i + 1) ys)) in
    let item : Item V = record { weight = f x.weight; key = k } in
    ap (λ r. items v k (map (meant f) r)) (drop_item ys i x within read)
    ∙ ap (λ n. cond (is_listed v x) (item ∷ rest n) (rest n)) next
    ∙ ap (λ s. cond s (item ∷ rest j) (rest j)) e

pub nth_after : {X : Type 0} (x : X) (xs : List X) (n : ℕ) → (n ≡ 0 → ⊥) → slice_get (x ∷ xs) n ≡ slice_get xs (n - 1)
nth_after x xs zero h = absurd (h refl)
nth_after x xs (suc n) h = let e : n ≡ suc n - 1 = omega arith in ap (slice_get xs) e
