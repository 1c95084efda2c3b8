-- How many labels of a run are listed.
use Rattle.std.proofs.Common.{◌≡◌, ◌==◌, ◌&&◌, ℕ, suc, Bool, true, false, cond, List, [], ◌∷◌, map, length, refl, ap}
use Rattle.std.specs.List.{filter}
use Rattle.stepping.specs.declared.Label.{Label}
use Rattle.stepping.specs.Labels.{meant}
use Rattle.histories.specs.Lists.{items}

abbrev pub is_listed : {W : Type 0} → ℕ → Label W → Bool
is_listed v l = l.node == v && l.mark

module _ {W V : Type 0} (f : W → V) (v : ℕ) where
  -- how many they are does not depend on their keys
  pub counted : (k : ℕ) (ls : List (Label W)) → length (filter (is_listed v) ls) ≡ length (items v k (map (meant f) ls))
  counted k [] = refl
  counted k (l ∷ ls) =
      elim (is_listed v l) as (λ b. length (cond b (l ∷ filter (is_listed v) ls) (filter (is_listed v) ls)) ≡ length (cond b (record { weight = f l.weight; key = k } ∷ items v (suc k) (map (meant f) ls)) (items v (suc k) (map (meant f) ls)))) [
        | true ↦ ap suc (counted (suc k) ls)
        | false ↦ counted (suc k) ls
      ]
