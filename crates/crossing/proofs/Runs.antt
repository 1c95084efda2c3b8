-- One label more in a run, and its end.
use Rattle.std.proofs.Common.{◌≡◌, ℕ, zero, suc, ◌+◌, ◌-◌, ◌<◌, List, [], ◌∷◌, ◌++◌, length, take, set, Some, None, sym, ap, ◌∙◌, arith, length-set}
use Rattle.std.proofs.lemmas.List.{drop-set-lt, map_push, take_more_set}
use Rattle.std.proofs.lemmas.Grind.{drop_more_same}
use Rattle.weights.specs.Algebra.{Algebra}
use Rattle.stepping.specs.declared.Label.{Label}
use Rattle.stepping.specs.Labels.{Labels, meant, meanings}
use Rattle.stepping.specs.View.{View}
use Rattle.stepping.specs.Crossing.{done, full, first, continue, settle}

pub settle_done : (A : Algebra) (V : View A) (n : ℕ) (run : Labels A) → None ≡ first A V run → settle A V n run ≡ done run
settle_done A V zero run e = ap (continue run (λ c. full)) (sym e)
settle_done A V (suc n) run e = ap (continue run (λ c. settle A V n (run ++ c ∷ []))) (sym e)

-- m are the labels that are free at first, of which the run has the first i, and x is the next
module _ {W : Type 0} (A : Algebra) (f : W → A.Weight) (V : View A) (m : List (Label W)) (i : ℕ) (x : Label W) (next : Some (meant f x) ≡ first A V (meanings f (take i m))) where
  pub settle_more : i < length m → settle A V (length m - i) (meanings f (take i m)) ≡ settle A V (length (set m i x) - (i + 1)) (meanings f (take (i + 1) (set m i x)))
  settle_more l =
      let run = meanings f (take i m) in
      let n = length (set m i x) - (i + 1) in
      let e : length m - i ≡ suc n = omega (arith, length-set m i x) in
      ap (λ j. settle A V j run) e
      ∙ ap (continue run (λ d. settle A V n (run ++ d ∷ []))) (sym next)
      ∙ ap (settle A V n) (sym (ap (meanings f) (take_more_set m i x l) ∙ map_push (meant f) (take i m) x))

-- one label more, or none
pub ruleset label_more = (settle_more, settle_done, drop_more_same, drop-set-lt)
