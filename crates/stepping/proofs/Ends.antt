-- The theorem that with enough labels free every crossing ends.
use Rattle.std.proofs.Common.{◌≡◌, ℕ, zero, suc, ◌+◌, ◌-◌, ◌^◌, ◌≤◌, [], ◌∷◌, ◌++◌, length, Some, None, Option, refl, ◌∙◌, arith}
use native.Mathlib.Nat.{one-le-pow, pow-le-pow_right}
use Rattle.std.proofs.lemmas.List.{length_push}
use Rattle.weights.specs.Algebra.{Algebra, Laws}
use Rattle.stepping.specs.declared.Label.{Label}
use Rattle.stepping.specs.Labels.{Labels}
use Rattle.stepping.specs.View.{View}
use Rattle.stepping.specs.Crossing.{Outcome, done, full, first, continue, settle, beginning}
use Rattle.stepping.specs.Room.{enough, Ends}
use Rattle.stepping.proofs.Settling.{crossing_long}
use Rattle.stepping.proofs.Runs.{Growing, growing_step, growing_begun}
use Rattle.stepping.proofs.Nodes.{nodes, length_nodes}
use Rattle.stepping.proofs.Rounds.{rounds, length_rounds, length_beginning}
use Rattle.stepping.proofs.Trails.{run_bounded}

module _ (A : Algebra) (laws : Laws A) (V : View A) where
  abbrev most : ℕ
  most = length (rounds A V (length (nodes A V)))

  abbrev Settles : Labels A → (Label A.Weight → Outcome A.Weight) → Option (Label A.Weight) → Type 0
  Settles run more o = first A V run ≡ o → (r : Labels A) × (continue run more o ≡ done r)

  settles : (n : ℕ) (run : Labels A) → Growing A V run → most ≤ length run + n
      → (r : Labels A) × (settle A V n run ≡ done r)
  settles zero run g h =
      (elim (first A V run) as (Settles run (λ c. full)) [
        | None ↦ λ f. (run, refl)
        | Some c ↦ λ f.
            let b = run_bounded A laws V (run ++ c ∷ []) (growing_step A laws V run c g f) in
            let l = length_push run c in
            absurd (omega arith)
      ]) refl
  settles (suc n) run g h =
      (elim (first A V run) as (Settles run (λ c. settle A V n (run ++ c ∷ []))) [
        | None ↦ λ f. (run, refl)
        | Some c ↦ λ f.
            let l = length_push run c in
            settles n (run ++ c ∷ []) (growing_step A laws V run c g f) (omega arith)
      ]) refl

  most_enough : most ≤ enough V
  most_enough =
      let a = length_rounds A V (length (nodes A V)) in
      let n = length_nodes A V in
      let q : suc (length (nodes A V)) ≤ V.places + 2 = omega arith in
      let b : (V.places + length V.before + 2) ^ suc (length (nodes A V)) ≤ enough V = pow-le-pow_right (omega arith) q in
      omega arith

pub ends_theorem : (A : Algebra) → Laws A → Ends A
ends_theorem A laws V n h =
    let begun = length_beginning A V in
    let one = one-le-pow (V.places + 2) (V.places + length V.before + 2) (omega arith) in
    let m = most_enough A laws V in
    let r = settles A laws V (n - length (beginning A V)) (beginning A V) (growing_begun A laws V) (omega arith) in
    (r.0, crossing_long A V n (omega arith) ∙ r.1)
