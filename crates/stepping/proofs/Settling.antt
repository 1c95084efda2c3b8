-- What each step keeps, a crossing keeps from its beginning to its end.
use Rattle.std.proofs.Common.{◌≡◌, ℕ, zero, suc, ◌-◌, ◌<◌, ◌≤◌, ltb, List, [], ◌∷◌, ◌++◌, length, Some, None, Option, sym, refl, ◌∙◌, subst, inl, inr, arith}
use Rattle.std.proofs.lemmas.Bool.{cases_lt, lt-ltb, le-ltb, cond-true, cond-false}
use Rattle.weights.specs.Algebra.{Algebra}
use Rattle.stepping.specs.declared.Label.{Label}
use Rattle.stepping.specs.Labels.{Labels}
use Rattle.stepping.specs.View.{View}
use Rattle.stepping.specs.Crossing.{Outcome, done, full, first, continue, settle, beginning, crossing}

pub done_same : {W : Type 0} (run r : List (Label W)) → done run ≡ done r → run ≡ r
done_same run r e = cc

pub full_done : {W : Type 0} (r : List (Label W)) → ◌≡◌ {A = Outcome W} full (done r) → ⊥
full_done r e = let z : ◌≡◌ {A = ℕ} 0 1 = cc in omega arith

module _ (A : Algebra) (V : View A) where
  pub crossing_short : (n : ℕ) → n < length (beginning A V) → crossing A V n ≡ full
  crossing_short n h = cond-true (ltb n (length (beginning A V))) _ _ (lt-ltb n (length (beginning A V)) h)

  pub crossing_long : (n : ℕ) → length (beginning A V) ≤ n
      → crossing A V n ≡ settle A V (n - length (beginning A V)) (beginning A V)
  crossing_long n h = cond-false (ltb n (length (beginning A V))) _ _ (le-ltb n (length (beginning A V)) h)

  pub crossing_done : (n : ℕ) (r : Labels A) → crossing A V n ≡ done r
      → (length (beginning A V) ≤ n) × (settle A V (n - length (beginning A V)) (beginning A V) ≡ done r)
  crossing_done n r e =
      elim (cases_lt n (length (beginning A V))) [
        | inl h ↦ absurd (full_done r (sym (crossing_short n h) ∙ e))
        | inr h ↦ (h, sym (crossing_long n h) ∙ e)
      ]

  module _
      (P : Labels A → Type 0)
      (step : (run : Labels A) (c : Label A.Weight) → P run → first A V run ≡ Some c → P (run ++ c ∷ []))
    where
      -- P at the end of the run, which goes on with `more` if there is one left to settle
      abbrev Kept : Labels A → Labels A → (Label A.Weight → Outcome A.Weight) → Option (Label A.Weight)
          → Type 0
      Kept run r more o = first A V run ≡ o → continue run more o ≡ done r → P r × (first A V r ≡ None)

      stopped : (run r : Labels A) → P run → first A V run ≡ None → done run ≡ done r → P r × (first A V r ≡ None)
      stopped run r h f e =
          let q = done_same run r e in
          (subst P q h, subst (λ z. first A V z ≡ None) q f)

      settle_keeps : (n : ℕ) (run r : Labels A) → P run → settle A V n run ≡ done r → P r × (first A V r ≡ None)
      settle_keeps zero run r h e =
          (elim (first A V run) as (Kept run r (λ c. full)) [
            | None ↦ λ f g. stopped run r h f g
            | Some c ↦ λ f g. absurd (full_done r g)
          ]) refl e
      settle_keeps (suc n) run r h e =
          (elim (first A V run) as (Kept run r (λ c. settle A V n (run ++ c ∷ []))) [
            | None ↦ λ f g. stopped run r h f g
            | Some c ↦ λ f g. settle_keeps n (run ++ c ∷ []) r (step run c h f) g
          ]) refl e

      pub crossing_keeps : (n : ℕ) (r : Labels A) → P (beginning A V) → crossing A V n ≡ done r
          → P r × (first A V r ≡ None)
      crossing_keeps n r h e =
          settle_keeps (n - length (beginning A V)) (beginning A V) r h (crossing_done n r e).1
