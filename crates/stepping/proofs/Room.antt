-- The theorem on how the outcome of a crossing depends on the number of free labels.
use Rattle.std.proofs.Common.{◌≡◌, ℕ, zero, suc, ◌+◌, ◌-◌, ◌<◌, ◌≤◌, [], ◌∷◌, ◌++◌, length, Some, None, Option, refl, ap, ◌∙◌, inl, inr, arith}
use Rattle.std.proofs.lemmas.List.{length_push}
use Rattle.std.proofs.lemmas.Bool.{cases_lt}
use Rattle.weights.specs.Algebra.{Algebra}
use Rattle.stepping.specs.declared.Label.{Label}
use Rattle.stepping.specs.Labels.{Labels}
use Rattle.stepping.specs.View.{View}
use Rattle.stepping.specs.Crossing.{Outcome, done, full, first, continue, settle, beginning, crossing}
use Rattle.stepping.specs.Room.{Roomed, Room}
use Rattle.stepping.proofs.Settling.{done_same, full_done, crossing_short, crossing_long, crossing_done}

module _ (A : Algebra) (V : View A) where
  -- r is what the run becomes, with m labels free
  record Fits (run r : Labels A) (m : ℕ) : Type 0 where
    grows : length run ≤ length r
    within : length r ≤ length run + m
    same : (n : ℕ) → length r ≤ length run + n → settle A V n run ≡ done r
    over : (n : ℕ) → length run + n < length r → settle A V n run ≡ full

  done_at : (run r : Labels A) (n : ℕ) → first A V run ≡ None → run ≡ r → settle A V n run ≡ done r
  done_at run r zero f e = ap (continue run (λ c. full)) f ∙ ap done e
  done_at run r (suc n) f e = ap (continue run (λ c. settle A V n (run ++ c ∷ []))) f ∙ ap done e

  fits_done : (run r : Labels A) (m : ℕ) → first A V run ≡ None → run ≡ r → Fits run r m
  fits_done run r m f e =
      let l : length run ≡ length r = ap length e in
      record {
        grows = omega arith;
        within = omega arith;
        same = λ n h. done_at run r n f e;
        over = λ n h. absurd (omega arith);
      }

  fits_more : (run r : Labels A) (c : Label A.Weight) (m : ℕ) → first A V run ≡ Some c
      → Fits (run ++ c ∷ []) r m → Fits run r (suc m)
  fits_more run r c m f h =
      let l = length_push run c in
      let g = h.grows in
      let w = h.within in
      record {
        grows = omega arith;
        within = omega arith;
        same = elim [
          | zero ↦ λ k. absurd (omega arith)
          | suc n ↦ λ k. ap (continue run (λ d. settle A V n (run ++ d ∷ []))) f ∙ h.same n (omega arith)
        ];
        over = elim [
          | zero ↦ λ k. ap (continue run (λ d. full)) f
          | suc n ↦ λ k. ap (continue run (λ d. settle A V n (run ++ d ∷ []))) f ∙ h.over n (omega arith)
        ];
      }

  abbrev Fitted : Labels A → Labels A → ℕ → (Label A.Weight → Outcome A.Weight)
      → Option (Label A.Weight) → Type 0
  Fitted run r m more o = first A V run ≡ o → continue run more o ≡ done r → Fits run r m

  fits : (m : ℕ) (run r : Labels A) → settle A V m run ≡ done r → Fits run r m
  fits zero run r e =
      (elim (first A V run) as (Fitted run r 0 (λ c. full)) [
        | None ↦ λ f h. fits_done run r 0 f (done_same run r h)
        | Some c ↦ λ f h. absurd (full_done r h)
      ]) refl e
  fits (suc m) run r e =
      (elim (first A V run) as (Fitted run r (suc m) (λ c. settle A V m (run ++ c ∷ []))) [
        | None ↦ λ f h. fits_done run r (suc m) f (done_same run r h)
        | Some c ↦ λ f h. fits_more run r c m f (fits m (run ++ c ∷ []) r h)
      ]) refl e

  roomed : (m : ℕ) (run : Labels A) → crossing A V m ≡ done run
      → (length run ≤ m) × ((n : ℕ) → Roomed A V run n)
  roomed m run e =
      let s = crossing_done A V m run e in
      let start = length (beginning A V) in
      let low = s.0 in
      let f = fits (m - start) (beginning A V) run s.1 in
      let w = f.within in
      let g = f.grows in (
        omega arith,
        λ n.
            record {
              same = λ k. crossing_long A V n (omega arith) ∙ f.same (n - start) (omega arith);
              over = λ k.
                  elim (cases_lt n start) [
                    | inl q ↦ crossing_short A V n q
                    | inr q ↦ crossing_long A V n q ∙ f.over (n - start) (omega arith)
                  ];
            },
      )

pub room_theorem : (A : Algebra) → Room A
room_theorem A V m run e = roomed A V m run e
