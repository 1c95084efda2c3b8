-- What is settled next, and the theorem on it.
use Rattle.std.proofs.Common.{◌≡◌, true, false, Some, None, sym, refl, ap, ◌∙◌, inl, inr}
use Rattle.std.proofs.ByRecursion.{all-has, All-weaker}
use Rattle.weights.specs.Algebra.{Algebra, Laws}
use Rattle.stepping.specs.declared.Label.{Label}
use Rattle.stepping.specs.Labels.{Labels}
use Rattle.stepping.specs.View.{View}
use Rattle.stepping.specs.Candidates.{candidates, Candidate, inside, onward}
use Rattle.stepping.specs.Crossing.{precedes, counts, first}
use Rattle.stepping.specs.Choice.{First, Chosen, Choice}
use Rattle.stepping.proofs.Places.{none_some}
use Rattle.stepping.proofs.Labels.{same_label}
use Rattle.stepping.proofs.Picks.{pick_none, pick_from, pick_least}
use Rattle.stepping.proofs.Candidates.{candidates_are, candidates_have}
use Rattle.stepping.proofs.Order.{NotAfter, Tied, not_after_refl, not_after_trans, precedes_won, precedes_lost, not_after_cases}

pub candidate_marked : (A : Algebra) (V : View A) (run : Labels A) (d : Label A.Weight) → Candidate A V run d
    → d.mark ≡ V.marks d.node
candidate_marked A V run d (inside p l k y h s e n q) = ap (λ z. z.mark) (sym q) ∙ ap (λ z. V.marks z.node) q
candidate_marked A V run d (onward p l k y h s e n m q) = ap (λ z. z.mark) (sym q) ∙ ap (λ z. V.marks z.node) q

module _ (A : Algebra) (V : View A) (run : Labels A) where
  pub first_none : first A V run ≡ None → (d : Label A.Weight) → Candidate A V run d
      → counts A V run d ≡ false
  first_none e d h =
      all-has
      (λ c. counts A V run c ≡ false)
      (candidates A V run)
      d
      (pick_none (precedes A) (counts A V run) (candidates A V run) e)
      (candidates_have A V run d h)

  pub first_is : (c : Label A.Weight) → first A V run ≡ Some c
      → Candidate A V run c × (counts A V run c ≡ true)
  first_is c e =
      let Q : Label A.Weight → Type 0 = λ d. Candidate A V run d × (counts A V run d ≡ true) in
      pick_from
      (precedes A)
      (counts A V run)
      Q
      (candidates A V run)
      None
      c
      (λ a h. none_some a h)
      (All-weaker
      (Candidate A V run)
      (λ d. counts A V run d ≡ true → Q d)
      (λ d h t. (h, t))
      (candidates A V run)
      (candidates_are A V run))
      e

  module _ (laws : Laws A) (c : Label A.Weight) (e : first A V run ≡ Some c) where
    pub first_least : (d : Label A.Weight) → Candidate A V run d → counts A V run d ≡ true → NotAfter A c d
    first_least d h =
        all-has
        (λ d. counts A V run d ≡ true → NotAfter A c d)
        (candidates A V run)
        d
        (pick_least
        (precedes A)
        (counts A V run)
        (NotAfter A)
        (not_after_trans A laws)
        (precedes_won A laws)
        (precedes_lost A laws)
        (not_after_refl A laws)
        (candidates A V run)
        None
        c
        e).1
        (candidates_have A V run d h)

    -- candidates of one link and one label are one
    tied_same : (d : Label A.Weight) → Candidate A V run d → Tied A c d → d ≡ c
    tied_same d h t =
        let u = candidate_marked A V run d h in
        let v = candidate_marked A V run c (first_is c e).0 in
        let m : d.mark ≡ c.mark = u ∙ (ap V.marks (sym t.node) ∙ sym v) in
        same_label d c (sym t.node) (sym t.weight) (sym t.link) (sym t.next) m

    chosen : First A V run c
    chosen =
        record {
          candidate = (first_is c e).0;
          counted = (first_is c e).1;
          leads = λ d h t.
              elim (not_after_cases A laws c d (first_least d h t)) [ inl q ↦ inl (tied_same d h q) | inr q ↦ inr q ];
        }

pub choice_theorem : (A : Algebra) → Laws A → Choice A
choice_theorem A laws V run =
    (elim (first A V run) as (λ o. first A V run ≡ o → Chosen A V run o) [
      | None ↦ λ e. first_none A V run e
      | Some c ↦ λ e. chosen A V run laws c e
    ]) refl
