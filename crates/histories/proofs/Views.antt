-- What a crossing sees, in terms of the layers of the request.
use Rattle.std.proofs.Common.{◌≡◌, ℕ, Bool, List, [], ◌∷◌, ◌++◌, length, Option, refl, ap, ◌∙◌}
use Rattle.weights.specs.Algebra.{Algebra}
use Rattle.carriers.specs.Carrier.{Carrier}
use Rattle.stepping.specs.Labels.{Labels}
use Rattle.stepping.specs.View.{View}
use Rattle.histories.specs.Runs.{latest, used, labels_of}
use Rattle.histories.specs.Stages.{Progress, due}
use Rattle.histories.specs.Crossings.{view}
use Rattle.histories.proofs.Layers.{Layer, flat, spans, top_run, base, destination_on, view_on, used_spans, latest_labels, latest_start}

due_spans : {W : Type 0} (p : Progress W) (ls : List (Layer W)) → p.runs ≡ spans ls
    → due p ≡ destination_on p.destination ls
due_spans p [] e = rw e refl
due_spans p (l ∷ ls) e = rw e refl

pub view_same : (A : Algebra) (p : Progress A.Weight) (c : Carrier A.Weight) (marks : ℕ → Bool)
    (ls : List (Layer A.Weight)) (m rest : Labels A) → p.runs ≡ spans ls → m ≡ flat ls ++ rest
    → view A p c marks m ≡ view_on A p.bounds p.destination c marks ls
view_same A p c marks ls m rest e f =
    let of : ℕ → Labels A → ℕ → Option ℕ → View A =
    λ s b k t.
    record {
      bounds = p.bounds;
      places = c.places;
      at = c.at;
      start = s;
      before = b;
      before_start = k;
      destination = t;
      marks = marks;
    } in
    let s : used p.runs ≡ length (flat ls) = ap used e ∙ used_spans ls in
    let b : labels_of (latest p.runs) m ≡ top_run ls =
    ap (λ rs. labels_of (latest rs) m) e ∙ (ap (labels_of (latest (spans ls))) f ∙ latest_labels ls rest) in
    let k : (latest p.runs).start ≡ base ls = ap (λ rs. (latest rs).start) e ∙ latest_start ls in
    ap (λ z. of z (labels_of (latest p.runs) m) (latest p.runs).start (due p)) s
    ∙ (ap (λ z. of (length (flat ls)) z (latest p.runs).start (due p)) b
    ∙ (ap (λ z. of (length (flat ls)) (top_run ls) z (due p)) k
    ∙ ap (λ z. of (length (flat ls)) (top_run ls) (base ls) z) (due_spans p ls e)))
