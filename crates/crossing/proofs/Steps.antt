-- One label more in what a link makes of labels.
use Rattle.std.proofs.Common.{◌≡◌, ℕ, suc, ◌+◌, ◌<◌, ◌≤◌, cond, List, [], ◌∷◌, map, length, get_or, drop, ap, ◌∙◌, arith}
use Rattle.std.proofs.lemmas.List.{drop_all}
use Rattle.weights.specs.Algebra.{Algebra}
use Rattle.stepping.specs.declared.Label.{Label}
use Rattle.stepping.specs.Labels.{Labels, meant}
use Rattle.crossing.specs.declared.choosing.Offer.{Offer}
use Rattle.crossing.specs.Offers.{meets, offered, offers}
use Rattle.crossing.proofs.Items.{drop_item}

module _ {W : Type 0} (A : Algebra) (f : W → A.Weight) (o : Offer A.Weight) (k : ℕ) (ys : List (Label W)) (i : ℕ) where
  pub offers_none : length ys ≤ i → offers A o (k + i) (map (meant f) (drop i ys)) ≡ []
  offers_none l = ap (λ r. offers A o (k + i) (map (meant f) r)) (drop_all i ys l)

  pub offers_more : (x : Label W) → i < length ys → x ≡ get_or ys i x
      → offers A o (k + i) (map (meant f) (drop i ys))
      ≡ cond (meets o (meant f x)) (offered A o (k + i) (meant f x) ∷ offers A o (k + (i + 1)) (map (meant f) (drop (i + 1) ys))) (offers A o (k + (i + 1)) (map (meant f) (drop (i + 1) ys)))
  offers_more x within read =
      let n : suc (k + i) ≡ k + (i + 1) = omega arith in
      let rest : ℕ → Labels A = λ j. offers A o j (map (meant f) (drop (i + 1) ys)) in
      ap (λ r. offers A o (k + i) (map (meant f) r)) (drop_item ys i x within read)
      ∙ ap (λ j. cond (meets o (meant f x)) (offered A o (k + i) (meant f x) ∷ rest j) (rest j)) n
