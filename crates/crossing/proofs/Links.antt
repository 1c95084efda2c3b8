-- What a link that is offered makes of labels is what the stepping rule's link makes of them.
use Rattle.std.proofs.Common.{◌≡◌, ℕ, suc, Bool, cond, ◌&&◌, eqb, [], ◌∷◌, Some, None, Option, refl, ap, ◌∙◌}
use Rattle.std.specs.Option.{option_map}
use Rattle.weights.specs.Algebra.{Algebra}
use Rattle.carriers.specs.declared.sides.Side.{Side}
use Rattle.carriers.specs.declared.sides.Side.TheVariants.{Inside, Onward}
use Rattle.carriers.specs.Carrier.{Link}
use Rattle.stepping.specs.declared.Label.{Label}
use Rattle.stepping.specs.Labels.{Labels}
use Rattle.stepping.specs.View.{View}
use Rattle.stepping.specs.Candidates.{made, of_labels, of_side, of_place}
use Rattle.crossing.specs.declared.choosing.Offer.{Offer}
use Rattle.crossing.specs.Offers.{offer_at, passes, offers, offers_of}

module _ (A : Algebra) (V : View A) (run : Labels A) (p : ℕ) where
  offers_are : (l : Link A.Weight) (pass : Label A.Weight → Bool) → ((y : Label A.Weight) → passes l.side y.mark ≡ pass y)
      → (k : ℕ) (ys : Labels A) → offers A (offer_at V p l) k ys ≡ of_labels A V p l pass k ys
  offers_are l pass e k [] = refl
  offers_are l pass e k (y ∷ ys) =
      let d = made A V p l k y in
      let rest = offers A (offer_at V p l) (suc k) ys in
      ap (λ b. cond (eqb y.node l.head && b) (d ∷ rest) rest) (e y)
      ∙ ap (λ r. cond (eqb y.node l.head && pass y) (d ∷ r) r) (offers_are l pass e (suc k) ys)

  offers_side : (l : Link A.Weight) (s : Side) → l.side ≡ s
      → offers_of A (offer_at V p l) s V.start run V.before_start V.before ≡ of_side A V run p l s
  offers_side l Inside e = offers_are l _ (λ y. ap (λ s. passes s y.mark) e) V.start run
  offers_side l Onward e = offers_are l _ (λ y. ap (λ s. passes s y.mark) e) V.before_start V.before

  -- the link o at the place p, which is offered as d
  pub offers_place : (o : Option (Link A.Weight)) (d : Offer A.Weight) → Some d ≡ option_map (offer_at V p) o
      → offers_of A d d.side V.start run V.before_start V.before ≡ of_place A V run p o
  offers_place None d e = cc
  offers_place (Some l) d e =
      let same : d ≡ offer_at V p l = cc in
      ap (λ x. offers_of A x x.side V.start run V.before_start V.before) same ∙ offers_side l l.side refl

  pub none_place : (o : Option (Link A.Weight)) → None ≡ option_map (offer_at V p) o → of_place A V run p o ≡ []
  none_place None e = refl
  none_place (Some l) e = cc
