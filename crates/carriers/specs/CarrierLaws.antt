-- A carrier stays sound when its weights are taken by a meaning.
use Rattle.std.specs.Prelude.{◌≡◌, ℕ, ◌<◌, Some}
use Rattle.std.proofs.Common.{ap, subst, ◌∙◌}
use Rattle.std.specs.Option.{option_map}
use Rattle.carriers.specs.declared.sides.Side.TheVariants.{Inside}
use Rattle.carriers.specs.Carrier.{Link, Carrier, Sound, link_meant, meant}
use Rattle.carriers.specs.Present.{from_mapped}

module _ {W V : Type 0} (f : W → V) (c : Carrier W) (s : Sound c) where
  tail_below : (p : ℕ) (l : Link V) → (meant f c).at p ≡ Some l → l.tail < c.nodes
  tail_below p l e =
      let k = from_mapped (link_meant f) (c.at p) l e in
      subst (λ (x : Link V). x.tail < c.nodes) k.2 (s.tails p k.0 k.1)

  head_below : (p : ℕ) (l : Link V) → (meant f c).at p ≡ Some l → l.side ≡ Inside → l.head < c.nodes
  head_below p l e inside =
      let k = from_mapped (link_meant f) (c.at p) l e in
      subst (λ (x : Link V). x.head < c.nodes) k.2 (s.heads p k.0 k.1 (ap (λ x. x.side) k.2 ∙ inside))

  pub meant_sound : Sound (meant f c)
  meant_sound =
      record {
        tails = tail_below;
        heads = head_below;
        none_past = λ p past. ap (option_map (link_meant f)) (s.none_past p past);
        entries = s.entries;
      }
