-- Each route within the bounds is matched or beaten by a label of its carrier's layer.
use Rattle.std.proofs.Common.{◌≡◌, ℕ, suc, T, List, [], ◌∷◌, length, Some, Option, sym, refl, ap, ◌∙◌, subst, arith}
use Rattle.std.specs.List.{slice_get}
use Rattle.weights.specs.Algebra.{Algebra, Laws}
use Rattle.carriers.specs.Carrier.{Carrier}
use Rattle.stepping.specs.Labels.{Labels}
use Rattle.stepping.specs.View.{View}
use Rattle.stepping.specs.Ways as ways
use Rattle.stepping.specs.Domain.{Covered, Ended}
use Rattle.stepping.proofs.Places.{some_same}
use Rattle.histories.specs.declared.Hop.{Hop}
use Rattle.histories.specs.Routes.{LinkAt, Route, arrived, along, onto}
use Rattle.histories.proofs.Layers.{Layer, view_on, destination_on, Stacked, Entries, Agrees}

-- the carrier at one position
pub same_carrier : {W : Type 0} (cs : List (Carrier W)) (c d : Carrier W) (i n : ℕ) → slice_get cs n ≡ Some c → n ≡ i
    → slice_get cs i ≡ Some d → d ≡ c
same_carrier cs c d i n p q r = some_same d c (sym r ∙ (ap (slice_get cs) (sym q) ∙ p))

destination_first : {W : Type 0} (t : ℕ) (ls : List (Layer W)) → length ls ≡ 0 → destination_on t ls ≡ Some t
destination_first t [] e = refl
destination_first t (l ∷ ls) e = absurd (omega arith)

module _ (A : Algebra) (laws : Laws A) where
  -- what a way is as good as is covered, within the bounds
  covered_by : (V : View A) (run : Labels A) → Ended A V run → (v : ℕ) (x y : A.Weight) (hops : List ℕ)
      (last : Option ℕ) → ways.Way A V v y hops last → T (A.good y x) → T (A.good x V.bounds)
      → Covered A run v x
  covered_by V run f v x y hops last w g b =
      let m = f.complete v y hops last w (laws.good_trans y x V.bounds g b) in
      record {
        index = m.index;
        label = m.label;
        stands = m.stands;
        there = m.there;
        as_good = laws.good_trans m.label.weight y x m.as_good g;
      }

  module _ (b : A.Weight) (t : ℕ) (cs : List (Carrier A.Weight)) where
    rest_within : (w x : A.Weight) → T (A.good (A.join w x) b) → T (A.good x b)
    rest_within w x h = laws.good_trans x (A.join w x) b (laws.join_right w x) h

    pub reached : {i v : ℕ} {hops : List Hop} {x : A.Weight} → Route A cs t i v hops x → (l : Layer A.Weight)
        (ls : List (Layer A.Weight)) → Stacked A b t (l ∷ ls) → Entries ls → Agrees cs (l ∷ ls)
        → length ls ≡ i → T (A.good x b) → Covered A l.run v x
    reached arrived l ls st en ag q w =
        st.0.ended.complete t A.neutral [] _ (ways.arrived (destination_first t ls q) refl) w
    reached (along {i} {hops} {x} c p e f g s r) l ls st en ag q w =
        let m = reached r l ls st en ag q (rest_within e.weight x w) in
        let y = m.label in
        let V = view_on A b t l.carrier l.marks ls in
        let back = st.0.ended.sound m.index y m.stands in
        let there : LinkAt l.carrier p e =
        subst (λ z. LinkAt z p e) (same_carrier cs l.carrier c i (length ls) ag.0 q f) g in
        let way = subst (λ v. ways.Way A V v y.weight back.hops back.last) m.there back.way in
        covered_by V l.run st.0.ended e.tail (A.join e.weight x) (A.join e.weight y.weight) (p ∷ back.hops) back.last
        (ways.along p e y.weight there s way refl refl)
        (laws.good_join y.weight x e.weight m.as_good)
        w
    reached (onto {i} {hops} {x} c d p e f g h s n r) l [] st en ag q w = absurd (omega arith)
    reached (onto {i} {hops} {x} c d p e f g h s n r) l (k ∷ ks) st en ag q w =
        let below : length ks ≡ i = omega arith in
        let m = reached r k ks st.1 en.1 ag.1 below (rest_within e.weight x w) in
        let y = m.label in
        let V = view_on A b t l.carrier l.marks (k ∷ ks) in
        let mark : y.mark ≡ k.marks y.node = (st.1.0.ended.sound m.index y m.stands).marked in
        let same : d ≡ k.carrier = same_carrier cs k.carrier d i (length ks) ag.1.0 below g in
        let entry : d.entry e.head ≡ y.mark =
        ap (λ z. z.entry e.head) same
        ∙ (ap (λ z. z e.head) (sym en.0) ∙ (ap k.marks (sym m.there) ∙ sym mark)) in
        let there : LinkAt l.carrier p e =
        subst (λ z. LinkAt z p e) (same_carrier cs l.carrier c (suc i) (suc (length ks)) ag.0 (ap suc below) f) h in
        covered_by V l.run st.0.ended e.tail (A.join e.weight x) (A.join e.weight y.weight) (p ∷ []) _
        (ways.onto p e m.index y there s m.stands m.there (subst (λ z. T z) entry n) refl refl)
        (laws.good_join y.weight x e.weight m.as_good)
        w
