-- A fence at the bounds takes no route away that is within them.
use Rattle.std.proofs.Common.{◌≡◌, ℕ, suc, T, List, map, length, Some, None, Option, sym, refl, ap, ◌∙◌, subst}
use Rattle.std.specs.Option.{option_map}
use Rattle.std.proofs.lemmas.List.{length-map}
use Rattle.std.proofs.lemmas.Bool.{cond-true}
use Rattle.weights.specs.Algebra.{Algebra, Laws}
use Rattle.carriers.specs.Carrier.{Link, Carrier, meant, link_meant}
use Rattle.carriers.specs.Fences.{fenced, fence}
use Rattle.carriers.specs.Present.{from_tested, from_mapped}
use Rattle.stepping.proofs.Kept.{map_from, map_to}
use Rattle.stepping.proofs.Tests.{T_true}
use Rattle.histories.specs.declared.Hop.{Hop}
use Rattle.histories.specs.Routes.{LinkAt, Route, arrived, along, onto}
use Rattle.histories.specs.Promise.{Query, Routed, Front}
use Rattle.listing.specs.Truth.{Says, none, routes}

-- d has the links of c whose weight is within b, and no others
pub record Within (A : Algebra) (b : A.Weight) (c d : Carrier A.Weight) : Type 0 where
  pub kept : (p : ℕ) (l : Link A.Weight) → LinkAt c p l → T (A.good l.weight b) → LinkAt d p l
  pub from : (p : ℕ) (l : Link A.Weight) → LinkAt d p l → LinkAt c p l
  pub entry : (v : ℕ) → c.entry v ≡ d.entry v

module _ {W : Type 0} (A : Algebra) (f : W → A.Weight) (limit : W) where
  kept_at : (o : Option (Link W)) (l : Link A.Weight) → option_map (link_meant f) o ≡ Some l → T (A.good l.weight (f limit))
      → option_map (link_meant f) (fenced A f limit o) ≡ Some l
  kept_at None l e g = e
  kept_at (Some k) l e g =
      let good : T (A.good (f k.weight) (f limit)) = subst (λ z. T (A.good z.weight (f limit))) (let s : l ≡ link_meant f k = cc in s) g in
      ap (option_map (link_meant f)) (cond-true (A.good (f k.weight) (f limit)) (Some k) None (T_true _ good)) ∙ e

  from_at : (o : Option (Link W)) (l : Link A.Weight) → option_map (link_meant f) (fenced A f limit o) ≡ Some l → option_map (link_meant f) o ≡ Some l
  from_at None l e = e
  from_at (Some k) l e =
      let it = from_mapped (link_meant f) (fenced A f limit (Some k)) l e in
      let same = (from_tested (A.good (f k.weight) (f limit)) k it.0 it.1).1 in
      cc (same, it.2)

  pub fence_within : (c : Carrier W) → Within A (f limit) (meant f c) (meant f (fence A f limit c))
  fence_within c =
      record {
        kept = λ p l at g. (at.0, kept_at (c.at p) l at.1 g);
        from = λ p l at. (at.0, from_at (c.at p) l at.1);
        entry = λ v. refl;
      }

-- a route whose weights are all of P leads through the carriers d as it does through c
module _ (A : Algebra) (P : A.Weight → Type 0) (first : (y x : A.Weight) → P (A.join y x) → P y) (rest : (y x : A.Weight) → P (A.join y x) → P x) {X : Type 0} (books : List X) (c d : X → Carrier A.Weight) (kept : (z : X) (p : ℕ) (l : Link A.Weight) → LinkAt (c z) p l → P l.weight → LinkAt (d z) p l) (entry : (z : X) (v : ℕ) → (c z).entry v ≡ (d z).entry v) (t : ℕ) where
  carried : {i v : ℕ} {hops : List Hop} {x : A.Weight} → Route A (map c books) t i v hops x → P x → Route A (map d books) t i v hops x
  carried arrived g = arrived
  carried (along {i} {hops} {x} e p l n at s r) g =
      let it = map_from c books i e n in
      along (d it.0) p l (map_to d books i it.0 it.1)
      (kept it.0 p l (subst (λ z. LinkAt z p l) (sym it.2) at) (first l.weight x g))
      s
      (carried r (rest l.weight x g))
  carried (onto {i} {hops} {x} e o p l n m at s y r) g =
      let it = map_from c books (suc i) e n in
      let jt = map_from c books i o m in
      onto (d it.0) (d jt.0) p l (map_to d books (suc i) it.0 it.1) (map_to d books i jt.0 jt.1)
      (kept it.0 p l (subst (λ z. LinkAt z p l) (sym it.2) at) (first l.weight x g))
      s
      (subst T (ap (λ z. z.entry l.head) (sym jt.2) ∙ entry jt.0 l.head) y)
      (carried r (rest l.weight x g))

-- the same routes through two chains, one of the carriers c and one of the carriers d, of which each is within the bounds
module _ (A : Algebra) (laws : Laws A) {X : Type 0} (books : List X) (c d : X → Carrier A.Weight) (b : A.Weight) (within : (x : X) → Within A b (c x) (d x)) (t : ℕ) where
  to_within : {i v : ℕ} {hops : List Hop} {x : A.Weight} → Route A (map c books) t i v hops x → T (A.good x b)
      → Route A (map d books) t i v hops x
  to_within =
      carried A (λ x. T (A.good x b))
      (λ y x. laws.good_trans y (A.join y x) b (laws.join_left y x))
      (λ y x. laws.good_trans x (A.join y x) b (laws.join_right y x))
      books c d (λ z. (within z).kept) (λ z. (within z).entry) t

  from_within : {i v : ℕ} {hops : List Hop} {x : A.Weight} → Route A (map d books) t i v hops x → Route A (map c books) t i v hops x
  from_within r =
      carried A (λ x. Unit {0}) (λ y x g. g) (λ y x g. g) books d c
      (λ z p l at g. (within z).from p l at)
      (λ z v. sym ((within z).entry v))
      t
      r
      tt

  module _ (v : ℕ) where
    abbrev asked : (X → Carrier A.Weight) → Query A
    asked g = record { chain = map g books; bounds = b; destination = t; source = v }

    as_long : (g h : X → Carrier A.Weight) → length (map g books) ≡ length (map h books)
    as_long g h = length-map books g ∙ sym (length-map books h)

    pub routed_within : (x : A.Weight) → Routed A (asked c) x → Routed A (asked d) x
    routed_within x r =
        let w = r.1 in
        (r.0, record { last = w.last; is_last = as_long d c ∙ w.is_last; route = to_within w.route w.within; within = w.within })

    pub routed_from : (x : A.Weight) → Routed A (asked d) x → Routed A (asked c) x
    routed_from x r =
        let w = r.1 in
        (r.0, record { last = w.last; is_last = as_long c d ∙ w.is_last; route = from_within w.route; within = w.within })

-- a text says the same of two queries that have the same routes
module _ (A : Algebra) (p q : Query A) (to : (x : A.Weight) → Routed A p x → Routed A q x) (back : (x : A.Weight) → Routed A q x → Routed A p x) where
  front_same : (R S : A.Weight → Type 0) → ((x : A.Weight) → R x → S x) → ((x : A.Weight) → S x → R x) → (ws : List A.Weight)
      → Front A R ws → Front A S ws
  front_same R S f g ws h =
      record {
        ascending = h.ascending;
        sound = λ i x e. f x (h.sound i x e);
        complete = λ x s. h.complete x (g x s);
        apart = h.apart;
      }

  pub says_same : (t : A.Weight → List ℕ) (out : List ℕ) → Says A t p out → Says A t q out
  says_same t out (none n e) = none (λ x r. n x (back x r)) e
  says_same t out (routes its some front only e) =
      routes its some
      (front_same (Routed A p) (Routed A q) to back _ front)
      (λ ws h. only ws (front_same (Routed A q) (Routed A p) back to ws h))
      e
