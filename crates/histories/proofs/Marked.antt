-- The list at a node whose labels the latest crossing marked: which routes it covers, and how its weights stand.
use Rattle.std.proofs.Common.{◌≡◌, ℕ, suc, true, T, List, ◌∷◌, length, Some, sym, ap, ◌∙◌, subst, inl, inr, arith}
use Rattle.std.specs.List.{slice_get}
use Rattle.std.proofs.lemmas.Bool.{cases_order}
use Rattle.weights.specs.Algebra.{Algebra, Laws}
use Rattle.carriers.specs.Carrier.{Carrier}
use Rattle.stepping.specs.Labels.{Labels}
use Rattle.stepping.specs.Domain.{Ended}
use Rattle.stepping.proofs.Places.{Pairs}
use Rattle.stepping.proofs.Kept.{map_from, map_to}
use Rattle.histories.specs.declared.Item.{Item}
use Rattle.histories.specs.Stages.{Progress}
use Rattle.histories.specs.Lists.{items}
use Rattle.histories.specs.Promise.{Query, Routed, weights}
use Rattle.histories.proofs.Layers.{Layer, flat, view_on, Entries, Agrees, agrees, length_carriers}
use Rattle.histories.proofs.Reached.{reached}
use Rattle.histories.proofs.Items.{item_of, items_have, items_pairs}
use Rattle.histories.proofs.Standing.{Built}

pub record Marked
    (A : Algebra) (cs : List (Carrier A.Weight)) (p : Progress A.Weight) (m : Labels A) (v : ℕ)
    : Type 0 where
  pub top : Layer A.Weight
  pub layers : List (Layer A.Weight)
  pub built : Built A cs p m (top ∷ layers)
  pub entries : Entries layers
  pub marks : top.marks v ≡ true

-- the query for routes from v
abbrev pub query_of : (A : Algebra) → List (Carrier A.Weight) → Progress A.Weight → ℕ → Query A
query_of A cs p v = record { chain = cs; bounds = p.bounds; destination = p.destination; source = v }

module _
    (A : Algebra) (laws : Laws A) (cs : List (Carrier A.Weight)) (p : Progress A.Weight) (m : Labels A) (v : ℕ)
    (h : Marked A cs p m v)
  where
    -- the items at v, in terms of the latest layer
    abbrev pub its : List (Item A.Weight)
    its = items v (length (flat h.layers)) h.top.run

    pub ended : Ended A (view_on A p.bounds p.destination h.top.carrier h.top.marks h.layers) h.top.run
    ended = h.built.stacked.0.ended

    pub agree : Agrees cs (h.top ∷ h.layers)
    agree = agrees (h.top ∷ h.layers) cs h.built.chain_is

    pub chain_length : length cs ≡ suc (length h.layers)
    chain_length = ap length h.built.chain_is ∙ length_carriers (h.top ∷ h.layers)

    pub complete : (x : A.Weight) → Routed A (query_of A cs p v) x
        → (i : ℕ) × (y : A.Weight) × (slice_get (weights its) i ≡ Some y) × T (A.good y x)
    complete x r =
        let w = r.1 in
        let n = chain_length in
        let q = w.is_last in
        let c =
        reached A laws p.bounds p.destination cs w.route h.top h.layers
        h.built.stacked
        h.entries
        agree
        (omega arith)
        w.within in
        let y = c.label in
        let mark : y.mark ≡ true =
        (ended.sound c.index y c.stands).marked ∙ (ap h.top.marks c.there ∙ h.marks) in
        let i = items_have v h.top.run (length (flat h.layers)) c.index y c.stands c.there mark in
        (i.0, y.weight, map_to (λ it. it.weight) its i.0 (item_of y _) i.1, c.as_good)

    -- neither matches or beats the other, and the first stands before the second
    abbrev Ahead : A.Weight → A.Weight → Type 0
    Ahead x y = (T (A.good x y) → ⊥) × (T (A.good y x) → ⊥) × T (A.before x y)

    item_pairs : Pairs (λ x y. Ahead x.weight y.weight) its
    item_pairs =
        items_pairs v Ahead h.top.run (length (flat h.layers))
        (λ i j x y e f l a b.
        let n1 : T (A.good x.weight y.weight) → ⊥ = ended.apart i j x y e f (λ z. omega arith) (a ∙ sym b) in
        let n2 : T (A.good y.weight x.weight) → ⊥ = ended.apart j i y x f e (λ z. omega arith) (b ∙ sym a) in
        let ne : x.weight ≡ y.weight → ⊥ =
        λ z. n1 (subst (λ w. T (A.good x.weight w)) z (laws.good_refl x.weight)) in
        let before : T (A.before x.weight y.weight) =
        elim (laws.before_total x.weight y.weight ne) [
          | inl z ↦ z
          | inr z ↦ absurd (ended.ordered i j x y e f l z)
        ] in
        (n1, n2, before))

    weight_pairs : Pairs Ahead (weights its)
    weight_pairs i j x y e f l =
        let a = map_from (λ it. it.weight) its i x e in
        let b = map_from (λ it. it.weight) its j y f in
        subst
        (λ z. Ahead z y)
        a.2
        (subst (Ahead a.0.weight) b.2 (item_pairs i j a.0 b.0 a.1 b.1 l))

    pub ascending : (i : ℕ) (x y : A.Weight) → slice_get (weights its) i ≡ Some x → slice_get (weights its) (suc i) ≡ Some y
        → T (A.before x y)
    ascending i x y e f = (weight_pairs i (suc i) x y e f (omega arith)).2

    pub apart : (i j : ℕ) (x y : A.Weight) → slice_get (weights its) i ≡ Some x → slice_get (weights its) j ≡ Some y
        → (i ≡ j → ⊥) → T (A.good x y) → ⊥
    apart i j x y e f n g =
        elim (cases_order i j) [
          | inl o ↦ n o
          | inr o ↦ elim o [ inl l ↦ (weight_pairs i j x y e f l).0 g | inr l ↦ (weight_pairs j i y x f e l).1 g ]
        ]
