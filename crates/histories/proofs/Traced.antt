-- A label stands for a route of its weight, the hops of which following its nexts gives: each way that a label arises.
use Rattle.std.proofs.Common.{◌≡◌, ℕ, suc, ◌+◌, ◌<◌, ◌≤◌, T, List, [], ◌∷◌, length, Some, sym, refl, ap, ◌∙◌, subst, arith, length-append}
use Rattle.std.proofs.lemmas.Option.{slice_get_within}
use Rattle.std.specs.List.{slice_get}
use Rattle.weights.specs.Algebra.{Algebra}
use Rattle.carriers.specs.Carrier.{Link, Carrier}
use Rattle.carriers.specs.declared.sides.Side.TheVariants.{Inside, Onward}
use Rattle.stepping.specs.declared.Label.{Label}
use Rattle.stepping.specs.Labels.{Labels, no_link}
use Rattle.stepping.specs.View.{View}
use Rattle.stepping.specs.Candidates.{made}
use Rattle.stepping.specs.Crossing.{arrival}
use Rattle.stepping.proofs.Places.{none_some, some_same}
use Rattle.stepping.specs.declared.Run.{Run}
use Rattle.histories.specs.declared.Hop.{Hop}
use Rattle.histories.specs.Expansion.{follow}
use Rattle.histories.specs.Routes.{LinkAt, hop, Route, arrived, along, onto}
use Rattle.histories.proofs.Layers.{Layer, flat, top_run, base, destination_on, view_on, Laid, Stacked, Entries, Agrees}
use Rattle.histories.proofs.Roots.{Root}
use Rattle.histories.proofs.Followed.{follow_end, follow_hop}

-- the label y with this key, at position i
pub record Traced
    (A : Algebra) (cs : List (Carrier A.Weight)) (t : ℕ) (rs : List Run) (m : Labels A) (i key : ℕ)
    (y : Label A.Weight)
    : Type 0 where
  pub hops : List Hop
  pub route : Route A cs t i y.node hops y.weight
  pub follows : (n : ℕ) → key < n → follow rs m n key ≡ Some hops

destination_at : {W : Type 0} (t v : ℕ) (ls : List (Layer W)) → destination_on t ls ≡ Some v
    → (0 ≡ length ls) × (t ≡ v)
destination_at t v [] e = (refl, some_same t v e)
destination_at t v (l ∷ ls) e = none_some v e

has_link : {W : Type 0} (c : Carrier W) (p : ℕ) (e : Link W) → c.places ≤ 8192 → LinkAt c p e → p ≡ no_link → ⊥
has_link c p e n f q = let h = f.0 in omega arith

module _ (A : Algebra) (b : A.Weight) (t : ℕ) (cs : List (Carrier A.Weight)) (rs : List Run) (m : Labels A) where
  -- the label at index k of the layer over ls
  abbrev pub TracedOver : List (Layer A.Weight) → ℕ → Label A.Weight → Type 0
  TracedOver ls k u = Traced A cs t rs m (length ls) (length (flat ls) + k) u

  abbrev pub AllTraced : List (Layer A.Weight) → Type 0
  AllTraced [] = Unit {0}
  AllTraced (l ∷ ls) = (k : ℕ) (y : Label A.Weight) → slice_get l.run k ≡ Some y → TracedOver ls k y

  module _ (l : Layer A.Weight) where
    abbrev V : List (Layer A.Weight) → View A
    V ls = view_on A b t l.carrier l.marks ls

    pub traced_end : (ls : List (Layer A.Weight)) (k : ℕ) (u : Label A.Weight) → Root rs m ls k u
        → destination_on t ls ≡ Some u.node → arrival A (V ls) u.node ≡ u → TracedOver ls k u
    traced_end ls k u r d q =
        let at = destination_at t u.node ls d in
        let w : A.neutral ≡ u.weight = ap (λ z. z.weight) q in
        record {
          hops = [];
          route = subst
              (λ z. Route A cs t z u.node [] u.weight)
              at.0
              (subst (λ z. Route A cs t 0 z [] u.weight) at.1 (subst (Route A cs t 0 t []) w arrived));
          follows = follow_end rs m (length (flat ls) + k) u r.stands (sym (ap (λ z. z.link) q));
        }

    pub traced_along : (ls : List (Layer A.Weight)) → Laid A b t l ls → Agrees cs (l ∷ ls) → (k : ℕ)
        (u : Label A.Weight) → Root rs m ls k u → (p : ℕ) (e : Link A.Weight) (i : ℕ)
        (z : Label A.Weight) → LinkAt l.carrier p e → e.side ≡ Inside → i < k → z.node ≡ e.head
        → made A (V ls) p e (length (flat ls) + i) z ≡ u → TracedOver ls i z → TracedOver ls k u
    traced_along ls lay ag k u r p e i z f s j n q v =
        let key = length (flat ls) + k in
        let it = made A (V ls) p e (length (flat ls) + i) z in
        let got : TracedOver ls k it =
        record {
          hops = hop (length ls) p ∷ v.hops;
          route = along l.carrier p e ag.0 f s
              (subst (λ u. Route A cs t (length ls) u v.hops z.weight) n v.route);
          follows = follow_hop rs m key it
              (r.stands ∙ ap Some (sym q))
              (length ls)
              v.hops
              r.placed
              (has_link l.carrier p e lay.narrow f)
              (omega arith)
              v.follows;
        } in
        subst (TracedOver ls k) q got

    pub traced_onto : (ls : List (Layer A.Weight)) → Laid A b t l ls → Agrees cs (l ∷ ls) → (k : ℕ)
        (u : Label A.Weight) → Root rs m ls k u → (p : ℕ) (e : Link A.Weight) (i : ℕ)
        (z : Label A.Weight) → LinkAt l.carrier p e → e.side ≡ Onward → slice_get (top_run ls) i ≡ Some z
        → z.node ≡ e.head → T z.mark → made A (V ls) p e (base ls + i) z ≡ u → AllTraced ls
        → Stacked A b t ls → Entries ls → TracedOver ls k u
    traced_onto [] lay ag k u r p e i z f s g n w q below st en = none_some z g
    traced_onto (h ∷ hs) lay ag k u r p e i z f s g n w q below st en =
        let v = below i z g in
        let key = length (flat (h ∷ hs)) + k in
        let it = made A (V (h ∷ hs)) p e (length (flat hs) + i) z in
        let low = slice_get_within h.run i z g in
        let len = length-append (flat hs) h.run in
        let entry : z.mark ≡ h.carrier.entry e.head =
        (st.0.ended.sound i z g).marked ∙ (ap h.marks n ∙ ap (λ w. w e.head) en.0) in
        let got : TracedOver (h ∷ hs) k it =
        record {
          hops = hop (suc (length hs)) p ∷ v.hops;
          route = onto l.carrier h.carrier p e ag.0 ag.1.0 f s
              (subst T entry w)
              (subst (λ u. Route A cs t (length hs) u v.hops z.weight) n v.route);
          follows = follow_hop rs m key it
              (r.stands ∙ ap Some (sym q))
              (suc (length hs))
              v.hops
              r.placed
              (has_link l.carrier p e lay.narrow f)
              (omega arith)
              v.follows;
        } in
        subst (TracedOver (h ∷ hs) k) q got
