-- Each label of each layer stands for a route, by the lower labels that it was made of.
use Rattle.std.proofs.Common.{◌≡◌, ℕ, zero, suc, ◌<◌, List, [], ◌∷◌, Some, arith}
use Rattle.std.specs.List.{slice_get}
use Rattle.weights.specs.Algebra.{Algebra}
use Rattle.carriers.specs.Carrier.{Carrier}
use Rattle.stepping.specs.declared.Label.{Label}
use Rattle.stepping.specs.Labels.{Labels}
use Rattle.stepping.specs.Candidates.{inside, onward}
use Rattle.stepping.specs.Ways.{destined, linked}
use Rattle.stepping.proofs.Places.{nth_take}
use Rattle.stepping.specs.declared.Run.{Run}
use Rattle.histories.proofs.Layers.{Layer, Stacked, Entries, Agrees}
use Rattle.histories.proofs.Roots.{Rooted}
use Rattle.histories.proofs.Traced.{TracedOver, AllTraced, traced_end, traced_along, traced_onto}

module _ (A : Algebra) (b : A.Weight) (t : ℕ) (cs : List (Carrier A.Weight)) (rs : List Run) (m : Labels A) where
  module _
      (l : Layer A.Weight)
      (ls : List (Layer A.Weight))
      (below : AllTraced A b t cs rs m ls)
      (st : Stacked A b t (l ∷ ls))
      (en : Entries ls)
      (ag : Agrees cs (l ∷ ls))
      (ro : Rooted rs m (l ∷ ls))
    where
      -- n is above k: what a label was made of has a lower index
      traced_to : (n k : ℕ) (u : Label A.Weight) → k < n → slice_get l.run k ≡ Some u
          → TracedOver A b t cs rs m ls k u
      traced_to zero k u h g = absurd (omega arith)
      traced_to (suc n) k u h g =
          let r = ro.0 k u g in
          elim (st.0.ended.sound k u g).origin [
            | destined d q ↦ traced_end A b t cs rs m l ls k u r d q
            | linked c ↦
                elim c [
                  | inside p e i z f s a w q ↦
                      let low = nth_take k l.run i z a in
                      let j = low.0 in
                      traced_along A b t cs rs m l ls st.0 ag k u r p e i z f s j w q
                      (traced_to n i z (omega arith) low.1)
                  | onward p e i z f s a w o q ↦
                      traced_onto A b t cs rs m l ls st.0 ag k u r p e i z f s a w o q below st.1 en
                ]
          ]

      traced_at : (k : ℕ) (u : Label A.Weight) → slice_get l.run k ≡ Some u → TracedOver A b t cs rs m ls k u
      traced_at k u g = traced_to (suc k) k u (omega arith) g

  all_traced : (ls : List (Layer A.Weight)) → Stacked A b t ls → Entries ls → Agrees cs ls → Rooted rs m ls
      → AllTraced A b t cs rs m ls
  all_traced [] st en ag ro = tt
  all_traced (l ∷ ls) st en ag ro =
      traced_at l ls (all_traced ls st.1 en.1 ag.1 ro.1) st en.1 ag ro

  -- the latest layer may mark other nodes than entries
  pub traced : (l : Layer A.Weight) (ls : List (Layer A.Weight)) → Stacked A b t (l ∷ ls) → Entries ls
      → Agrees cs (l ∷ ls) → Rooted rs m (l ∷ ls) → (k : ℕ) (y : Label A.Weight) → slice_get l.run k ≡ Some y
      → TracedOver A b t cs rs m ls k y
  traced l ls st en ag ro = traced_at l ls (all_traced ls st.1 en ag.1 ro.1) st en ag ro
