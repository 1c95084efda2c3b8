-- The theorems on what a request has found, after every history.
use Rattle.std.proofs.Common.{◌≡◌, ℕ, zero, suc, true, T, List, [], ◌∷◌, length, Some, sym, refl, ap, ◌∙◌, subst, inl, inr, arith, None, Option}
use Rattle.std.proofs.lemmas.Option.{slice_get_within}
use Rattle.std.specs.List.{slice_get}
use Rattle.std.proofs.lemmas.Bool.{eq-eqb, cases_order}
use Rattle.weights.specs.Algebra.{Algebra, Laws}
use Rattle.carriers.specs.Carrier.{Carrier}
use Rattle.stepping.specs.Labels.{Labels}
use Rattle.stepping.proofs.Tests.{T_true}
use Rattle.stepping.proofs.Kept.{map_from}
use Rattle.histories.specs.Stages.{Progress, Stage, opened, finished}
use Rattle.histories.specs.Calls.{routes_of}
use Rattle.histories.specs.Histories.{Log, State, chain}
use Rattle.histories.specs.Promise.{Query, Routed, Found, Promise, Finished, FinishedAsTold, SoFar, Underway, UnderwayAsTold, Unchanged}
use Rattle.histories.proofs.Places.{nth_some}
use Rattle.histories.proofs.Layers.{Layer, Entries, agrees, length_carriers}
use Rattle.histories.proofs.Reached.{same_carrier}
use Rattle.histories.proofs.Standing.{told, Built, Open, Closed, Stands}
use Rattle.histories.proofs.Phases.{staged_theorem, is_open, is_finished}
use Rattle.histories.proofs.Histories.{same_state, stands}
use Rattle.histories.proofs.Marked.{Marked, query_of}
use Rattle.histories.proofs.Found.{found}

listed_none : (n k : ℕ) → ◌≡◌ {A = Option ℕ} (Some n) None → k ≡ 0
listed_none n k e = absurd (cc e)

none_of : (n : ℕ) → routes_of n ≡ None → n ≡ 0
none_of zero e = refl
none_of (suc n) e = listed_none (suc n) (suc n) e

some_of : (n : ℕ) → (routes_of n ≡ None → ⊥) → routes_of n ≡ Some n
some_of zero h = absurd (h refl)
some_of (suc n) h = refl

module _ (A : Algebra) (q : Query A) (r : State A.Weight) (f : Found A q r) where
  -- nothing is listed where there is no route, and only there
  no_route : length f.listed ≡ 0 → (x : A.Weight) → Routed A q x → ⊥
  no_route e x w =
      let c = f.front.complete x w in
      let it = map_from (λ it. it.weight) f.listed c.0 c.1 c.2 in
      let low = slice_get_within f.listed c.0 it.0 it.1 in
      omega arith

  nothing_listed : ((x : A.Weight) → Routed A q x → ⊥) → length f.listed ≡ 0
  nothing_listed none =
      elim (cases_order (length f.listed) 0) [
        | inl o ↦ o
        | inr o ↦
            absurd (elim o [
              | inl l ↦ omega arith
              | inr l ↦
                  let it = nth_some f.listed 0 l in
                  let s = f.shown 0 it.0 it.1 in
                  none it.0.weight (s.hops, s.weighs)
            ])
      ]

module _ (A : Algebra) (laws : Laws A) (log : Log A.Weight) (p : Progress A.Weight) (m : Labels A) where
  promise : Closed A (told log) p m → Promise A log (record { stage = finished p; labels = m })
  promise h =
      let now : State A.Weight = record { stage = finished p; labels = m } in
      let at : Marked A (chain log) p m h.source =
      record {
        top = h.top;
        layers = h.layers;
        built = h.built;
        entries = h.entries;
        marks = h.marks_are h.source ∙ eq-eqb h.source h.source refl;
      } in
      let q = query_of A (chain log) p h.source in
      let f = found A laws (chain log) p m h.source at (finished p) (λ X x g. refl) in
      record {
        query = q;
        ending = _;
        chain_was = refl;
        open_was = h.open_was;
        finish_was = h.finish_was;
        found = f;
        none_so = λ e. no_route A q now f (none_of (length f.listed) e);
        none_then = λ none. ap routes_of (nothing_listed A q now f none);
        number = some_of (length f.listed);
      }

  so_far : (h : Open A (told log) p m) (layers : List (Layer A.Weight)) → Built A (chain log) p m layers
      → Entries layers → (i : ℕ) (c : Carrier A.Weight) (v : ℕ) → length (chain log) ≡ suc i
      → slice_get (chain log) i ≡ Some c → T (c.entry v)
      → SoFar A log (record { stage = opened p; labels = m }) v
  so_far h [] b en i c v n e o = absurd (let z = ap length b.chain_is in omega arith)
  so_far h (l ∷ ls) b en i c v n e o =
      let z : length (chain log) ≡ suc (length ls) = ap length b.chain_is ∙ length_carriers (l ∷ ls) in
      let same : c ≡ l.carrier =
      same_carrier (chain log) l.carrier c i (length ls) (agrees (l ∷ ls) (chain log) b.chain_is).0 (omega arith) e in
      let marks : l.marks v ≡ true =
      ap (λ f. f v) en.0 ∙ (ap (λ w. w.entry v) (sym same) ∙ T_true (c.entry v) o) in
      let at : Marked A (chain log) p m v =
      record { top = l; layers = ls; built = b; entries = en.1; marks = marks } in
      record {
        query = query_of A (chain log) p v;
        chain_was = refl;
        open_was = h.open_was;
        source_is = refl;
        found = found A laws (chain log) p m v at (opened p) (λ X x g. refl);
      }

module _ (A : Algebra) (laws : Laws A) where
  abbrev at : Labels A → Stage A.Weight → State A.Weight
  at m s = record { stage = s; labels = m }

  pub finished_theorem : Finished A
  finished_theorem log r p hist e =
      let h : Closed A (told log) p r.labels = subst (λ s. Stands A (told log) s r.labels) e (stands A laws hist) in
      subst (λ s. Promise A log (at r.labels s)) (sym e) (promise A laws log p r.labels h)

  pub finished_as_told : FinishedAsTold A
  finished_as_told log r hist told_so =
      let it = is_finished r.stage (staged_theorem A laws log r hist ∙ told_so) in
      finished_theorem log r it.0 hist it.1

  pub underway_theorem : Underway A
  underway_theorem log r p hist e i c v n f o =
      let h : Open A (told log) p r.labels = subst (λ s. Stands A (told log) s r.labels) e (stands A laws hist) in
      subst
      (λ s. SoFar A log (at r.labels s) v)
      (sym e)
      (so_far A laws log p r.labels h h.layers h.built h.entries i c v n f o)

  pub underway_as_told : UnderwayAsTold A
  underway_as_told log r hist told_so =
      let it = is_open r.stage (staged_theorem A laws log r hist ∙ told_so) in
      underway_theorem log r it.0 hist it.1

  pub unchanged_theorem : Unchanged A
  unchanged_theorem log r c why hist e =
      same_state A laws log r.stage c r.labels why (stands A laws hist) e
