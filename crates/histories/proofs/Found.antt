-- What a request has found at a node whose labels the latest crossing marked.
use Rattle.std.proofs.Common.{◌≡◌, ℕ, ◌+◌, ltb, List, ◌∷◌, length, Some, Ok, sym, ◌∙◌, subst, arith, length-append}
use Rattle.std.proofs.lemmas.Option.{slice_get_within}
use Rattle.std.specs.List.{slice_get}
use Rattle.std.proofs.lemmas.Bool.{lt-ltb, le-ltb, cond-true, cond-false}
use Rattle.weights.specs.Algebra.{Algebra, Laws}
use Rattle.carriers.specs.Carrier.{Carrier}
use Rattle.stepping.specs.Labels.{Labels}
use Rattle.stepping.proofs.Kept.{map_from}
use Rattle.histories.specs.declared.Item.{Item}
use Rattle.histories.specs.declared.Hop.{Hop}
use Rattle.histories.specs.Stages.{Progress, Stage}
use Rattle.histories.specs.Expansion.{into, on_expand}
use Rattle.histories.specs.Routes.{Route}
use Rattle.histories.specs.Histories.{State}
use Rattle.histories.specs.Promise.{Query, Weighs, Front, Shown, weights, Routed, Found}
use Rattle.histories.proofs.Layers.{flat}
use Rattle.histories.proofs.Roots.{Rooted, rooted}
use Rattle.histories.proofs.Traces.{traced}
use Rattle.histories.proofs.Items.{item_of, items_from}
use Rattle.histories.proofs.Fronts.{same_front}
use Rattle.histories.proofs.Grown.{used_is}
use Rattle.histories.proofs.Marked.{Marked, query_of, its, ended, agree, chain_length, complete, ascending, apart}
use Rattle.histories.proofs.Asked.{Begun, expand_is, item_is, count_is}

module _
    (A : Algebra) (laws : Laws A) (cs : List (Carrier A.Weight)) (p : Progress A.Weight) (m : Labels A) (v : ℕ)
    (h : Marked A cs p m v)
    (s : Stage A.Weight)
    (begun : Begun s p)
  where
    abbrev now : State A.Weight
    now = record { stage = s; labels = m }

    abbrev listed : List (Item A.Weight)
    listed = its A laws cs p m v h

    abbrev query : Query A
    query = query_of A cs p v

    pub shown : (k : ℕ) (it : Item A.Weight) → slice_get listed k ≡ Some it → Shown A query now it
    shown k it e =
        let start = length (flat h.layers) in
        let o = items_from v h.top.run start k it e in
        let y = o.label in
        let ro : Rooted p.runs m (h.top ∷ h.layers) =
        subst
        (λ rs. Rooted rs m (h.top ∷ h.layers))
        (sym h.built.runs_are)
        (rooted (h.top ∷ h.layers) m h.built.rest h.built.memory_is) in
        let t =
        traced A p.bounds p.destination cs p.runs m h.top h.layers
        h.built.stacked
        h.entries
        (agree A laws cs p m v h)
        ro
        o.index
        y
        o.stands in
        let low = slice_get_within h.top.run o.index y o.stands in
        let u = used_is A laws cs p m (h.top ∷ h.layers) h.built in
        let n = length-append (flat h.layers) h.top.run in
        let all : (slice : List Hop) → on_expand s (start + o.index) m slice ≡ into slice (Ok t.hops) =
        λ slice.
        expand_is A cs p m h.top h.layers h.built s begun (start + o.index) t.hops slice
        (omega arith)
        t.follows in
        let got : Shown A query now (item_of y (start + o.index)) =
        record {
          hops = t.hops;
          weighs = record {
            last = length h.layers;
            is_last = chain_length A laws cs p m v h;
            route = subst
                (λ w. Route A cs p.destination (length h.layers) w t.hops y.weight)
                o.there
                t.route;
            within = ((ended A laws cs p m v h).sound o.index y o.stands).within;
          };
          expands = λ slice l.
              all slice ∙ cond-false (ltb (length slice) (length t.hops)) _ _ (le-ltb (length slice) (length t.hops) l);
          short = λ slice l.
              all slice ∙ cond-true (ltb (length slice) (length t.hops)) _ _ (lt-ltb (length slice) (length t.hops) l);
        } in
        subst (Shown A query now) o.is got

    pub front : Front A (Routed A query) (weights listed)
    front =
        record {
          ascending = ascending A laws cs p m v h;
          sound = λ i x e.
              let a = map_from (λ it. it.weight) listed i x e in
              let t = shown i a.0 a.1 in
              (t.hops, subst (Weighs A query t.hops) a.2 t.weighs);
          complete = complete A laws cs p m v h;
          apart = apart A laws cs p m v h;
        }

    abbrev pub found : Found A query now
    found =
        record {
          listed = listed;
          items = item_is A cs p m h.top h.layers h.built s begun v;
          count = count_is A cs p m h.top h.layers h.built s begun v;
          front = front;
          only = λ ws f. same_front A laws (Routed A query) (weights listed) ws front f;
          shown = shown;
        }
