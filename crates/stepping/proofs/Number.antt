-- The theorem on which weights the labels of a run that ended have, and how many labels there are.
use Rattle.std.proofs.Common.{◌≡◌, ℕ, ◌<◌, T, eqb, List, length, Some, filter, Option, sym, ap, ◌∙◌, subst, inl, inr, arith}
use Rattle.std.specs.List.{slice_get}
use Rattle.std.proofs.lemmas.Bool.{cases_eq, cases_Bool, cases_order, eqb-true, eq-eqb}
use Rattle.std.proofs.lemmas.Float.{T_from_true}
use Rattle.weights.specs.Algebra.{Algebra, Laws}
use Rattle.stepping.specs.declared.Label.{Label}
use Rattle.stepping.specs.Labels.{Labels}
use Rattle.stepping.specs.View.{View}
use Rattle.stepping.specs.Ways.{Way, arrived, along, onto}
use Rattle.stepping.specs.Domain.{Ended}
use Rattle.stepping.specs.Number.{NonDominated, Lists, Within, Numbered, Number, weights_at}
use Rattle.stepping.proofs.Tests.{false_T}
use Rattle.stepping.proofs.Places.{some_same, Pairs}
use Rattle.stepping.proofs.Kept.{map_from, map_to, kept_from, kept_to, kept_pairs}
use Rattle.stepping.proofs.Matches.{lists_length}
use Rattle.stepping.proofs.Totals.{total_same, length_total}
use Rattle.stepping.proofs.Ended.{domain_theorem}

module _ (A : Algebra) (laws : Laws A) (V : View A) (run : Labels A) (f : Ended A V run) where
  pub label_unbeaten : (k : ℕ) (l : Label A.Weight) → slice_get run k ≡ Some l
      → NonDominated A V l.node l.weight
  label_unbeaten k l e =
      let b = f.sound k l e in
      record {
        hops = b.hops;
        last = b.last;
        way = b.way;
        within = b.within;
        unbeaten = λ y hs o w i g.
            let m = f.complete l.node y hs o w i in
            elim (cases_eq m.index k) [
              | inl q ↦
                  let same : m.label ≡ l = some_same m.label l (sym m.stands ∙ (ap (slice_get run) q ∙ e)) in
                  g.1 (laws.good_antisym y l.weight g.0 (subst (λ z. T (A.good z.weight y)) same m.as_good))
              | inr q ↦
                  f.apart m.index k m.label l m.stands e q m.there
                  (laws.good_trans m.label.weight y l.weight m.as_good g.0)
            ];
      }

  pub unbeaten_label : (v : ℕ) (x : A.Weight) → NonDominated A V v x
      → (k : ℕ) × (l : Label A.Weight) × (slice_get run k ≡ Some l) × (l.node ≡ v) × (l.weight ≡ x)
  unbeaten_label v x n =
      let m = f.complete v x n.hops n.last n.way n.within in
      let l = m.label in
      let b = f.sound m.index l m.stands in
      let same : l.weight ≡ x =
      elim (cases_Bool (A.good x l.weight)) [
        | inl t ↦ laws.good_antisym l.weight x m.as_good (T_from_true (A.good x l.weight) t)
        | inr t ↦
            absurd (n.unbeaten l.weight b.hops b.last
            (subst (λ u. Way A V u l.weight b.hops b.last) m.there b.way)
            b.within
            (m.as_good, λ q. false_T (A.good x l.weight) t (subst (λ z. T (A.good x z)) (sym q) (laws.good_refl x))))
      ] in
      (m.index, l, m.stands, m.there, same)

  abbrev Unlike : Label A.Weight → Label A.Weight → Type 0
  Unlike x y = x.node ≡ y.node → x.weight ≡ y.weight → ⊥

  unlike : Pairs Unlike run
  unlike i j x y a b h n w =
      f.apart i j x y a b (λ q. omega arith) n (subst (λ z. T (A.good x.weight z)) w (laws.good_refl x.weight))

  module _ (v : ℕ) where
    each_once : (i j : ℕ) (x : A.Weight) → slice_get (weights_at v run) i ≡ Some x
        → slice_get (weights_at v run) j ≡ Some x → i < j → ⊥
    each_once i j x a b h =
        let there = filter (λ l. eqb l.node v) run in
        let p = map_from (λ l. l.weight) there i x a in
        let q = map_from (λ l. l.weight) there j x b in
        let s = kept_from (λ l. eqb l.node v) run i p.0 p.1 in
        let t = kept_from (λ l. eqb l.node v) run j q.0 q.1 in
        kept_pairs (λ l. eqb l.node v) Unlike run unlike i j p.0 q.0 p.1 q.1 h
        (eqb-true p.0.node v s.2 ∙ sym (eqb-true q.0.node v t.2))
        (p.2 ∙ sym q.2)

    pub each : Lists (NonDominated A V v) (weights_at v run)
    each =
        let there = filter (λ l. eqb l.node v) run in
        record {
          sound = λ k x e.
              let p = map_from (λ l. l.weight) there k x e in
              let s = kept_from (λ l. eqb l.node v) run k p.0 p.1 in
              subst (NonDominated A V v) p.2
              (subst
              (λ u. NonDominated A V u p.0.weight)
              (eqb-true p.0.node v s.2)
              (label_unbeaten s.0 p.0 s.1));
          complete = λ x n.
              let h = unbeaten_label v x n in
              let k = kept_to (λ l. eqb l.node v) run h.0 h.1 h.2 (eq-eqb h.1.node v h.3) in
              (k.0, map_to (λ l. l.weight) there k.0 h.1 k.1 ∙ ap Some h.4);
          once = λ i j x a b.
              elim (cases_order i j) [
                | inl o ↦ o
                | inr o ↦ absurd (elim o [ inl h ↦ each_once i j x a b h | inr h ↦ each_once j i x b a h ])
              ];
        }

  way_within : (n : ℕ) → Within A V n → {v : ℕ} {x : A.Weight} {hops : List ℕ} {last : Option ℕ}
      → Way A V v x hops last → v < n
  way_within n h {v} (arrived t e) = h.destination v t
  way_within n h (along p l y e s w t j) = subst (λ u. u < n) t (h.tails p l e)
  way_within n h (onto p l k y e s q d m t j) = subst (λ u. u < n) t (h.tails p l e)

  numbered : Numbered A V run
  numbered =
      record {
        each = each;
        number = λ n h ws ews.
            length_total n run (λ k l e. way_within n h (f.sound k l e).way)
            ∙ total_same n
            (λ v. length (weights_at v run))
            (λ v. length (ws v))
            (λ v b. lists_length (NonDominated A V v) (weights_at v run) (ws v) (each v) (ews v b));
      }

pub number_theorem : (A : Algebra) → Laws A → Number A
number_theorem A laws V n run e = numbered A laws V run (domain_theorem A laws V n run e)
