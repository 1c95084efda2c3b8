-- The theorem on what the labels of a run that ended say of the carrier crossed.
use Rattle.std.proofs.Common.{◌≡◌, ℕ, ◌+◌, T, List, None, Option, sym, refl, ◌∙◌, subst, inl, inr}
use Rattle.std.proofs.lemmas.Bool.{cases_order}
use Rattle.weights.specs.Algebra.{Algebra, Laws}
use Rattle.stepping.specs.declared.Label.{Label}
use Rattle.stepping.specs.Labels.{Labels}
use Rattle.stepping.specs.View.{View}
use Rattle.stepping.specs.Candidates.{made, Candidate, inside, onward}
use Rattle.stepping.specs.Crossing.{first}
use Rattle.stepping.specs.Ways.{Way, arrived, along, onto}
use Rattle.stepping.specs.Domain.{Covered, Ended, PerDomain}
use Rattle.stepping.proofs.Weights.{not_good_back}
use Rattle.stepping.proofs.Covers.{counts_covered}
use Rattle.stepping.proofs.First.{first_none}
use Rattle.stepping.proofs.Settling.{crossing_keeps}
use Rattle.stepping.proofs.Runs.{Growing, growing_step, growing_begun}

module _ (A : Algebra) (laws : Laws A) (V : View A) (run : Labels A) (g : Growing A V run) (end : first A V run ≡ None) where
  -- what is as good as a candidate within the bounds is covered where the candidate is
  covered_by : (d : Label A.Weight) (v : ℕ) (x : A.Weight) → Candidate A V run d → d.node ≡ v
      → T (A.good d.weight x) → T (A.good x V.bounds) → Covered A run v x
  covered_by d v x c n h b =
      let m = counts_covered A V run d (first_none A V run end d c) (laws.good_trans d.weight x V.bounds h b) in
      record {
        index = m.index;
        label = m.label;
        stands = m.stands;
        there = m.there ∙ n;
        as_good = laws.good_trans m.label.weight d.weight x m.as_good h;
      }

  complete : (v : ℕ) (x : A.Weight) (hops : List ℕ) (last : Option ℕ) → Way A V v x hops last
      → T (A.good x V.bounds) → Covered A run v x
  complete v x hops last (arrived t e) b = subst (Covered A run v) e (g.begun v t)
  complete v x hops last (along p l y h s w t j) b =
      let less : T (A.good y x) = subst (λ z. T (A.good y z)) j (laws.join_right l.weight y) in
      let m = complete l.head y _ _ w (laws.good_trans y x V.bounds less b) in
      covered_by
      (made A V p l (V.start + m.index) m.label)
      v
      x
      (inside p l m.index m.label h s m.stands m.there refl)
      t
      (subst (λ z. T (A.good (A.join l.weight m.label.weight) z)) j (laws.good_join m.label.weight y l.weight m.as_good))
      b
  complete v x hops last (onto p l k y h s e n m t j) b =
      covered_by
      (made A V p l (V.before_start + k) y)
      v
      x
      (onward p l k y h s e n m refl)
      t
      (subst (λ z. T (A.good (A.join l.weight y.weight) z)) j (laws.good_refl (A.join l.weight y.weight)))
      b

  ended : Ended A V run
  ended =
      record {
        sound = g.sound;
        complete = complete;
        apart = λ i j x y a b ne n h.
            elim (cases_order i j) [
              | inl o ↦ ne o
              | inr q ↦
                  elim q [
                    | inl o ↦ g.apart i j x y a b o n h
                    | inr o ↦ not_good_back A laws y.weight x.weight (g.ordered j i y x b a o) (g.apart j i y x b a o (sym n)) h
                  ]
            ];
        ordered = g.ordered;
      }

pub domain_theorem : (A : Algebra) → Laws A → PerDomain A
domain_theorem A laws V n run e =
    let h = crossing_keeps A V (Growing A V) (growing_step A laws V) n run (growing_begun A laws V) e in
    ended A laws V run h.0 h.1
