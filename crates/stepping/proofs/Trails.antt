-- How long a run can be: following nexts from a label never comes to a node twice, so that each label of a run
-- has the node and weight of some label that links make in no more rounds than there are nodes.
use Rattle.std.proofs.Common.{◌≡◌, ℕ, zero, suc, ◌+◌, ◌<◌, ◌≤◌, T, List, [], ◌∷◌, length, take, Some, sym, refl, ap, ◌∙◌, subst, inl, inr, arith}
use Rattle.std.specs.List.{ContainsAt as Has, slice_get}
use Rattle.std.proofs.lemmas.Bool.{cases_order}
use Rattle.weights.specs.Algebra.{Algebra, Laws}
use Rattle.stepping.specs.declared.Label.{Label}
use Rattle.stepping.specs.Labels.{Labels}
use Rattle.stepping.specs.View.{View}
use Rattle.stepping.specs.Candidates.{made, Candidate, inside, onward}
use Rattle.stepping.specs.Ways.{Origin, destined, linked}
use Rattle.stepping.proofs.Places.{none_some, some_same, nth_take}
use Rattle.stepping.proofs.Matches.{matched_le, Once, once_more, once_le}
use Rattle.stepping.proofs.Runs.{Growing}
use Rattle.stepping.proofs.Nodes.{nodes, nodes_destination, nodes_tail}
use Rattle.stepping.proofs.Rounds.{rounds}
use Rattle.stepping.proofs.Found.{Alike, Found, found_destination, found_candidate}

module _ (A : Algebra) (laws : Laws A) (V : View A) (run : Labels A) (g : Growing A V run) where
  -- a label at v with an index below k that is as good as x
  abbrev Under : ℕ → A.Weight → ℕ → Type 0
  Under k x v = (j : ℕ) × (y : Label A.Weight) × (slice_get run j ≡ Some y) × (j < k) × (y.node ≡ v) × T (A.good y.weight x)

  -- the nodes of a label, of its next, and so on
  record Trail (k : ℕ) (l : Label A.Weight) : Type 0 where
    visited : List ℕ
    once : Once visited
    real : (i v : ℕ) → slice_get visited i ≡ Some v → Has (nodes A V) v
    under : (i v : ℕ) → slice_get visited i ≡ Some v → Under (suc k) l.weight v
    reached : (m : ℕ) → length visited ≤ m → Found (rounds A V m) l

  grow : (k : ℕ) (l : Label A.Weight) (t : List ℕ) → slice_get run k ≡ Some l → Has (nodes A V) l.node → Once t
      → ((i v : ℕ) → slice_get t i ≡ Some v → Has (nodes A V) v)
      → ((i v : ℕ) → slice_get t i ≡ Some v → Under k l.weight v)
      → ((m : ℕ) → length t ≤ m → Found (rounds A V (suc m)) l) → Trail k l
  grow k l t e here once real under reached =
      record {
        visited = l.node ∷ t;
        once = once_more l.node t
            (λ i f. let u = under i l.node f in g.apart u.0 k u.1 l u.2 e u.3 u.4 u.5)
            once;
        real = elim [ zero ↦ λ v f. subst (Has (nodes A V)) (some_same l.node v f) here | suc i ↦ λ v f. real i v f ];
        under = elim [
          | zero ↦ λ v f. (k, l, e, omega arith, some_same l.node v f, laws.good_refl l.weight)
          | suc i ↦ λ v f.
              let u = under i v f in
              let b = u.3 in
              (u.0, u.1, u.2, omega arith, u.4, u.5)
        ];
        reached = elim [ zero ↦ λ h. absurd (omega arith) | suc m ↦ λ h. reached m (omega arith) ];
      }

  trail_linked : (k : ℕ) (l : Label A.Weight) → slice_get run k ≡ Some l
      → ((i : ℕ) (y : Label A.Weight) → i < k → slice_get run i ≡ Some y → Trail i y)
      → Candidate A V (take k run) l → Trail k l
  trail_linked k l e ih (inside p b i y h s f n q) =
      let at = nth_take k run i y f in
      let low = at.0 in
      let c = ih i y at.0 at.1 in
      let better : T (A.good y.weight l.weight) =
      subst (λ z. T (A.good y.weight z.weight)) q (laws.join_right b.weight y.weight) in
      grow k l c.visited e
      (subst (λ z. Has (nodes A V) z.node) q (nodes_tail A V p b h))
      c.once
      c.real
      (λ j v o.
      let u = c.under j v o in
      let d = u.3 in
      (u.0, u.1, u.2, omega arith, u.4, laws.good_trans u.1.weight y.weight l.weight u.5 better))
      (λ m o.
      let r = c.reached m o in
      found_candidate A V m l
      (made A V p b (V.start + r.0) r.1)
      (inside p b r.0 r.1 h s r.2 (sym r.3.0 ∙ n) refl)
      (ap (λ z. z.node) q)
      (ap (λ z. A.join b.weight z) (sym r.3.1) ∙ ap (λ z. z.weight) q))
  trail_linked k l e ih (onward p b i y h s f n t q) =
      grow k l [] e
      (subst (λ z. Has (nodes A V) z.node) q (nodes_tail A V p b h))
      (λ i j v o. none_some v o)
      (λ i v o. none_some v o)
      (λ i v o. none_some v o)
      (λ m o.
      found_candidate A V m l
      (made A V p b (V.before_start + i) y)
      (onward p b i y h s f n t refl)
      (ap (λ z. z.node) q)
      (ap (λ z. z.weight) q))

  trail_from : (k : ℕ) (l : Label A.Weight) → slice_get run k ≡ Some l
      → ((i : ℕ) (y : Label A.Weight) → i < k → slice_get run i ≡ Some y → Trail i y) → Origin A V run k l
      → Trail k l
  trail_from k l e ih (destined t q) =
      grow k l [] e
      (nodes_destination A V l.node t)
      (λ i j v o. none_some v o)
      (λ i v o. none_some v o)
      (λ i v o. none_some v o)
      (λ m o. found_destination A V m l t (ap (λ z. z.weight) q))
  trail_from k l e ih (linked c) = trail_linked k l e ih c

  trail : (n k : ℕ) (l : Label A.Weight) → k < n → slice_get run k ≡ Some l → Trail k l
  trail zero k l h e = absurd (omega arith)
  trail (suc n) k l h e = trail_from k l e (λ i y b f. trail n i y (omega arith) f) (g.sound k l e).origin

  pub run_bounded : length run ≤ length (rounds A V (length (nodes A V)))
  run_bounded =
      matched_le Alike run (rounds A V (length (nodes A V)))
      (λ i x e.
      let c = trail (suc i) i x (omega arith) e in
      c.reached (length (nodes A V)) (once_le c.visited (nodes A V) c.once c.real))
      (λ i j x z y e f p q.
      let n : x.node ≡ z.node = p.0 ∙ sym q.0 in
      let w : x.weight ≡ z.weight = p.1 ∙ sym q.1 in
      elim (cases_order i j) [
        | inl o ↦ o
        | inr o ↦
            absurd (elim o [
              | inl b ↦ g.apart i j x z e f b n (subst (λ u. T (A.good x.weight u)) w (laws.good_refl x.weight))
              | inr b ↦ g.apart j i z x f e b (sym n) (subst (λ u. T (A.good u x.weight)) w (laws.good_refl x.weight))
            ])
      ])
