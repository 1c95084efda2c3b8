-- When a run covers a weight at a node, and so when a candidate counts.
use Rattle.std.proofs.Common.{◌≡◌, ℕ, zero, suc, Bool, true, false, not, ◌&&◌, T, eqb, [], ◌∷◌, ◌++◌, Some, refl, inl, inr}
use Rattle.std.specs.List.{slice_get}
use Rattle.std.proofs.lemmas.Bool.{eqb-true, eq-eqb, and_parts, and_from, and_cases, or_cases, or_parts, or_from, not-true, not-false, not_from_false, both_ways}
use Rattle.std.proofs.lemmas.Float.{T_from_true}
use Rattle.weights.specs.Algebra.{Algebra}
use Rattle.stepping.specs.declared.Label.{Label}
use Rattle.stepping.specs.Labels.{Labels}
use Rattle.stepping.specs.View.{View}
use Rattle.stepping.specs.Crossing.{covers, counts}
use Rattle.stepping.specs.Domain.{Covered}
use Rattle.stepping.proofs.Tests.{T_true, false_T}
use Rattle.stepping.proofs.Places.{none_some, some_same}

module _ (A : Algebra) (v : ℕ) (w : A.Weight) where
  abbrev here : Label A.Weight → Bool
  here l = eqb l.node v && A.good l.weight w

  covers_found : (run : Labels A) → covers A run v w ≡ true → Covered A run v w
  covers_found [] e = absurd (both_ways false refl e)
  covers_found (l ∷ ls) e =
      elim (or_cases (here l) (covers A ls v w) e) [
        | inl k ↦
            let both = and_parts (eqb l.node v) (A.good l.weight w) k in
            record {
              index = 0;
              label = l;
              stands = refl;
              there = eqb-true l.node v both.0;
              as_good = T_from_true (A.good l.weight w) both.1;
            }
        | inr k ↦
            let m = covers_found ls k in
            record { index = suc m.index; label = m.label; stands = m.stands; there = m.there; as_good = m.as_good }
      ]

  covers_none : (run : Labels A) → covers A run v w ≡ false → (k : ℕ) (l : Label A.Weight)
      → slice_get run k ≡ Some l → l.node ≡ v → T (A.good l.weight w) → ⊥
  covers_none [] e k l s n g = none_some l s
  covers_none (m ∷ ms) e zero l s n g =
      let same = some_same m l s in
      both_ways
      (here m)
      (or_parts (here m) (covers A ms v w) e).0
      (rw same (and_from (eqb l.node v) (A.good l.weight w) (eq-eqb l.node v n) (T_true (A.good l.weight w) g)))
  covers_none (m ∷ ms) e (suc k) l s n g = covers_none ms (or_parts (here m) (covers A ms v w) e).1 k l s n g

  covers_push : (run : Labels A) (c : Label A.Weight) → covers A (run ++ c ∷ []) v w ≡ false
      → covers A run v w ≡ false
  covers_push [] c e = refl
  covers_push (l ∷ ls) c e =
      let parts = or_parts (here l) (covers A (ls ++ c ∷ []) v w) e in
      or_from (here l) (covers A ls v w) parts.0 (covers_push ls c parts.1)

module _ (A : Algebra) (V : View A) (run : Labels A) (d : Label A.Weight) where
  abbrev within : Bool
  within = A.good d.weight V.bounds

  abbrev covered : Bool
  covered = covers A run d.node d.weight

  pub counts_within : counts A V run d ≡ true → T (A.good d.weight V.bounds)
  counts_within e = T_from_true within (and_parts within (not covered) e).0

  pub counts_apart : counts A V run d ≡ true → (k : ℕ) (l : Label A.Weight) → slice_get run k ≡ Some l
      → l.node ≡ d.node → T (A.good l.weight d.weight) → ⊥
  counts_apart e = covers_none A d.node d.weight run (not-true covered (and_parts within (not covered) e).1)

  pub counts_covered : counts A V run d ≡ false → T (A.good d.weight V.bounds)
      → Covered A run d.node d.weight
  counts_covered e b =
      elim (and_cases within (not covered) e) [
        | inl k ↦ absurd (false_T within k b)
        | inr k ↦ covers_found A d.node d.weight run (not-false covered k)
      ]

  -- what counts when there is one label more counts before
  pub counts_push : (c : Label A.Weight) → counts A V (run ++ c ∷ []) d ≡ true → counts A V run d ≡ true
  counts_push c e =
      let more = covers A (run ++ c ∷ []) d.node d.weight in
      let parts = and_parts within (not more) e in
      and_from
      within
      (not covered)
      parts.0
      (not_from_false covered (covers_push A d.node d.weight run c (not-true more parts.1)))
