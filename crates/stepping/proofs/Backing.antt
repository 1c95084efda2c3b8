-- A label that is settled stands for a way, which it records; and goes on to, as more labels are settled.
use Rattle.std.proofs.Common.{◌≡◌, ℕ, ◌+◌, ◌<◌, ◌≤◌, true, List, [], ◌∷◌, ◌++◌, length, Some, Option, sym, refl, ap, subst, inl, inr, arith}
use Rattle.std.specs.List.{slice_get}
use Rattle.std.proofs.lemmas.List.{take_at, take-append-le}
use Rattle.std.proofs.lemmas.Option.{slice_get_within}
use Rattle.weights.specs.Algebra.{Algebra}
use Rattle.stepping.specs.declared.Label.{Label}
use Rattle.stepping.specs.Labels.{Labels}
use Rattle.stepping.specs.View.{View}
use Rattle.stepping.specs.Candidates.{made, Candidate, inside, onward}
use Rattle.stepping.specs.Crossing.{counts}
use Rattle.stepping.specs.Ways.{Way, along, onto, Records, stops, goes, leaves, Origin, destined, linked}
use Rattle.stepping.specs.Domain.{Backed}
use Rattle.stepping.proofs.Places.{push_cases, push_old}
use Rattle.stepping.proofs.Covers.{counts_within}
use Rattle.stepping.proofs.First.{candidate_marked}

abbrev pub AllBacked : (A : Algebra) (V : View A) → Labels A → Type 0
AllBacked A V run = (k : ℕ) (l : Label A.Weight) → slice_get run k ≡ Some l → Backed A V run k l

record Recorded (A : Algebra) (V : View A) (run : Labels A) (l : Label A.Weight) : Type 0 where
  hops : List ℕ
  last : Option ℕ
  way : Way A V l.node l.weight hops last
  records : Records A V run l hops last

module _ (A : Algebra) (V : View A) (run : Labels A) (c : Label A.Weight) where
  records_push : {l : Label A.Weight} {hops : List ℕ} {last : Option ℕ} → Records A V run l hops last
      → Records A V (run ++ c ∷ []) l hops last
  records_push (stops a b) = stops a b
  records_push (goes k y f n s) = goes k y (push_old run c k y f) n (records_push s)
  records_push (leaves k y f n) = leaves k y f n

  origin_push : (k : ℕ) (l : Label A.Weight) → k ≤ length run → Origin A V run k l
      → Origin A V (run ++ c ∷ []) k l
  origin_push k l h (destined t e) = destined t e
  origin_push k l h (linked d) =
      linked (subst (λ z. Candidate A V z l) (sym (take-append-le k run (c ∷ []) h)) d)

  backed_push : (k : ℕ) (l : Label A.Weight) → k ≤ length run → Backed A V run k l
      → Backed A V (run ++ c ∷ []) k l
  backed_push k l h b =
      record {
        hops = b.hops;
        last = b.last;
        way = b.way;
        within = b.within;
        records = records_push b.records;
        origin = origin_push k l h b.origin;
        below = b.below;
        marked = b.marked;
      }

  recorded : AllBacked A V run → Candidate A V run c → Recorded A V run c
  recorded backed (inside p l k y h s e n q) =
      let b = backed k y e in
      let it : Recorded A V run (made A V p l (V.start + k) y) =
      record {
        hops = p ∷ b.hops;
        last = b.last;
        way = along p l y.weight h s (subst (λ v. Way A V v y.weight b.hops b.last) n b.way) refl refl;
        records = goes k y e refl b.records;
      } in
      subst (Recorded A V run) q it
  recorded backed (onward p l k y h s e n m q) =
      let it : Recorded A V run (made A V p l (V.before_start + k) y) =
      record {
        hops = p ∷ [];
        last = Some (V.before_start + k);
        way = onto p l k y h s e n m refl refl;
        records = leaves k y e refl;
      } in
      subst (Recorded A V run) q it

  next_below : Candidate A V run c → V.before_start + length V.before ≤ V.start
      → c.next < V.start + length run
  next_below (inside p l k y h s e n q) b =
      let at = ap (λ z. z.next) q in
      let low = slice_get_within run k y e in
      omega arith
  next_below (onward p l k y h s e n m q) b =
      let at = ap (λ z. z.next) q in
      let low = slice_get_within V.before k y e in
      omega arith

  backed_new : AllBacked A V run → Candidate A V run c → counts A V run c ≡ true
      → Backed A V (run ++ c ∷ []) (length run) c
  backed_new backed d t =
      let r = recorded backed d in
      record {
        hops = r.hops;
        last = r.last;
        way = r.way;
        within = counts_within A V run c t;
        records = records_push r.records;
        origin = linked (subst (λ z. Candidate A V z c) (sym (take_at run (c ∷ []) (length run) refl)) d);
        below = λ h. inr (next_below d h);
        marked = candidate_marked A V run c d;
      }

  pub all_backed_push : AllBacked A V run → Candidate A V run c → counts A V run c ≡ true
      → AllBacked A V (run ++ c ∷ [])
  all_backed_push backed d t k l e =
      elim (push_cases run c k l e) [
        | inl o ↦ backed_push k l (let h = slice_get_within run k l o in omega arith) (backed k l o)
        | inr o ↦
            subst
            (Backed A V (run ++ c ∷ []) k)
            o.1
            (subst (λ i. Backed A V (run ++ c ∷ []) i c) (sym o.0) (backed_new backed d t))
      ]
