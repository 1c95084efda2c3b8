-- What each run keeps while it grows.
use Rattle.std.proofs.Common.{◌≡◌, ℕ, true, T, ◌⊎◌, [], ◌∷◌, ◌++◌, Some, None, Option, sym, refl, ap, ◌∙◌, subst, inl, inr}
use Rattle.std.specs.List.{slice_get}
use Rattle.weights.specs.Algebra.{Algebra, Laws}
use Rattle.carriers.specs.Carrier.{Link}
use Rattle.stepping.specs.declared.Label.{Label}
use Rattle.stepping.specs.Labels.{Labels}
use Rattle.stepping.specs.View.{View}
use Rattle.stepping.specs.Candidates.{Candidate, inside, onward}
use Rattle.stepping.specs.Crossing.{counts, first, arrival, beginning_at, beginning}
use Rattle.stepping.specs.Ways.{arrived, stops, destined}
use Rattle.stepping.specs.Domain.{Backed, Covered}
use Rattle.stepping.proofs.Places.{none_some, some_same, only_same, only_once, push_cases, push_old, Pairs, pairs_push}
use Rattle.stepping.proofs.Weights.{NotBefore, not_before_trans, good_not_before, neutral_good}
use Rattle.stepping.proofs.Covers.{counts_apart, counts_push}
use Rattle.stepping.proofs.Order.{not_after_weight}
use Rattle.stepping.proofs.First.{first_is, first_least}
use Rattle.stepping.proofs.Backing.{AllBacked, all_backed_push}

-- x is before no weight of the run
abbrev pub Behind : (A : Algebra) → Labels A → A.Weight → Type 0
Behind A run x = (k : ℕ) (l : Label A.Weight) → slice_get run k ≡ Some l → NotBefore A x l.weight

pub record Growing (A : Algebra) (V : View A) (run : Labels A) : Type 0 where
  pub sound : AllBacked A V run
  pub apart : Pairs (λ x y. x.node ≡ y.node → T (A.good x.weight y.weight) → ⊥) run
  pub ordered : Pairs (λ x y. NotBefore A y.weight x.weight) run
  pub begun : (v : ℕ) → V.destination ≡ Some v → Covered A run v A.neutral
  pub behind : (d : Label A.Weight) → Candidate A V run d → counts A V run d ≡ true
      → Behind A run d.weight

covered_push : (A : Algebra) (run : Labels A) (c : Label A.Weight) (v : ℕ) (x : A.Weight)
    → Covered A run v x → Covered A (run ++ c ∷ []) v x
covered_push A run c v x m =
    record {
      index = m.index;
      label = m.label;
      stands = push_old run c m.index m.label m.stands;
      there = m.there;
      as_good = m.as_good;
    }

behind_push : (A : Algebra) (run : Labels A) (c : Label A.Weight) (x : A.Weight) → Behind A run x
    → NotBefore A x c.weight → Behind A (run ++ c ∷ []) x
behind_push A run c x b h k l s =
    elim (push_cases run c k l s) [
      | inl o ↦ b k l o
      | inr o ↦ subst (λ z. NotBefore A x z.weight) o.1 h
    ]

-- a new candidate is an old one, or is made of the label just settled
candidate_cases : (A : Algebra) (V : View A) (run : Labels A) (c d : Label A.Weight)
    → Candidate A V (run ++ c ∷ []) d
    → Candidate A V run d ⊎ ((l : Link A.Weight) × (A.join l.weight c.weight ≡ d.weight))
candidate_cases A V run c d (inside p l k y h s e n q) =
    elim (push_cases run c k y e) [
      | inl o ↦ inl (inside p l k y h s o n q)
      | inr o ↦ inr (l, ap (λ z. A.join l.weight z.weight) o.1 ∙ ap (λ z. z.weight) q)
    ]
candidate_cases A V run c d (onward p l k y h s e n m q) = inl (onward p l k y h s e n m q)

module _ (A : Algebra) (laws : Laws A) (V : View A) where
  pub growing_step : (run : Labels A) (c : Label A.Weight) → Growing A V run → first A V run ≡ Some c
      → Growing A V (run ++ c ∷ [])
  growing_step run c g e =
      let new = first_is A V run c e in
      let low = g.behind c new.0 new.1 in
      record {
        sound = all_backed_push A V run c g.sound new.0 new.1;
        apart = pairs_push
            (λ x y. x.node ≡ y.node → T (A.good x.weight y.weight) → ⊥)
            run c g.apart (counts_apart A V run c new.1);
        ordered = pairs_push (λ x y. NotBefore A y.weight x.weight) run c g.ordered low;
        begun = λ v t. covered_push A run c v A.neutral (g.begun v t);
        behind = λ d h t.
            elim (candidate_cases A V run c d h) [
              | inl o ↦
                  let u = counts_push A V run d c t in
                  behind_push A run c d.weight
                  (g.behind d o u)
                  (not_after_weight A laws c d (first_least A V run laws c e d o u))
              | inr o ↦
                  let later : NotBefore A d.weight c.weight =
                  good_not_before A laws c.weight d.weight
                  (subst (λ z. T (A.good c.weight z)) o.1 (laws.join_right o.0.weight c.weight)) in
                  behind_push A run c d.weight
                  (λ k l s. not_before_trans A laws l.weight c.weight d.weight (low k l s) later)
                  later
            ];
      }

  growing_at : (o : Option ℕ) → V.destination ≡ o → Growing A V (beginning_at A V o)
  growing_at None e =
      record {
        sound = λ k l s. none_some l s;
        apart = λ i j x y a b. none_some x a;
        ordered = λ i j x y a b. none_some x a;
        begun = λ v t. none_some v (sym e ∙ t);
        behind = λ d h t k l s. none_some l s;
      }
  growing_at (Some t) e =
      let it = arrival A V t in
      let own : (k : ℕ) → Backed A V (it ∷ []) k it =
      λ k.
      record {
        hops = [];
        last = None;
        way = arrived e refl;
        within = neutral_good A laws V.bounds;
        records = stops refl refl;
        origin = destined e refl;
        below = λ h. inl (e, refl);
        marked = refl;
      } in
      record {
        sound = λ k l s. subst (Backed A V (it ∷ []) k) (only_same it k l s) (own k);
        apart = λ i j x y a b h n. absurd (only_once it i j x y a b h);
        ordered = λ i j x y a b h n. absurd (only_once it i j x y a b h);
        begun = λ v h.
            record {
              index = 0;
              label = it;
              stands = refl;
              there = some_same t v (sym e ∙ h);
              as_good = laws.good_refl A.neutral;
            };
        behind = λ d h u k l s.
            subst
            (λ z. NotBefore A d.weight z.weight)
            (only_same it k l s)
            (good_not_before A laws A.neutral d.weight (neutral_good A laws d.weight));
      }

  pub growing_begun : Growing A V (beginning A V)
  growing_begun = growing_at V.destination refl
