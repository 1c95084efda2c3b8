-- The candidates of a run: what each present link makes of each label that it meets at its head.
--   made A V p l k y          the label that the link l at the place p makes of the label y with the key k
--   of_labels A V p l t k ys  what l makes of those of ys at its head that pass t; the first of ys has the key k
--   of_side A V run p l s     what l makes if it leads to the side s: inside it meets each label of the run, and
--                             onward each marked label of the run before
--   of_place A V run p o      what the link o at the place p makes, if one is present
--   candidates A V run        what the links make, from place 0 on
--   Candidate A V run d       d is made so by some link and some label
use Rattle.std.specs.Prelude.{◌≡◌, ℕ, suc, ◌+◌, Bool, true, cond, ◌&&◌, T, [], ◌∷◌, Some, None, Option, ◌==◌}
use Rattle.std.specs.List.{range_with_len, flat_map, slice_get}
use Rattle.weights.specs.Algebra.{Algebra}
use Rattle.carriers.specs.declared.sides.Side.{Side}
use Rattle.carriers.specs.declared.sides.Side.TheVariants.{Inside, Onward}
use Rattle.carriers.specs.Carrier.{Link}
use Rattle.stepping.specs.declared.Label.{Label}
use Rattle.stepping.specs.Labels.{Labels}
use Rattle.stepping.specs.View.{View, Present}

abbrev pub made : (A : Algebra) (V : View A) → ℕ → Link A.Weight → ℕ → Label A.Weight → Label A.Weight
made A V p l k y =
    record {
      node = l.tail;
      weight = A.join l.weight y.weight;
      link = p;
      next = k;
      mark = V.marks l.tail;
    }

abbrev pub of_labels : (A : Algebra) (V : View A) → ℕ → Link A.Weight → (Label A.Weight → Bool) → ℕ
    → Labels A → Labels A
of_labels A V p l pass k [] = []
of_labels A V p l pass k (y ∷ ys) =
    cond
    (y.node == l.head && pass y)
    (made A V p l k y ∷ of_labels A V p l pass (suc k) ys)
    (of_labels A V p l pass (suc k) ys)

abbrev pub of_side : (A : Algebra) (V : View A) → Labels A → ℕ → Link A.Weight → Side → Labels A
of_side A V run p l Inside = of_labels A V p l (λ y. true) V.start run
of_side A V run p l Onward = of_labels A V p l (λ y. y.mark) V.before_start V.before

abbrev pub of_place : (A : Algebra) (V : View A) → Labels A → ℕ → Option (Link A.Weight) → Labels A
of_place A V run p None = []
of_place A V run p (Some l) = of_side A V run p l l.side

abbrev pub candidates : (A : Algebra) (V : View A) → Labels A → Labels A
candidates A V run = flat_map (λ p. of_place A V run p (V.at p)) (range_with_len 0 V.places)

pub data Candidate (A : Algebra) (V : View A) (run : Labels A) (d : Label A.Weight) : Type 0 where
  inside : (p : ℕ) (l : Link A.Weight) (k : ℕ) (y : Label A.Weight)
      → Present V p l
      → l.side ≡ Inside
      → slice_get run k ≡ Some y
      → y.node ≡ l.head
      → made A V p l (V.start + k) y ≡ d
      → Candidate A V run d
  onward : (p : ℕ) (l : Link A.Weight) (k : ℕ) (y : Label A.Weight)
      → Present V p l
      → l.side ≡ Onward
      → slice_get V.before k ≡ Some y
      → y.node ≡ l.head
      → T y.mark
      → made A V p l (V.before_start + k) y ≡ d
      → Candidate A V run d
