-- Ways through one carrier, and what a label records of one.
--   Way A V v x hops last         a way from the node v of the weight x, which takes the links at the places hops, in
--                                 order. It arrives at the destination, and last is None; or its last link leads
--                                 onward onto a marked label of the run before, and last has that label's key
--   Records A V run l hops last   following link and next from the label l on gives hops and last
--   Origin A V run k l            where the label l at index k of the run comes from: it is the destination's own, or
--                                 was a candidate when the labels below it were settled
use Rattle.std.specs.Prelude.{◌≡◌, ℕ, ◌+◌, T, List, [], ◌∷◌, take, Some, None, Option}
use Rattle.std.specs.List.{slice_get}
use Rattle.weights.specs.Algebra.{Algebra}
use Rattle.carriers.specs.declared.sides.Side.TheVariants.{Inside, Onward}
use Rattle.carriers.specs.Carrier.{Link}
use Rattle.stepping.specs.declared.Label.{Label}
use Rattle.stepping.specs.Labels.{Labels, no_link}
use Rattle.stepping.specs.View.{View, Present}
use Rattle.stepping.specs.Candidates.{Candidate}
use Rattle.stepping.specs.Crossing.{arrival}

pub data Way (A : Algebra) (V : View A) : ℕ → A.Weight → List ℕ → Option ℕ → Type 0 where
  arrived : {v : ℕ} {x : A.Weight} → V.destination ≡ Some v → A.neutral ≡ x → Way A V v x [] None
  along : {v : ℕ} {x : A.Weight} {hops : List ℕ} {last : Option ℕ} (p : ℕ) (l : Link A.Weight)
      (y : A.Weight)
      → Present V p l
      → l.side ≡ Inside
      → Way A V l.head y hops last
      → l.tail ≡ v
      → A.join l.weight y ≡ x
      → Way A V v x (p ∷ hops) last
  onto : {v : ℕ} {x : A.Weight} (p : ℕ) (l : Link A.Weight) (k : ℕ) (y : Label A.Weight)
      → Present V p l
      → l.side ≡ Onward
      → slice_get V.before k ≡ Some y
      → y.node ≡ l.head
      → T y.mark
      → l.tail ≡ v
      → A.join l.weight y.weight ≡ x
      → Way A V v x (p ∷ []) (Some (V.before_start + k))

pub data Records (A : Algebra) (V : View A) (run : Labels A) : Label A.Weight → List ℕ → Option ℕ → Type 0 where
  stops : {l : Label A.Weight} → l.link ≡ no_link → l.next ≡ 0 → Records A V run l [] None
  goes : {l : Label A.Weight} {hops : List ℕ} {last : Option ℕ} (k : ℕ) (y : Label A.Weight)
      → slice_get run k ≡ Some y
      → l.next ≡ V.start + k
      → Records A V run y hops last
      → Records A V run l (l.link ∷ hops) last
  leaves : {l : Label A.Weight} (k : ℕ) (y : Label A.Weight)
      → slice_get V.before k ≡ Some y
      → l.next ≡ V.before_start + k
      → Records A V run l (l.link ∷ []) (Some (V.before_start + k))

pub data Origin (A : Algebra) (V : View A) (run : Labels A) (k : ℕ) (l : Label A.Weight) : Type 0 where
  destined : V.destination ≡ Some l.node → arrival A V l.node ≡ l → Origin A V run k l
  linked : Candidate A V (take k run) l → Origin A V run k l
