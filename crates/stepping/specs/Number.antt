-- The theorem on which weights the labels of a run that ended have at each node, and how many labels there are.
--   NonDominated A V v x   x is the weight of a way from v within the bounds, and no way from v within the bounds
--                          beats it
--   Lists P xs             xs has exactly what P holds of, each once
--   weights_at v run       the weights of the labels at v, in the order of their keys
--   Within A V n           each present link's tail, and the destination if there is one, is below n
--   Numbered A V run       at each node the labels have the non-dominated weights, each once; and the number of all
--                          labels is the sum, over the nodes below n, of how many non-dominated weights there are
use Rattle.std.specs.Prelude.{◌≡◌, ℕ, ◌<◌, T, List, map, length, Some, sum, filter, Option, nat_eq}
use Rattle.std.specs.List.{range_with_len, slice_get}
use Rattle.weights.specs.Algebra.{Algebra, Beats}
use Rattle.carriers.specs.Carrier.{Link}
use Rattle.stepping.specs.declared.Label.{Label}
use Rattle.stepping.specs.Labels.{Labels}
use Rattle.stepping.specs.View.{View, Present}
use Rattle.stepping.specs.Crossing.{done, crossing}
use Rattle.stepping.specs.Ways.{Way}

pub record NonDominated (A : Algebra) (V : View A) (v : ℕ) (x : A.Weight) : Type 0 where
  pub hops : List ℕ
  pub last : Option ℕ
  pub way : Way A V v x hops last
  pub within : T (A.good x V.bounds)
  pub unbeaten : (y : A.Weight) (hs : List ℕ) (o : Option ℕ)
      → Way A V v y hs o
      → T (A.good y V.bounds)
      → Beats A y x
      → ⊥

pub record Lists {X : Type 0} (P : X → Type 0) (xs : List X) : Type 0 where
  pub sound : (k : ℕ) (x : X) → slice_get xs k ≡ Some x → P x
  pub complete : (x : X) → P x → (k : ℕ) × (slice_get xs k ≡ Some x)
  pub once : (i j : ℕ) (x : X) → slice_get xs i ≡ Some x → slice_get xs j ≡ Some x → i ≡ j

abbrev pub weights_at : {W : Type 0} → ℕ → List (Label W) → List W
weights_at v run = map (λ l. l.weight) (filter (λ l. nat_eq l.node v) run)

pub record Within (A : Algebra) (V : View A) (n : ℕ) : Type 0 where
  pub tails : (p : ℕ) (l : Link A.Weight) → Present V p l → l.tail < n
  pub destination : (t : ℕ) → V.destination ≡ Some t → t < n

pub record Numbered (A : Algebra) (V : View A) (run : Labels A) : Type 0 where
  pub each : (v : ℕ) → Lists (NonDominated A V v) (weights_at v run)
  pub number : (n : ℕ)
      → Within A V n
      → (ws : ℕ → List A.Weight)
      → ((v : ℕ) → v < n → Lists (NonDominated A V v) (ws v))
      → length run ≡ sum (map (λ v. length (ws v)) (range_with_len 0 n))

abbrev pub Number : Algebra → Type 0
Number A = (V : View A) (n : ℕ) (run : Labels A) → crossing A V n ≡ done run → Numbered A V run
