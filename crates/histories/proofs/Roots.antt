-- Where the labels of each layer stand in the memory, and at which position of the chain.
use Rattle.std.proofs.Common.{◌≡◌, ℕ, ◌+◌, ◌≤◌, ltb, List, [], ◌∷◌, ◌++◌, length, Some, ap, ◌∙◌, append_assoc, arith, length-append}
use Rattle.std.proofs.lemmas.Option.{slice_get_within}
use Rattle.std.specs.List.{slice_get}
use Rattle.std.proofs.lemmas.Bool.{lt-ltb, le-ltb, cond-true, cond-false}
use Rattle.stepping.specs.declared.Label.{Label}
use Rattle.stepping.specs.declared.Run.{Run}
use Rattle.histories.specs.Runs.{position}
use Rattle.histories.proofs.Places.{nth_skip, nth_left}
use Rattle.histories.proofs.Layers.{Layer, flat, span, spans, length_spans}

-- the label y at index k of the layer over ls
pub record Root {W : Type 0} (rs : List Run) (m : List (Label W)) (ls : List (Layer W)) (k : ℕ) (y : Label W) : Type 0 where
  pub stands : slice_get m (length (flat ls) + k) ≡ Some y
  pub placed : position rs (length (flat ls) + k) ≡ length ls

abbrev pub Rooted : {W : Type 0} → List Run → List (Label W) → List (Layer W) → Type 0
Rooted rs m [] = Unit {0}
Rooted {W} rs m (l ∷ ls) =
    ((k : ℕ) (y : Label W) → slice_get l.run k ≡ Some y → Root rs m ls k y) × Rooted rs m ls

module _ {W : Type 0} (m : List (Label W)) where
  -- one more run above
  rooted_under : (ls : List (Layer W)) (r : Run) (rs : List Run) → length (flat ls) ≤ r.start → Rooted rs m ls
      → Rooted (r ∷ rs) m ls
  rooted_under [] r rs h o = tt
  rooted_under (l ∷ ls) r rs h o =
      let a = length-append (flat ls) l.run in (
        λ k y e.
            let b = slice_get_within l.run k y e in
            let key = length (flat ls) + k in
            record {
              stands = (o.0 k y e).stands;
              placed = cond-true (ltb key r.start) _ _ (lt-ltb key r.start (omega arith)) ∙ (o.0 k y e).placed;
            },
        rooted_under ls r rs (omega arith) o.1,
      )

pub rooted : {W : Type 0} (ls : List (Layer W)) (m rest : List (Label W)) → m ≡ flat ls ++ rest
    → Rooted (spans ls) m ls
rooted [] m rest e = tt
rooted (l ∷ ls) m rest e =
    let split : m ≡ flat ls ++ (l.run ++ rest) = e ∙ append_assoc (flat ls) l.run rest in (
      λ k y f.
          let key = length (flat ls) + k in
          record {
            stands = ap (λ z. slice_get z key) split
                ∙ (nth_skip (flat ls) (l.run ++ rest) k ∙ nth_left l.run rest k y f);
            placed = cond-false (ltb key (length (flat ls))) _ _ (le-ltb key (length (flat ls)) (omega arith))
                ∙ length_spans ls;
          },
      rooted_under m ls (span l ls) (spans ls) (omega arith) (rooted ls m (l.run ++ rest) split),
    )
