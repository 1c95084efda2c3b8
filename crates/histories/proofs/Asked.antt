-- What count, item and expand answer after a history.
use Rattle.std.proofs.Common.{◌≡◌, ℕ, suc, ◌<◌, false, eqb, leb, List, ◌∷◌, length, Some, None, Ok, Err, ap, ◌∙◌, arith}
use Rattle.std.specs.Option.{ok_or}
use Rattle.std.specs.List.{slice_get}
use Rattle.std.proofs.lemmas.Bool.{eq-eqb, lt-leb, not_from_true, cond-false}
use Rattle.weights.specs.Algebra.{Algebra}
use Rattle.carriers.specs.Carrier.{Carrier}
use Rattle.carriers.specs.declared.refusals.Refusal.TheVariants as refusals
use Rattle.stepping.specs.Labels.{Labels}
use Rattle.histories.specs.declared.Item.{Item}
use Rattle.histories.specs.declared.Hop.{Hop}
use Rattle.histories.specs.Runs.{latest, used, labels_of}
use Rattle.histories.specs.Stages.{Progress, Stage, if_begun}
use Rattle.histories.specs.Rules.{refusal, unless, memory_rule, begun_rules, expand_rules}
use Rattle.histories.specs.Lists.{items, listed, on_count, on_item}
use Rattle.histories.specs.Expansion.{follow, into, on_expand}
use Rattle.histories.proofs.Layers.{Layer, flat, span, latest_labels}
use Rattle.histories.proofs.Standing.{Built}

-- at the stage s the request has come to p
abbrev pub Begun : {W : Type 0} → Stage W → Progress W → Type 1
Begun {W} s p = (X : Type 0) (x : X) (f : Progress W → X) → if_begun s x f ≡ f p

module _
    (A : Algebra) (cs : List (Carrier A.Weight)) (p : Progress A.Weight) (m : Labels A)
    (top : Layer A.Weight)
    (layers : List (Layer A.Weight))
    (built : Built A cs p m (top ∷ layers))
  where
    same_length : (memory_rule p m).0 ≡ false
    same_length = not_from_true (eqb (length m) p.memory) (eq-eqb (length m) p.memory built.length_is)

    passes : refusal (begun_rules p m) ≡ None
    passes = cond-false (memory_rule p m).0 _ _ same_length

    key_passes : (k : ℕ) → k < used p.runs → refusal (expand_rules p k m) ≡ None
    key_passes k h =
        cond-false (memory_rule p m).0 _ _ same_length
        ∙ cond-false (leb (used p.runs) k) _ _ (lt-leb (used p.runs) k h)

    module _ (s : Stage A.Weight) (begun : Begun s p) where
      pub expand_is : (k : ℕ) (hops slice : List Hop) → k < used p.runs
          → ((n : ℕ) → k < n → follow p.runs m n k ≡ Some hops) → on_expand s k m slice ≡ into slice (Ok hops)
      expand_is k hops slice u f =
          ap (into slice)
          (begun _ _ _
          ∙ (ap (λ o. unless o Err (ok_or (follow p.runs m (suc k) k) refusals.Key)) (key_passes k u)
          ∙ ap (λ o. ok_or o refusals.Key) (f (suc k) (omega arith))))

      module _ (v : ℕ) where
        abbrev its : List (Item A.Weight)
        its = items v (length (flat layers)) top.run

        listed_is : listed p v m ≡ its
        listed_is =
            ap (λ rs. items v (latest rs).start (labels_of (latest rs) m)) built.runs_are
            ∙ (ap (λ z. items v (length (flat layers)) (labels_of (span top layers) z)) built.memory_is
            ∙ ap (items v (length (flat layers))) (latest_labels (top ∷ layers) built.rest))

        pub item_is : (k : ℕ) → on_item s v k m ≡ ok_or (slice_get its k) refusals.Key
        item_is k =
            begun _ _ _
            ∙ (ap (λ o. unless o Err (ok_or (slice_get (listed p v m) k) refusals.Key)) passes
            ∙ ap (λ z. ok_or (slice_get z k) refusals.Key) listed_is)

        pub count_is : on_count s v m ≡ Ok (length its)
        count_is =
            begun _ _ _
            ∙ (ap (λ o. unless o Err (Ok (length (listed p v m)))) passes ∙ ap (λ z. Ok (length z)) listed_is)
